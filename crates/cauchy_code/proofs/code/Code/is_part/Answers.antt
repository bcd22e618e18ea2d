use Rattle.std.proofs.Common.{◌∙◌, sym, ap, ◌&&◌, nat_lt}
use Rattle.cauchy_code.specs.Code.{is_part}
use Rattle.cauchy_code.proofs.code.Code.is_part.Goals as goal

pub returns-then-self : goal.returns-then-self
unfolding is_part
returns-then-self c = sym (ap (λ s. s && nat_lt c.args.index c.self.inside.m) c.if-self.true) ∙ ap (λ code. is_part code c.args.index) c.self.view_is

pub returns-else-self : goal.returns-else-self
unfolding is_part
returns-else-self c = c.if-self.false ∙ sym (ap (λ s. s && nat_lt c.args.index c.self.inside.m) c.if-self.false) ∙ ap (λ code. is_part code c.args.index) c.self.view_is
