use Rattle.std.proofs.Common.{ap, sym, ◌∙◌}
use Rattle.std.specs.FinMap as map
use Rattle.block_names.proofs.Map.{get_at}
use Rattle.block_names.proofs.pool.Pool.get.Goals as goal

pub returns : goal.returns
returns c = c.get.ensures.value ∙ sym (get_at c.self.inside.strings.entries c.args.name) ∙ ap (λ held. map.get held c.args.name) c.self.view_is
