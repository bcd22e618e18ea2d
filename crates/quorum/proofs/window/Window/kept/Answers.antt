use Rattle.std.proofs.Common.{arith, ap, subst, ◌∙◌, ◌≡◌, length}
use Rattle.quorum.proofs.window.Window.kept.Goals as goal
use Rattle.quorum.specs.Windows.{kept_of}
use Rattle.quorum.specs.Slots.{IsKept}
use Rattle.quorum.proofs.Counted.{kept_is, kept_fits}

whole : (c : goal.After-len) → length c.self.inside.slots.entries ≡ kept_of c.args.self.now
whole c =
    kept_is c.args.self.now c.self.inside.slots.entries (ap (λ v. v.slots) c.self.view_is)
    (subst (λ n. IsKept n c.self.inside.slots.entries) (ap (λ v. v.floor) c.self.view_is) c.self.invariant) c.len.ensures.ordered

pub overflow_cast-result : goal.overflow_cast-result
overflow_cast-result c = omega (arith, c.len.ensures.len, kept_fits c.args.self.now, whole c)

pub returns : goal.returns
returns c = c.len.ensures.len ∙ whole c
