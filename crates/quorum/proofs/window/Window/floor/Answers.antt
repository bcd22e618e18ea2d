use Rattle.std.proofs.Common.{ap, sym, subst, ◌∙◌, ◌≤◌}
use Rattle.quorum.specs.Slots.{first_in}
use Rattle.quorum.proofs.Keeping.{first_is, dropped}
use Rattle.quorum.proofs.window.Window.floor.Goals as goal

pub returns-clause-dropped : goal.returns-clause-dropped
returns-clause-dropped c = λ p s j low.
    first_is c.args.self.now c.self.inside.slots.entries (ap (λ v. v.slots) c.self.view_is) p s j
    ∙ ap (λ o. first_in o p j) (dropped c.self.inside.floor c.self.inside.slots.entries c.self.invariant s (subst (λ n. s ≤ n) (sym (ap (λ v. v.floor) c.self.view_is)) low))
