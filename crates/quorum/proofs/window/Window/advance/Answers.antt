use Rattle.std.proofs.Common.{ap, sym, ◌∙◌, cond, nat_le, None}
use Rattle.quorum.specs.Slots.{first_in, kept_at}
use Rattle.quorum.proofs.Keeping.{first_is, first_of, kept_above, first_above}
use Rattle.quorum.proofs.window.Window.advance.Goals as goal

pub invariant_of-self : goal.invariant_of-self
invariant_of-self c = kept_above c.self.inside.floor c.args.floor.0 c.self.inside.slots.entries c.drop_to.new.slots.entries c.drop_to.ensures c.self.invariant

pub returns-clause-votes : goal.returns-clause-votes
returns-clause-votes c = λ p s j.
    first_of c.args.floor.0 c.drop_to.new.slots.entries p s j
    ∙ ap (λ o. first_in o p j) (c.drop_to.ensures s)
    ∙ first_above (nat_le s c.args.floor.0) (kept_at c.self.inside.slots.entries s) p j
    ∙ ap (cond (nat_le s c.args.floor.0) None) (sym (first_is c.args.self.now c.self.inside.slots.entries (ap (λ v. v.slots) c.self.view_is) p s j))
