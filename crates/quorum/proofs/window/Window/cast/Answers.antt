use Rattle.std.proofs.Common.{arith, ap, sym, refl, ◌∙◌, ◌≡◌}
use Rattle.quorum.specs.Slots.{first_in, is_voted}
use Rattle.std.specs.FinMap.{from_entries}
use Rattle.quorum.proofs.Keeping.{first_is, has_vote_is, kept_cast, blank, first_cast}
use Rattle.quorum.proofs.window.Window.cast.Goals as goal

pub returns-in_default-clause-memory : goal.returns-in_default-clause-memory
returns-in_default-clause-memory c =
    let floor : c.self.inside.floor ≡ c.args.self.now.floor = ap (λ v. v.floor) c.self.view_is in (
      omega (arith, floor, c.if-seq-self.false),
      has_vote_is c.args.self.now c.self.inside.slots.entries (ap (λ v. v.slots) c.self.view_is) c.args.seq.0 ∙ ap (λ o. is_voted (first_in o)) c.in_default.ensures.memory ∙ blank,
    )

pub invariant_of-self-2 : goal.invariant_of-self-2
invariant_of-self-2 c =
    kept_cast c.self.inside.floor c.args.seq.0 c.args.sender.0 c.args.phase c.args.name c.self.inside.slots.entries c.cast.new.slots.entries
    c.if-seq-self.false c.requires (omega arith) c.in-Ok.ensures.votes c.in-Ok.ensures.kept c.self.invariant

pub returns-clause-first : goal.returns-clause-first
returns-clause-first c =
    let same = first_is c.args.self.now c.self.inside.slots.entries (ap (λ v. v.slots) c.self.view_is) c.args.phase c.args.seq.0 c.args.sender.0 in
    let floor : c.self.inside.floor ≡ c.args.self.now.floor = ap (λ v. v.floor) c.self.view_is in
    (λ t. (omega (arith, floor, c.if-seq-self.false), same ∙ c.in-Ok.ensures.first.0 t), λ h. c.in-Ok.ensures.first.1 (sym same ∙ h.1))

pub returns-clause-votes : goal.returns-clause-votes
returns-clause-votes c =
    let floor : c.self.inside.floor ≡ c.args.self.now.floor = ap (λ v. v.floor) c.self.view_is in
    first_cast c.args.self.now (record { floor = c.self.inside.floor; slots = from_entries c.cast.new.slots.entries }) c.self.inside.slots.entries c.cast.new.slots.entries
    (ap (λ v. v.slots) c.self.view_is) refl c.args.phase c.args.seq.0 c.args.sender.0 c.args.name (omega (arith, floor, c.if-seq-self.false)) c.in-Ok.ensures.votes
