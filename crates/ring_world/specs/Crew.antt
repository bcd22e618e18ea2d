-- The members of a ring with their nodes.
use Rattle.std.specs.Prelude.{◌≡◌, ℕ, ◌+◌, ◌*◌, ◌<◌, not, cond, List, [], ◌∷◌, length, slice_index_or, Option, is_some, IfSome}
use Rattle.block_names.specs.Held.{Held}
use Rattle.pond_base.specs.declared.numbers.Party.{Party as Sender}
use Rattle.ring_model.specs.Messages.{Ring, Letter, Packet, Party, Member, same_party}
use Rattle.ring_model.specs.Member.{causes}
use Rattle.ring_model.specs.World.{IsParty}
use Rattle.message_model.specs.Meaning.{who}
use Rattle.message_model.specs.Reading.{IsRingOf}
use Rattle.ring_world.specs.declared.members.Members.{Members}
use Rattle.ring_world.specs.Standing.{Standing, Knowing}

-- a member has a node exactly where it is correct, and its node stands for what was delivered to it and for how many versions it archived
pub record AreMembers {N : Type 0} (stands : Standing N) (g : Ring) (m : Members N) (got : Party → List Letter) (archived : ℕ → ℕ) : Type 0 where
  pub count : length m.nodes.items ≡ 3 * g.f + 1
  pub there_are : (i : ℕ) (d : Option N) → i < 3 * g.f + 1 → is_some (slice_index_or m.nodes.items i d) ≡ not (g.is_faulty i)
  pub nodes_stand : (i : ℕ) (d : Option N) → i < 3 * g.f + 1 → IfSome (slice_index_or m.nodes.items i d) (λ node. stands node g i (got (Member i)) (archived i))

-- what is held has all that the nodes named
abbrev pub NodesKnown : {N : Type 0} → Knowing N → (List ℕ → List ℕ) → Held → Members N → Type 0
NodesKnown {N} knows h held m = (i : ℕ) (d : Option N) → i < length m.nodes.items → IfSome (slice_index_or m.nodes.items i d) (knows h held)

-- what was delivered, with a letter more to this party
abbrev pub with_letter : (Party → List Letter) → Party → Letter → Party → List Letter
with_letter got to l p = cond (same_party to p) (l ∷ got p) (got p)

-- the messages that a member owes for a letter more: a faulty one owes none
abbrev pub owed_for : Ring → ℕ → List Letter → Letter → List Packet
owed_for g i got l = cond (g.is_faulty i) [] (causes g i got (l ∷ got))

-- whatever was delivered before, a fact holds of it where the sender of a letter and its receiver are declared
abbrev pub ForLetter : {N : Type 0} → Standing N → (List ℕ → List ℕ) → Members N → Sender → ℕ → (Ring → (Party → List Letter) → (ℕ → ℕ) → Type 0) → Type 0
ForLetter stands h m from to P =
    (g : Ring) (got : Party → List Letter) (archived : ℕ → ℕ) → IsRingOf h g → IsParty g (who from) → to < 3 * g.f + 1 → AreMembers stands g m got archived → P g got archived
