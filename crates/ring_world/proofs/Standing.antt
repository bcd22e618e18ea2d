-- A correct member and its node.
use Rattle.std.proofs.Common.{◌≡◌, ℕ, ◌+◌, ◌*◌, ◌<◌, Bool, true, false, not, List, get_or, Option, Some, None, is_some, IfSome, refl, sym, ap, ◌∙◌, subst}
use Rattle.ring_model.specs.Messages.{Ring, Letter, Party, Member as member}
use Rattle.ring_world.specs.declared.members.Members.{Members}
use Rattle.ring_world.specs.Standing.{Standing}
use Rattle.ring_world.specs.Crew.{AreMembers}

-- what is not so where a test fails is so
up : (b : Bool) → false ≡ not b → b ≡ true
up true e = refl
up false e = absurd (cc e)

pub down : (b : Bool) → true ≡ not b → b ≡ false
down true e = absurd (cc e)
down false e = refl

-- a member without a node is faulty
pub faulty_at : {N : Type 0} (stands : Standing N) (g : Ring) (m : Members N) (got : Party → List Letter) (archived : ℕ → ℕ) (i : ℕ) (node : Option N) → AreMembers stands g m got archived → i < 3 * g.f + 1
    → node ≡ get_or m.nodes.items i node → node ≡ None → g.is_faulty i ≡ true
faulty_at stands g m got archived i node are low is none = up (g.is_faulty i) (sym (ap is_some (sym is ∙ none)) ∙ are.there_are i node low)

-- one with a node is correct
pub correct_at : {N : Type 0} (stands : Standing N) (g : Ring) (m : Members N) (got : Party → List Letter) (archived : ℕ → ℕ) (i : ℕ) (node : Option N) (one : N) → AreMembers stands g m got archived → i < 3 * g.f + 1
    → node ≡ get_or m.nodes.items i node → node ≡ Some one → g.is_faulty i ≡ false
correct_at stands g m got archived i node one are low is some = down (g.is_faulty i) (sym (ap is_some (sym is ∙ some)) ∙ are.there_are i node low)

-- and its node stands for its letters
pub stands_at : {N : Type 0} (stands : Standing N) (g : Ring) (m : Members N) (got : Party → List Letter) (archived : ℕ → ℕ) (i : ℕ) (node : Option N) (one : N) → AreMembers stands g m got archived → i < 3 * g.f + 1
    → node ≡ get_or m.nodes.items i node → node ≡ Some one → stands one g i (got (member i)) (archived i)
stands_at stands g m got archived i node one are low is some = subst (λ n. IfSome n (λ one. stands one g i (got (member i)) (archived i))) (sym is ∙ some) (are.nodes_stand i node low)

-- a faulty member has none
pub none_at : {N : Type 0} (stands : Standing N) (g : Ring) (m : Members N) (got : Party → List Letter) (archived : ℕ → ℕ) (i : ℕ) (d : Option N) → AreMembers stands g m got archived → i < 3 * g.f + 1
    → g.is_faulty i ≡ true → get_or m.nodes.items i d ≡ None
none_at {N = N} stands g m got archived i d are low faulty = none (get_or m.nodes.items i d) (are.there_are i d low ∙ ap not faulty)
  where
    none : (o : Option N) → is_some o ≡ false → o ≡ None
    none None e = refl
    none (Some one) e = absurd (cc e)
