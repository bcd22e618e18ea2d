-- What a node has done.
use Rattle.std.proofs.Common.{◌≡◌, ℕ, zero, suc, ◌-◌, ◌<◌, ◌≤◌, ◌^◌, List, [], ◌∷◌, ◌++◌, length, take, slice_get, Option, Some, None, refl, sym, ap, ◌∙◌, subst, arith}
use Rattle.std.specs.List.{AllByRecursion}
use Rattle.ring_message.specs.Grammar.{IsRequestString}
use Rattle.message_model.specs.Reading.{IsRingOf}
use Rattle.ring_model.specs.Messages.{Ring, Letter}
use Rattle.ring_model.specs.Member.{committed, executed}
use Rattle.ring_model.proofs.History.{Each-at}
use Rattle.ring_model.proofs.Lists.{run_none, at_some}
use Rattle.ring_member.specs.Members.{StandsFor, entry}
use Rattle.fold_model.specs.Folds.{namings_by}
use Rattle.fold_model.specs.Rings.{FoldsAs}
use Rattle.fold_model.proofs.Blocks.{one_block}
use Rattle.fold_model.proofs.Outcomes.{take_next}
use Rattle.pond_node.specs.declared.node.Node.{Node}
use Rattle.pond_node.specs.Standing.{AreOf, IsAsked, HasDone, HasAll}
use Rattle.pond_node.proofs.Steps.{same_naming}
use Rattle.pond_node.proofs.Letters.{executed_asked}

-- a node that nothing was delivered to
pub starts : (h : List ℕ → List ℕ) (node : Node) (g : Ring) (i : ℕ) → IsRingOf h g → StandsFor g i node.member [] → g.clients ≡ node.clients → FoldsAs h node.block g
    → AreOf h node.block [] node.objects node.outcomes → HasAll node g i []
starts h node g i ring member clients folds done =
    subst (λ n. HasDone n (executed g []) node g i []) (sym (same_naming h g ring))
    (subst (λ xs. HasDone h xs node g i []) (sym (run_none (committed g []) g.slots 1 refl))
    (record { member_stands = member; clients_are = clients; folds = folds; asked = tt; done_is = done }))

-- ---- the slot that comes next

no_entry : {X : Type 0} (xs : List X) (slot : ℕ) → 1 ≤ slot → slot ≤ length xs → entry xs slot ≡ None → ⊥
no_entry xs zero low high e = absurd (omega arith)
no_entry xs (suc k) low high e = let some = at_some xs k (omega arith) in absurd (cc (e, some.1))

pub taken_at : {X : Type 0} (xs : List X) (slot : ℕ) (x : X) → entry xs slot ≡ Some x → take (slot - 1) xs ++ x ∷ [] ≡ take slot xs
taken_at xs zero x e = absurd (cc e)
taken_at xs (suc k) x e = ap (λ n. take n xs ++ x ∷ []) (let less : suc k - 1 ≡ k = omega arith in less) ∙ (take_next xs k x e).0

asked_at : (g : Ring) (got : List Letter) (slot : ℕ) (string : List ℕ) → AllByRecursion (λ l. IsAsked l.message) got → entry (executed g got) slot ≡ Some string → IsRequestString string
asked_at g got zero string all e = absurd (cc e)
asked_at g got (suc k) string all e = Each-at IsRequestString (executed g got) k string (executed_asked g got all) e

-- a slot that the member has executed has a request
pub has_request : (h : List ℕ → List ℕ) (node : Node) (g : Ring) (i : ℕ) (got : List Letter) (done : List (List ℕ)) (slot : ℕ) (found : Option (List ℕ)) → HasDone h done node g i got → 1 ≤ slot → slot ≤ length (executed g got)
    → ((g : Ring) (i : ℕ) (got : List Letter) → StandsFor g i node.member got → found ≡ entry (executed g got) slot) → found ≡ None → ⊥
has_request h node g i got done slot found st low high looks none = no_entry (executed g got) slot low high (sym (looks g i got st.member_stands) ∙ none)

module _ (h : List ℕ → List ℕ) (node : Node) (g : Ring) (i : ℕ) (got : List Letter) (slot : ℕ) (string : List ℕ) (found : Option (List ℕ))
    (st : HasDone h (take (slot - 1) (executed g got)) node g i got) (looks : (g : Ring) (i : ℕ) (got : List Letter) → StandsFor g i node.member got → found ≡ entry (executed g got) slot) (some : found ≡ Some string) where
  there : entry (executed g got) slot ≡ Some string
  there = sym (looks g i got st.member_stands) ∙ some

  pub is_asked : IsRequestString string
  is_asked = asked_at g got slot string st.asked there

  pub is_taken : take (slot - 1) (executed g got) ++ string ∷ [] ≡ take slot (executed g got)
  is_taken = taken_at (executed g got) slot string there

  pub is_named : namings_by h node.block (take (slot - 1) (executed g got) ++ string ∷ []) ≡ g.namings (take slot (executed g got))
  is_named = ap (namings_by h node.block) is_taken ∙ sym (st.folds.named (take slot (executed g got)))

-- ---- what the node has done, by the block of the ring

pub by_block : (node : Node) (g : Ring) (i : ℕ) (got : List Letter) → HasAll node g i got → (block : ℕ) → block < 2 ^ 32 → FoldsAs g.h block g
    → AreOf g.h block (executed g got) node.objects node.outcomes
by_block node g i got st block small folds =
    subst (λ b. AreOf g.h b (executed g got) node.objects node.outcomes) (one_block g.h g node.block block (omega (arith, node.short_block)) small st.folds folds) st.done_is

-- a place counted from 1 is one less when it is counted from 0
pub entry_at : {X : Type 0} (xs : List X) (slot : ℕ) → 1 ≤ slot → slice_get xs (slot - 1) ≡ entry xs slot
entry_at xs zero low = absurd (omega arith)
entry_at xs (suc k) low = ap (slice_get xs) (let less : suc k - 1 ≡ k = omega arith in less)
