-- What pending changes make of a copy.
use Rattle.std.proofs.Common.{◌≡◌, List, [], ◌∷◌, ◌++◌, fold, refl, ap, sym, ◌∙◌, subst, append_assoc, Result, Err, MatchResult}
use Rattle.std.proofs.lemmas.List.{append-nil}
use Rattle.std.proofs.lemmas.Grind.{fold-append}
use Rattle.board_model.specs.Boards.{Entry}
use Rattle.board_model.specs.Rule.{Published}
use Rattle.version_board.specs.Copies.{Copy}
use Rattle.version_board.specs.Changes.{changed, added}
use Rattle.version_board.specs.declared.change.Change.{Change}
use Rattle.version_board.specs.declared.change.Change.TheVariants.{Add, Reach}

-- the entries after changes are those before, and those that the changes add
list_after : (copy : Copy) (changes : List Change) → (fold changed copy changes).list ≡ copy.list ++ added changes
list_after copy [] = sym (append-nil copy.list)
list_after copy (Add entry ∷ changes) = list_after (changed copy (Add entry)) changes ∙ append_assoc copy.list (entry ∷ []) (added changes)
list_after copy (Reach front ∷ changes) = list_after (changed copy (Reach front)) changes

pub added_entry : (changes : List Change) (entry : Entry) → added (changes ++ Add entry ∷ []) ≡ added changes ++ entry ∷ []
added_entry [] entry = refl
added_entry (Add other ∷ changes) entry = ap (λ entries. other ∷ entries) (added_entry changes entry)
added_entry (Reach front ∷ changes) entry = added_entry changes entry

pub added_front : (changes : List Change) (front : Published) → added (changes ++ Reach front ∷ []) ≡ added changes
added_front [] front = refl
added_front (Add other ∷ changes) front = ap (λ entries. other ∷ entries) (added_front changes front)
added_front (Reach other ∷ changes) front = added_front changes front

-- where the last change is the list of all entries, they are that list
pub reached : (copy : Copy) (changes : List Change) (front : Published) → front.list ≡ copy.list ++ added changes
    → fold changed copy (changes ++ Reach front ∷ []) ≡ record { list = front.list; front = front }
reached copy changes front is =
    fold-append changed copy changes (Reach front ∷ [])
    ∙ ap (λ (list : List Entry). record { list = list; front = front }) (list_after copy changes ∙ sym is)

-- what a result that is an error tells
pub on_err : {A E : Type 0} (r : Result A E) (P : A → Type 0) (Q : E → Type 0) (e : E) → r ≡ Err e → MatchResult r P Q → Q e
on_err r P Q e is m = subst (λ r. MatchResult r P Q) is m
