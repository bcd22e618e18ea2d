-- The steps of the readers and of the writer keep the rule.
use Rattle.std.proofs.Common.{◌≡◌, ◌≢◌, ℕ, zero, suc, List, [], ◌∷◌, ◌++◌, fold, Option, Some, None, All, set, refl, ap, sym, ◌∙◌, subst, ⊎_elim}
use Rattle.std.proofs.lemmas.List.Elements.{All-head, All-tail}
use mathlib.Core.Option.{some, some-injective, some-ne-none}
use lib.ListN.{get_elem?}
use Rattle.left_right.specs.Register.{TurnsAt, Admits, Forks, Merges}
use Rattle.atomic_table.proofs.Lists.{at_set}
use Rattle.board_model.specs.Rule.{Published, GoesOn, IsSeen}
use Rattle.board_model.proofs.Kept.{goes_self, looks_keep, sees, comes, takes}
use Rattle.version_board.specs.Copies.{Copy, IsWhole, Holds, Looks}
use Rattle.version_board.specs.Changes.{changed, added}
use Rattle.version_board.specs.declared.change.Change.{Change}
use Rattle.version_board.specs.declared.change.Change.TheVariants.{Reach}
use Rattle.version_board.proofs.ChangeLemmas.{reached}

-- what holds of each item holds of the one at a place
at_place : {X : Type 0} (P : X → Type 0) (xs : List X) (i : ℕ) (x : X) → All P xs → get_elem? xs i ≡ some x → P x
at_place P [] i x all e = absurd (some-ne-none x (sym e))
at_place P (y ∷ ys) zero x all e = subst P (some-injective y x e) (All-head P y ys all)
at_place P (y ∷ ys) (suc i) x all e = at_place P ys i x (All-tail P y ys all) e

-- A step to a copy that is whole and goes on from the one before keeps the rule.
pub looks : (seat : ℕ) (seen : Option Published) (before after : Copy) → IsWhole after → GoesOn after.front before.front → TurnsAt Holds seat seen before after Looks
looks seat seen before after whole more all kept at = (
  Some after.front,
  (whole, looks_keep before.front after.front all seat kept.1 more),
  (whole, sees seen before.front after.front (at_place (IsSeen before.front) all seat seen kept.1 at) more),
)

-- so does a look at a copy that stays
pub looks_again : (seat : ℕ) (seen : Option Published) (copy : Copy) → TurnsAt Holds seat seen copy copy Looks
looks_again seat seen copy all kept at = looks seat seen copy copy kept.0 (goes_self copy.front) all kept at

-- so does the publishing of pending changes, the last of which is the list of all entries
pub publishes : (seat : ℕ) (seen : Option Published) (before next : Copy) (changes : List Change) (front : Published) → IsWhole before → front.board ≡ before.front.board
    → front.list ≡ before.list ++ added changes → next ≡ fold changed before (changes ++ Reach front ∷ []) → TurnsAt Holds seat seen before next Looks
publishes seat seen before next changes front whole board list is =
    subst (λ (n : Copy). TurnsAt Holds seat seen before n Looks) (sym (is ∙ reached before changes front list))
    (looks seat seen before (record { list = front.list; front = front }) refl (board, (added changes, ap (λ l. l ++ added changes) whole ∙ sym list)))

pub admits : Admits Holds None
admits copy all kept = (kept.0, comes copy.front all None tt kept.1)

pub forks : (seat : ℕ) (seen : Option Published) → Forks Holds seat seen seen seen
forks seat seen copy all kept at =
    let mine = at_place (IsSeen copy.front) all seat seen kept.1 at in
    (kept.0, comes copy.front (set all seat seen) seen mine (takes copy.front all seat seen mine kept.1))

pub merges : (seat : ℕ) (seen : Option Published) (other : ℕ) (told : Option Published) → Merges Holds seat seen other told told None
merges seat seen other told copy all kept at apart there =
    let was : get_elem? all other ≡ some told = ⊎_elim (λ (t : (other ≡ seat) × (told ≡ told)). absurd (apart t.0)) (λ (t : (other ≢ seat) × (get_elem? all other ≡ some told)). t.1) (at_set all seat other told told there) in
    let theirs = at_place (IsSeen copy.front) all other told kept.1 was in
    (kept.0, takes copy.front (set all seat told) other None tt (takes copy.front all seat told theirs kept.1))
