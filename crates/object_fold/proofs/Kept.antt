-- Objects stay known, and the strings of their versions are held.
use Rattle.std.proofs.Common.{◌≡◌, ℕ, true, cond, List, [], ◌∷◌, ◌++◌, All, refl, ◌∙◌, ap, subst}
use Rattle.std.specs.Str.{bytes_eq}
use Rattle.std.proofs.lemmas.List.Elements.{All-weaker, All-contains, All-nil, Contains-push}
use Rattle.std.proofs.lemmas.Slice.Eq.{bytes_eq-Decides}
use Rattle.block_names.specs.Held.{Held}
use Rattle.block_names.specs.Growth.{Holds, Keeps}
use Rattle.cow_tree.specs.Versions.{IsTreeIn}
use Rattle.cow_tree.proofs.Standing.{stays}
use Rattle.guarded_update.specs.declared.request.Request.{Request}
use Rattle.object_model.specs.Trees.{version_strings}
use Rattle.object_model.specs.Folds.{Made, Effect, Makes, Refuses, Repeats, effect, with_effect, made_by, versions_of, versions_after}
use Rattle.object_fold.specs.Executed.{AreAfter, AreKnown}
use Rattle.object_model.specs.Outcomes.{strings_of_effect, strings_named}
use Rattle.object_fold.specs.Shelves.{trees_in, trees_of, tree_of}
use Rattle.object_fold.specs.Views.{ObjectsView}
use Rattle.object_model.proofs.VersionLemmas.{one_more}
use Rattle.object_fold.proofs.HeldStrings.{held_strings}

pub known_still : (h : List ℕ → List ℕ) (held now : Held) (objects : ObjectsView) → Keeps held now → AreKnown h held objects → AreKnown h now objects
known_still h held now objects keeps k = record {
  block = k.block;
  requests = k.requests;
  after = k.after;
  known = λ label. All-weaker (IsTreeIn h held) (IsTreeIn h now) (λ tree is. stays h held now tree keeps is) (trees_in objects.trees label) (k.known label);
}

pub made_held : (h : List ℕ → List ℕ) (held : Held) (block : ℕ) (request : Request) (earlier : List Request) (objects : ObjectsView)
    → AreAfter h block (request ∷ earlier) objects → AreKnown h held objects → All (Holds h held) (strings_named h block request earlier)
made_held h held block request earlier objects after known = by (effect h block request earlier (made_by h block earlier)) refl
  where
    made : List Made
    made = made_by h block earlier

    label : List ℕ
    label = request.label

    is_own : bytes_eq label label ≡ true
    is_own = (bytes_eq-Decides label label).1 refl

    by : (e : Effect) → effect h block request earlier made ≡ e → All (Holds h held) (strings_of_effect h block e (versions_of label made))
    by (Refuses refusal) e = All-nil (Holds h held)
    by Repeats e = All-nil (Holds h held)
    by (Makes content) e =
        let versions : versions_after h block label (request ∷ earlier) ≡ content ∷ versions_of label made =
        ap (λ x. versions_of label (with_effect label x made)) e ∙ one_more label label content made ∙ ap (λ b. cond b (content ∷ versions_of label made) (versions_of label made)) is_own in
        let trees : trees_in objects.trees label ≡ trees_of h block (versions_of label made) ++ tree_of h block content (versions_of label made) ∷ [] =
        after.trees label ∙ ap (trees_of h block) versions in
        held_strings h held block content (versions_of label made)
        (All-contains (IsTreeIn h held) (trees_of h block (versions_of label made) ++ tree_of h block content (versions_of label made) ∷ []) (tree_of h block content (versions_of label made))
        (subst (All (IsTreeIn h held)) trees (known.known label)) (Contains-push (trees_of h block (versions_of label made)) (tree_of h block content (versions_of label made))))

-- before any request the strings of the empty version are held
pub first_held : (h : List ℕ → List ℕ) (held : Held) (block : ℕ) (objects : ObjectsView) → AreAfter h block [] objects → AreKnown h held objects → All (Holds h held) (version_strings h block [] [])
first_held h held block objects after known =
    held_strings h held block [] []
    (All-contains (IsTreeIn h held) (tree_of h block [] [] ∷ []) (tree_of h block [] []) (subst (All (IsTreeIn h held)) (after.trees []) (known.known [])) (Contains-push [] (tree_of h block [] [])))
