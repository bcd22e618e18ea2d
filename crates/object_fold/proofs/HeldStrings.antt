-- The strings of trees that a book holds.
use Rattle.std.proofs.Common.{ℕ, List, [], ◌∷◌, ◌++◌, All, refl, sym, ◌∙◌, subst}
use Rattle.std.specs.List.{AllByRecursion}
use Rattle.std.proofs.lemmas.List.Elements.{All-append, All-nil}
use Rattle.block_names.specs.Held.{Held}
use Rattle.block_names.specs.Growth.{Holds}
use Rattle.object_model.specs.Trees.{version_strings, strings_so_far}
use Rattle.cow_tree.specs.Versions.{IsTreeIn}
use Rattle.cow_tree.proofs.Standing.{strings_stood_for}
use Rattle.object_fold.specs.Shelves.{trees_of, tree_of}

-- a tree whose strings are held is one of its versions
pub held_strings : (h : List ℕ → List ℕ) (held : Held) (block : ℕ) (content : List ℕ) (older : List (List ℕ)) → IsTreeIn h held (tree_of h block content older) → All (Holds h held) (version_strings h block content older)
held_strings h held block content older is =
    subst (All (Holds h held)) (sym (strings_stood_for h is.block (tree_of h block content older) is.bytes is.older is.stands) ∙ strings_stood_for h block (tree_of h block content older) content older refl) is.known

all_but_last : {X : Type 0} (P : X → Type 0) (xs : List X) (x : X) → AllByRecursion P (xs ++ x ∷ []) → AllByRecursion P xs × P x
all_but_last P [] x all = (tt, all.0)
all_but_last P (y ∷ ys) x all = let rest = all_but_last P ys x all.1 in ((all.0, rest.0), rest.1)

-- where the trees of versions are held so are all their strings
pub all_held : (h : List ℕ → List ℕ) (held : Held) (block : ℕ) (versions : List (List ℕ)) → AllByRecursion (IsTreeIn h held) (trees_of h block versions) → All (Holds h held) (strings_so_far h block versions)
all_held h held block [] all = All-nil (Holds h held)
all_held h held block (content ∷ older) all =
    let parts = all_but_last (IsTreeIn h held) (trees_of h block older) (tree_of h block content older) all in
    All-append (Holds h held) (strings_so_far h block older) (version_strings h block content older) (all_held h held block older parts.0) (held_strings h held block content older parts.1)
