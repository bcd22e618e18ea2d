-- The trees of objects.
use Rattle.std.proofs.Common.{◌≡◌, ◌==◌, ℕ, zero, suc, List, [], ◌∷◌, ◌++◌, length, slice_get, Option, Some, None, Bool, true, false, cond, unwrap_or, All, refl, ap, sym, ◌∙◌, subst, arith, length-append}
use Rattle.std.proofs.lemmas.Grind.{fold-append}
use Rattle.std.proofs.lemmas.List.Elements.{All-get_or}
use Rattle.std.proofs.lemmas.Option.{slice_get_within, get_or_from_slice_get}
use Rattle.std.proofs.lemmas.Slice.Eq.{bytes_eq-Decides}
use Rattle.std.specs.Option.{IfSome}
use Rattle.std.specs.Ordering.{nat_cmp}
use Rattle.std.specs.Str.{bytes_eq}
use Rattle.std.specs.Cmp.{unsigned_ties}
use Rattle.std.specs.Cmp.Lexicographic.{slice_cmp, lists_ties}
use Rattle.std.specs.BTreeMap.{is_at}
use Rattle.std.specs.Map.{lookup}
use lib.Dec.{eqb-zero-suc, eqb-suc-zero, eqb-suc-suc}
use Rattle.cow_tree.specs.Views.{TreeView}
use Rattle.object_fold.specs.Views.{ShelfView}
use Rattle.object_fold.specs.Added.{added_by, added_of, added_at}
use Rattle.object_fold.specs.Shelves.{tree_of, trees_of, tree_at, trees_in, later_at, last_tree, newest_in, HasOneLater}

-- there are as many trees as versions
pub length-trees_of : (h : List ℕ → List ℕ) (block : ℕ) (versions : List (List ℕ)) → length (trees_of h block versions) ≡ length versions
length-trees_of h block [] = refl
length-trees_of h block (content ∷ older) =
    omega (arith, length-append (trees_of h block older) (tree_of h block content older ∷ []), length-trees_of h block older)

-- the newest tree is that of the newest version
pub newest_is : (h : List ℕ → List ℕ) (block : ℕ) (shelf : ShelfView) (label content : List ℕ) (older : List (List ℕ))
    → trees_in shelf label ≡ trees_of h block (content ∷ older) → newest_in shelf label ≡ tree_of h block content older
newest_is h block shelf label content older e =
    ap (last_tree shelf.first) e ∙ fold-append (λ (before tree : TreeView). tree) shelf.first (trees_of h block older) (tree_of h block content older ∷ [])

-- what stands at a place of a list with one more
get_more : {X : Type 0} (xs : List X) (x : X) (k : ℕ) → slice_get (xs ++ x ∷ []) k ≡ cond (k == length xs) (Some x) (slice_get xs k)
get_more [] x zero = refl
get_more [] x (suc k) = ap (λ b. cond b (Some x) None) (sym (eqb-suc-zero k))
get_more (y ∷ ys) x zero = ap (λ b. cond b (Some x) (Some y)) (sym (eqb-zero-suc (length ys)))
get_more (y ∷ ys) x (suc k) = get_more ys x k ∙ ap (λ b. cond b (Some x) (slice_get ys k)) (sym (eqb-suc-suc k (length ys)))

-- the tree at a place is that of the version of this number
pub tree_there : (h : List ℕ → List ℕ) (block : ℕ) (versions : List (List ℕ)) (number : ℕ) → slice_get (trees_of h block versions) number ≡ tree_at h block versions number
tree_there h block [] number = refl
tree_there h block (content ∷ older) number =
    get_more (trees_of h block older) (tree_of h block content older) number
    ∙ ap (λ n. cond (number == n) (Some (tree_of h block content older)) (slice_get (trees_of h block older) number)) (length-trees_of h block older)
    ∙ ap (cond (number == length older) (Some (tree_of h block content older))) (tree_there h block older number)

length-added_of : (h : List ℕ → List ℕ) (block : ℕ) (versions : List (List ℕ)) → length (added_of h block versions) ≡ length versions
length-added_of h block [] = refl
length-added_of h block (content ∷ older) = omega (arith, length-append (added_of h block older) (added_by h block content older ∷ []), length-added_of h block older)

-- the same of what versions added
pub added_there : (h : List ℕ → List ℕ) (block : ℕ) (versions : List (List ℕ)) (number : ℕ) → slice_get (added_of h block versions) number ≡ added_at h block versions number
added_there h block [] number = refl
added_there h block (content ∷ older) number =
    get_more (added_of h block older) (added_by h block content older) number
    ∙ ap (λ n. cond (number == n) (Some (added_by h block content older)) (slice_get (added_of h block older) number)) (length-added_of h block older)
    ∙ ap (cond (number == length older) (Some (added_by h block content older))) (added_there h block older number)

-- what holds of each item holds of the one that is lent from a place
pub lent_one : {X R : Type 0} (P : X → Type 0) (now : R → X) (found : Option R) (xs : List X) (k : ℕ) → elim found as (λ _. Option X) [ None ↦ None | Some r ↦ Some (now r) ] ≡ slice_get xs k → All P xs → IfSome found (λ r. P (now r))
lent_one P now None xs k e all = tt
lent_one P now (Some r) xs k e all = subst P (get_or_from_slice_get xs k (now r) (now r) (sym e)) (All-get_or P xs k (now r) (slice_get_within xs k (now r) (sym e)) all)

-- labels are compared by their bytes
pub label_test : (a b : List ℕ) → bytes_eq a b ≡ is_at (slice_cmp nat_cmp a) b
label_test a b = lists_ties nat_cmp unsigned_ties a b

put_there : (same : Bool) (old : List (List ℕ × List TreeView)) (label other : List ℕ) (tree : TreeView) (trees : List TreeView) → (same ≡ true → label ≡ other) → trees ≡ later_at old label ++ tree ∷ []
    → unwrap_or (cond same (Some trees) (lookup (is_at (slice_cmp nat_cmp other)) old)) [] ≡ cond same (later_at old other ++ tree ∷ []) (later_at old other)
put_there true old label other tree trees is e = e ∙ ap (λ l. later_at old l ++ tree ∷ []) (is refl)
put_there false old label other tree trees is e = refl

-- the trees of a label that are put back with one more
pub put_more : (old new : List (List ℕ × List TreeView)) (label : List ℕ) (tree : TreeView) (trees : List TreeView)
    → ((other : List ℕ) → lookup (is_at (slice_cmp nat_cmp other)) new ≡ cond (is_at (slice_cmp nat_cmp label) other) (Some trees) (lookup (is_at (slice_cmp nat_cmp other)) old))
    → trees ≡ later_at old label ++ tree ∷ [] → HasOneLater old new label tree
put_more old new label tree trees put e other =
    ap (λ (o : Option (List TreeView)). unwrap_or o []) (put other ∙ ap (λ b. cond b (Some trees) (lookup (is_at (slice_cmp nat_cmp other)) old)) (sym (label_test label other)))
    ∙ put_there (bytes_eq label other) old label other tree trees (λ same. (bytes_eq-Decides label other).0 same) e
