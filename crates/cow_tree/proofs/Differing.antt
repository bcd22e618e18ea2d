-- Where rows and trees differ.
use Rattle.std.proofs.Common.{◌≡◌, ℕ, zero, suc, ◌+◌, ◌<◌, ◌≤◌, cond, List, [], ◌∷◌, ◌++◌, length, take, drop, Option, None, Some, slice_get, get_or, refl, ap, ap₂, sym, ◌∙◌, arith, length-drop}
use Rattle.std.proofs.lemmas.List.{append_assoc, append-nil}
use Rattle.std.proofs.Math.Seq.{take-nil as none_taken}
use Rattle.std.proofs.lemmas.Slice.Eq.{bytes_eq-Decides}
use Rattle.tree_format.specs.Strings.{inner_string, joined_names}
use Rattle.tree_format.specs.Grammar.{AreNames}
use Rattle.tree_format.proofs.Names.{joined_names-injective}
use Rattle.object_model.specs.Pieces.{pieces}
use Rattle.object_model.proofs.PieceLemmas.{pieces_cons, pieces_nil}
use Rattle.cow_tree.specs.Views.{NodeView}
use Rattle.cow_tree.specs.Rows.{names_in}
use Rattle.cow_tree.specs.Groups.{in_groups, IsGrouped}
use Rattle.cow_tree.specs.Changed.{paired, unless_there, changed_in_row, changed_in_rows}

drop_first : {X : Type 0} (xs : List X) (k : ℕ) → slice_get (drop 1 xs) k ≡ slice_get xs (suc k)
drop_first [] k = refl
drop_first (x ∷ xs) k = refl

-- one item more
paired_last : {X Y : Type 0} (f : X → Option X → List Y) (xs before : List X) (x : X) → paired f (xs ++ x ∷ []) before ≡ paired f xs before ++ f x (slice_get before (length xs))
paired_last f [] before x = append-nil (f x (slice_get before 0))
paired_last f (y ∷ ys) before x =
    ap (λ r. f y (slice_get before 0) ++ r) (paired_last f ys (drop 1 before) x ∙ ap (λ o. paired f ys (drop 1 before) ++ f x o) (drop_first before (length ys)))
    ∙ sym (append_assoc (f y (slice_get before 0)) (paired f ys (drop 1 before)) (f x (slice_get before (suc (length ys)))))

-- the items up to a place, and the one there
pub taken_next : {X : Type 0} (xs : List X) (k : ℕ) (x : X) → k < length xs → x ≡ get_or xs k x → (take (k + 1) xs ≡ take k xs ++ x ∷ []) × (length (take k xs) ≡ k)
taken_next [] k x within is = absurd (omega arith)
taken_next (y ∷ ys) zero x within is = (ap (λ z. z ∷ []) (sym is), refl)
taken_next (y ∷ ys) (suc k) x within is =
    let rest = taken_next ys k x (omega arith) is in
    let next : suc k + 1 ≡ suc (k + 1) = omega arith in
    (ap (λ n. take n (y ∷ ys)) next ∙ ap (λ zs. y ∷ zs) rest.0, ap suc rest.1)

-- what was gathered of the items up to a place, with what the next one gives
pub paired_next : {X Y : Type 0} (f : X → Option X → List Y) (xs before : List X) (k : ℕ) (x : X) (start out new : List Y) → k < length xs → x ≡ get_or xs k x → out ≡ start ++ paired f (take k xs) before
    → new ≡ out ++ f x (slice_get before k) → new ≡ start ++ paired f (take (k + 1) xs) before
paired_next f xs before k x start out new within at is more =
    let t = taken_next xs k x within at in
    more ∙ ap (λ o. o ++ f x (slice_get before k)) is ∙ append_assoc start (paired f (take k xs) before) (f x (slice_get before k))
    ∙ ap (λ n. start ++ (paired f (take k xs) before ++ f x (slice_get before n))) (sym t.1)
    ∙ ap (λ r. start ++ r) (sym (paired_last f (take k xs) before x) ∙ ap (λ ys. paired f ys before) (sym t.0))

none_dropped : {X : Type 0} (xs : List X) (n : ℕ) → xs ≡ [] → drop n xs ≡ []
none_dropped [] zero e = refl
none_dropped [] (suc n) e = refl
none_dropped (x ∷ xs) n e = absurd (cc)

-- a list in two parts
paired_split : {X Y : Type 0} (f : X → Option X → List Y) (n : ℕ) (xs before : List X) → paired f xs before ≡ paired f (take n xs) (take n before) ++ paired f (drop n xs) (drop n before)
paired_split f zero xs before = refl
paired_split f (suc n) [] before = refl
paired_split f (suc n) (x ∷ xs) [] =
    ap (λ r. f x None ++ r) (paired_split f n xs [] ∙ ap₂ (λ a b. paired f (take n xs) a ++ paired f (drop n xs) b) (none_taken n) (none_dropped [] n refl)) ∙ sym (append_assoc (f x None) (paired f (take n xs) []) (paired f (drop n xs) []))
paired_split f (suc n) (x ∷ xs) (b ∷ before) =
    ap (λ r. f x (Some b) ++ r) (paired_split f n xs before) ∙ sym (append_assoc (f x (Some b)) (paired f (take n xs) (take n before)) (paired f (drop n xs) (drop n before)))

pieces_changed : (n : ℕ) (xs before : List NodeView) → length xs ≤ n → changed_in_rows (pieces 64 xs) (pieces 64 before) ≡ changed_in_row xs before
pieces_changed n [] before l = ap (λ rows. changed_in_rows rows (pieces 64 before)) (pieces_nil 64 (omega arith))
pieces_changed zero (x ∷ xs) before l = absurd (omega arith)
pieces_changed (suc n) (x ∷ xs) [] l =
    let ys : List NodeView = x ∷ xs in
    let less : length (drop 64 ys) ≤ n = omega (arith, length-drop 64 ys) in
    ap₂ changed_in_rows (pieces_cons 64 ys (omega arith) (omega arith)) (pieces_nil 64 (omega arith))
    ∙ ap (λ rows. changed_in_row (take 64 ys) [] ++ changed_in_rows (pieces 64 (drop 64 ys)) rows) (sym (pieces_nil 64 (omega arith)))
    ∙ ap (λ r. changed_in_row (take 64 ys) [] ++ r) (pieces_changed n (drop 64 ys) [] less)
    ∙ sym (paired_split unless_there 64 ys [] ∙ ap₂ (λ a b. changed_in_row (take 64 ys) a ++ changed_in_row (drop 64 ys) b) (none_taken 64) (none_dropped [] 64 refl))
pieces_changed (suc n) (x ∷ xs) (b ∷ before) l =
    let ys : List NodeView = x ∷ xs in
    let bs : List NodeView = b ∷ before in
    let less : length (drop 64 ys) ≤ n = omega (arith, length-drop 64 ys) in
    ap₂ changed_in_rows (pieces_cons 64 ys (omega arith) (omega arith)) (pieces_cons 64 bs (omega arith) (omega arith))
    ∙ ap (λ r. changed_in_row (take 64 ys) (take 64 bs) ++ r) (pieces_changed n (drop 64 ys) (drop 64 bs) less)
    ∙ sym (paired_split unless_there 64 ys bs)

-- what changed in groups is what changed in the row that they are
pub groups_changed : (groups others : List (List NodeView)) → IsGrouped groups → IsGrouped others → changed_in_rows groups others ≡ changed_in_row (in_groups groups) (in_groups others)
groups_changed groups others is are = ap₂ changed_in_rows is are ∙ pieces_changed (length (in_groups groups)) (in_groups groups) (in_groups others) (omega arith)

same_head : {X : Type 0} (x y : X) (xs ys : List X) → x ∷ xs ≡ y ∷ ys → (x ≡ y) × (xs ≡ ys)
same_head x y xs ys e = (cc, cc)

-- where the names are the same nothing changed
pub none_changed : (row before : List NodeView) → names_in row ≡ names_in before → changed_in_row row before ≡ []
none_changed [] before e = refl
none_changed (n ∷ row) [] e = absurd (cc)
none_changed (n ∷ row) (b ∷ before) e =
    let same = same_head n.name b.name (names_in row) (names_in before) e in
    ap (λ t. cond t [] (n ∷ []) ++ changed_in_row row before) ((bytes_eq-Decides b.name n.name).1 (sym same.0)) ∙ none_changed row before same.1

-- two inner strings are the same only of the same names
pub same_names : (a b : List (List ℕ)) → AreNames a → AreNames b → inner_string a ≡ inner_string b → a ≡ b
same_names a b are these e =
    let rest = same_head 2 2 (length a ∷ joined_names a) (length b ∷ joined_names b) e in
    let parts = same_head (length a) (length b) (joined_names a) (joined_names b) rest.1 in
    joined_names-injective a b parts.0 are.whole these.whole parts.1
