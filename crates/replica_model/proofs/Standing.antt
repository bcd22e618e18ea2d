-- What stands below the strings of a version.
use Rattle.std.proofs.Common.{◌≡◌, ◌<◌, ◌^◌, ◌*◌, ℕ, Bool, true, false, List, [], ◌∷◌, length, take, drop, if◌then◌else◌, refl, ap, ◌∙◌, arith, length-append}
use Rattle.std.proofs.lemmas.List.{take_at}
use Rattle.std.proofs.lemmas.Bool.{le-leb, eq-eqb}
use Rattle.std.specs.Int.{w32, to_be_bytes}
use Rattle.std.specs.Str.{bytes_eq}
use Rattle.tree_format.specs.declared.root.Root.{Root}
use Rattle.tree_format.specs.Strings.{leaf_string, inner_string, root_string, joined_names, names_in}
use Rattle.tree_format.specs.Grammar.{IsName, AreNames, AreWhole}
use Rattle.tree_format.proofs.Parts.{same_number}
use Rattle.tree_format.proofs.Names.{spelled_whole, only_names}
use Rattle.replica_model.specs.Walks.{below, are_whole, names_in_inner}
use Rattle.replica_model.proofs.Caching.{same_name}

-- nothing below a leaf
pub below_leaf : (content : List ℕ) → below (leaf_string content) ≡ []
unfolding below
below_leaf content = refl

is_whole : (count : ℕ) (names : List ℕ) → AreWhole count names → are_whole count names ≡ true
is_whole count names is = rw (le-leb 1 count is.some) (rw (le-leb count 64 is.most) (eq-eqb (length names) (20 * count) is.whole))

-- the names of an inner string are those in it
pub names_are : (names : List (List ℕ)) → AreNames names → names_in_inner (inner_string names) ≡ names
names_are names is =
    let whole = spelled_whole (inner_string names) (length names) (joined_names names) refl names is refl in
    ap (λ b. if b then names_in (length names) (joined_names names) else []) (is_whole (length names) (joined_names names) whole)
    ∙ only_names (inner_string names) (length names) (joined_names names) refl names is refl

-- and they stand below it
pub below_inner : (names : List (List ℕ)) → AreNames names → below (inner_string names) ≡ names
unfolding below
below_inner names is = names_are names is

long_root : (r : Root) → IsName r.top → IsName r.previous → length (root_string r) ≡ 54
long_root r top previous = let all = length-append r.top r.previous in omega (arith, all, top, previous)

top_there : (r : Root) → IsName r.top → take 20 (drop 14 (root_string r)) ≡ r.top
top_there r top = take_at r.top r.previous 20 top

in_root : (r : Root) (b : Bool) → IsName r.top → IsName r.previous → bytes_eq (to_be_bytes w32 r.length) (0 ∷ 0 ∷ 0 ∷ 0 ∷ []) ≡ b → below (root_string r) ≡ (if b then [] else r.top ∷ [])
unfolding below
in_root r b top previous e =
    ap (λ c. if c then (if bytes_eq (to_be_bytes w32 r.length) (0 ∷ 0 ∷ 0 ∷ 0 ∷ []) then [] else take 20 (drop 14 (root_string r)) ∷ []) else []) (eq-eqb (length (root_string r)) 54 (long_root r top previous))
    ∙ ap (λ c. if c then [] else take 20 (drop 14 (root_string r)) ∷ []) e
    ∙ ap (λ name. if b then [] else name ∷ []) (top_there r top)

-- nothing below the root of an empty version
pub below_empty : (r : Root) → IsName r.top → IsName r.previous → r.length ≡ 0 → below (root_string r) ≡ []
below_empty r top previous e = in_root r true top previous (ap (λ n. bytes_eq (to_be_bytes w32 n) (0 ∷ 0 ∷ 0 ∷ 0 ∷ [])) e)

-- and below any other its top
pub below_root : (r : Root) → IsName r.top → IsName r.previous → r.length < 2 ^ 32 → 0 < r.length → below (root_string r) ≡ r.top ∷ []
below_root r top previous small some = by (bytes_eq (to_be_bytes w32 r.length) (0 ∷ 0 ∷ 0 ∷ 0 ∷ [])) refl where
  by : (b : Bool) → bytes_eq (to_be_bytes w32 r.length) (0 ∷ 0 ∷ 0 ∷ 0 ∷ []) ≡ b → below (root_string r) ≡ r.top ∷ []
  by true e = let zero_length = same_number r.length 0 small (omega arith) (same_name (to_be_bytes w32 r.length) (0 ∷ 0 ∷ 0 ∷ 0 ∷ []) e) in absurd (omega (arith, some, zero_length))
  by false e = in_root r false top previous e
