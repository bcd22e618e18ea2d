-- Strings that are no inner strings.
use Rattle.std.proofs.Common.{◌≡◌, ◌≤◌, ◌+◌, ◌++◌, ℕ, zero, suc, Bool, true, false, List, [], ◌∷◌, Some, slice_get, length, take, drop, slice_index, if◌then◌else◌, refl, ap, ◌∙◌, arith}
use Rattle.tree_format.specs.Strings.{inner_string, names_in}
use Rattle.tree_format.specs.Grammar.{AreNames, AreWhole}
use Rattle.tree_format.proofs.Names.{joined_string, whole_names}
use Rattle.replica_model.specs.Walks.{are_whole, names_in_inner}
use Rattle.replica_model.proofs.Counting.{whole_parts}

two_cells : (string : List ℕ) → 1 ≤ length (drop 2 string) → string ≡ slice_index string 0 ∷ slice_index string 1 ∷ drop 2 string
two_cells [] some = absurd (omega arith)
two_cells (a ∷ []) some = absurd (omega arith)
two_cells (a ∷ b ∷ rest) some = refl

-- the kind and the count, and behind them so many whole names, are an inner string
spelled : (string : List ℕ) → slice_index string 0 ≡ 2 → AreWhole (slice_index string 1) (drop 2 string) → string ≡ inner_string (names_in (slice_index string 1) (drop 2 string))
spelled string kind whole =
    let some : 1 ≤ length (drop 2 string) = omega (arith, whole.some, whole.whole) in
    joined_string string (slice_index string 1) (drop 2 string) (two_cells string some ∙ ap (λ k. k ∷ slice_index string 1 ∷ drop 2 string) kind) whole

-- where no names have the string, it has none
pub no_inner : (string : List ℕ) → slice_index string 0 ≡ 2 → ((names : List (List ℕ)) → AreNames names → string ≡ inner_string names → ⊥) → [] ≡ names_in_inner string
no_inner string kind none = by (are_whole (slice_index string 1) (drop 2 string)) refl where
  by : (b : Bool) → are_whole (slice_index string 1) (drop 2 string) ≡ b → [] ≡ (if b then names_in (slice_index string 1) (drop 2 string) else [])
  by true e =
      let parts = whole_parts (slice_index string 1) (drop 2 string) e in
      let whole : AreWhole (slice_index string 1) (drop 2 string) = record { some = parts.0; most = parts.1; whole = parts.2 } in
      absurd (none (names_in (slice_index string 1) (drop 2 string)) (whole_names (slice_index string 1) (drop 2 string) whole) (spelled string kind whole))
  by false e = refl

-- one name more
pub take_one : (names : List (List ℕ)) (k : ℕ) (name : List ℕ) → slice_get names k ≡ Some name → take (k + 1) names ≡ take k names ++ name ∷ []
take_one [] k name e = cc
take_one (x ∷ xs) zero name e = let same : x ≡ name = cc in ap (λ (y : List ℕ). y ∷ []) same
take_one (x ∷ xs) (suc k) name e = ap (λ n. take n (x ∷ xs)) (let s : suc k + 1 ≡ suc (k + 1) = omega arith in s) ∙ ap (λ (ys : List (List ℕ)). x ∷ ys) (take_one xs k name e)
