-- The roots of versions are roots.
use Rattle.std.proofs.Common.{◌≡◌, ℕ, ◌<◌, ◌≤◌, ◌^◌, List, [], ◌∷◌, length, map, refl, ap, ◌∙◌, arith}
use Rattle.std.specs.List.{flat_map, fold}
use Rattle.std.proofs.lemmas.List.{length-map}
use Rattle.tree_format.specs.Strings.{leaf_string, root_string, height_over, no_name}
use Rattle.tree_format.specs.Grammar.{IsRoot}
use Rattle.object_model.specs.Pieces.{pieces}
use Rattle.object_model.specs.Trees.{leaf_row, rows_from, strings_of, last_name, version_name, root_after, root_of}
use Rattle.object_model.specs.Updates.{largest}
use Rattle.object_model.proofs.PieceLemmas.{pieces_nil, count_pieces}

last_is_long : (h : List ℕ → List ℕ) (strings : List (List ℕ)) (start : List ℕ) → ((string : List ℕ) → length (h string) ≡ 20) → length start ≡ 20 → length (fold (λ name string. h string) start strings) ≡ 20
last_is_long h [] start long e = e
last_is_long h (string ∷ strings) start long e = last_is_long h strings (h string) long (long string)

name_is_long : (h : List ℕ → List ℕ) (block : ℕ) (versions : List (List ℕ)) → ((string : List ℕ) → length (h string) ≡ 20) → length (version_name h block versions) ≡ 20
name_is_long h block [] long = refl
name_is_long h block (content ∷ older) long = long (root_string (root_after h block (length older) (version_name h block older) content))

none : {X : Type 0} (xs : List X) → length xs ≡ 0 → xs ≡ []
none [] e = refl
none (x ∷ xs) e = absurd (omega arith)

no_leaves : (block : ℕ) → 0 < block → leaf_row block [] ≡ []
no_leaves block p = ap (map leaf_string) (pieces_nil block p)

no_strings : (h : List ℕ → List ℕ) (block : ℕ) → 0 < block → strings_of h block [] ≡ []
no_strings h block p = ap (λ row. flat_map (λ xs. xs) (rows_from h (height_over (length row)) row)) (no_leaves block p)

pub is_root : (h : List ℕ → List ℕ) (block : ℕ) (content : List ℕ) (older : List (List ℕ)) → ((string : List ℕ) → length (h string) ≡ 20)
    → 64 ≤ block → block ≤ 8192 → length content ≤ largest → length older < 2 ^ 32 → (older ≡ [] → content ≡ []) → IsRoot (root_of h block content older)
is_root h block content older long least most small few first = record {
  version = few;
  small = small;
  least = least;
  most = most;
  height = ap height_over (length-map (pieces block content) leaf_string ∙ count_pieces block content);
  top = last_is_long h (strings_of h block content) no_name long refl;
  previous = name_is_long h block older long;
  empty = λ e. ap (λ xs. last_name h (strings_of h block xs)) (none content e) ∙ ap (last_name h) (no_strings h block (omega arith));
  first = λ e. ap length (first (none older e));
  nothing = λ e. ap (version_name h block) (none older e);
}
