-- Names, one after the other.
use Rattle.std.proofs.Common.{◌≡◌, ℕ, zero, suc, ◌+◌, ◌*◌, ◌<◌, List, [], ◌∷◌, ◌++◌, Some, slice_get, length, take, drop, refl, ap, sym, ◌∙◌, arith, length-append, length-drop, length-take-le, take-append-drop}
use Rattle.std.specs.List.{AllByRecursion}
use Rattle.std.proofs.lemmas.List.{drop-drop}
use Rattle.tree_format.specs.Strings.{names_in, joined_names, inner_string}
use Rattle.tree_format.specs.Grammar.{IsName, AreNames, AreWhole}
use Rattle.tree_format.proofs.Parts.{same_parts}

no_bytes : (bytes : List ℕ) → length bytes ≡ 0 → bytes ≡ []
no_bytes [] e = refl
no_bytes (byte ∷ bytes) e = absurd (omega arith)

-- so many names are in bytes
pub length-names_in : (count : ℕ) (bytes : List ℕ) → length (names_in count bytes) ≡ count
length-names_in zero bytes = refl
length-names_in (suc count) bytes = ap suc (length-names_in count (drop 20 bytes))

-- bytes that are whole names are the names in them, joined
pub joined-names_in : (count : ℕ) (bytes : List ℕ) → length bytes ≡ 20 * count → joined_names (names_in count bytes) ≡ bytes
joined-names_in zero bytes e = sym (no_bytes bytes e)
joined-names_in (suc count) bytes e =
    let rest : length (drop 20 bytes) ≡ 20 * count = omega (arith, length-drop 20 bytes) in
    ap (λ xs. take 20 bytes ++ xs) (joined-names_in count (drop 20 bytes) rest) ∙ take-append-drop 20 bytes

pub are_names_in : (count : ℕ) (bytes : List ℕ) → length bytes ≡ 20 * count → AllByRecursion IsName (names_in count bytes)
are_names_in zero bytes e = tt
are_names_in (suc count) bytes e =
    let rest : length (drop 20 bytes) ≡ 20 * count = omega (arith, length-drop 20 bytes) in
    (length-take-le 20 bytes (omega arith), are_names_in count (drop 20 bytes) rest)

same_cons : (x y : List ℕ) (xs ys : List (List ℕ)) → x ≡ y → xs ≡ ys → x ∷ xs ≡ y ∷ ys
same_cons x y xs ys e f = cc

-- names that are joined in one way are the same names
pub joined_names-injective : (xs ys : List (List ℕ)) → length xs ≡ length ys → AllByRecursion IsName xs → AllByRecursion IsName ys → joined_names xs ≡ joined_names ys → xs ≡ ys
joined_names-injective [] [] len p q e = refl
joined_names-injective [] (y ∷ ys) len p q e = absurd (omega arith)
joined_names-injective (x ∷ xs) [] len p q e = absurd (omega arith)
joined_names-injective (x ∷ xs) (y ∷ ys) len p q e =
    let parts = same_parts x y (joined_names xs) (joined_names ys) (p.0 ∙ sym q.0) e in
    same_cons x y xs ys parts.0 (joined_names-injective xs ys (omega arith) p.1 q.1 parts.1)

pub length-joined_names : (xs : List (List ℕ)) → AllByRecursion IsName xs → length (joined_names xs) ≡ 20 * length xs
length-joined_names [] p = refl
length-joined_names (x ∷ xs) p = omega (arith, length-append x (joined_names xs), p.0, length-joined_names xs p.1)

-- the name at a place
pub name_at : (count : ℕ) (bytes : List ℕ) (k : ℕ) → k < count → slice_get (names_in count bytes) k ≡ Some (take 20 (drop (20 * k) bytes))
name_at zero bytes k p = absurd (omega arith)
name_at (suc count) bytes zero p = refl
name_at (suc count) bytes (suc k) p =
    name_at count (drop 20 bytes) k (omega arith)
    ∙ ap (λ xs. Some (take 20 xs)) (drop-drop (20 * k) 20 bytes ∙ ap (λ n. drop n bytes) (let e : 20 + 20 * k ≡ 20 * suc k = omega arith in e))

pub whole_names : (count : ℕ) (bytes : List ℕ) → AreWhole count bytes → AreNames (names_in count bytes)
whole_names count bytes is = record {
  some = omega (arith, length-names_in count bytes, is.some);
  most = omega (arith, length-names_in count bytes, is.most);
  whole = are_names_in count bytes is.whole;
}

-- the bytes of whole names are their inner string
pub joined_string : (bytes : List ℕ) (count : ℕ) (rest : List ℕ) → bytes ≡ 2 ∷ count ∷ rest → AreWhole count rest → bytes ≡ inner_string (names_in count rest)
joined_string bytes count rest e is =
    e ∙ ap (λ xs. 2 ∷ count ∷ xs) (sym (joined-names_in count rest is.whole))
    ∙ ap (λ n. 2 ∷ n ∷ joined_names (names_in count rest)) (sym (length-names_in count rest))

same_cells : (a b n m : ℕ) (xs ys : List ℕ) → a ∷ n ∷ xs ≡ b ∷ m ∷ ys → (n ≡ m) × (xs ≡ ys)
same_cells a b n m xs ys e = (cc, cc)

-- an inner string has the bytes of whole names
pub spelled_whole : (bytes : List ℕ) (count : ℕ) (rest : List ℕ) → bytes ≡ 2 ∷ count ∷ rest → (names : List (List ℕ)) → AreNames names → bytes ≡ inner_string names → AreWhole count rest
spelled_whole bytes count rest f names is e =
    let parts = same_cells 2 2 count (length names) rest (joined_names names) (sym f ∙ e) in
    record {
      some = omega (arith, parts.0, is.some);
      most = omega (arith, parts.0, is.most);
      whole = ap length parts.1 ∙ length-joined_names names is.whole ∙ ap (λ n. 20 * n) (sym parts.0);
    }

-- an inner string is that of its names alone
pub only_names : (bytes : List ℕ) (count : ℕ) (rest : List ℕ) → bytes ≡ 2 ∷ count ∷ rest → (names : List (List ℕ)) → AreNames names → bytes ≡ inner_string names → names_in count rest ≡ names
only_names bytes count rest f names is e =
    let whole = spelled_whole bytes count rest f names is e in
    let parts = same_cells 2 2 count (length names) rest (joined_names names) (sym f ∙ e) in
    joined_names-injective (names_in count rest) names (length-names_in count rest ∙ parts.0) (are_names_in count rest whole.whole) is.whole
    (joined-names_in count rest whole.whole ∙ parts.1)
