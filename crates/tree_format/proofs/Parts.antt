-- Parts of a string that has two spellings.
use Rattle.std.proofs.Common.{◌≡◌, ℕ, ◌^◌, ◌<◌, List, [], ◌∷◌, ◌++◌, length, refl, ap, sym, ◌∙◌, arith}
use Rattle.std.specs.Int.{w32, to_be_bytes, from_be_bytes}
use Rattle.std.proofs.lemmas.Nat.{from_be_bytes-to_be_bytes_4}

same_cons : {X : Type 0} (x y : X) (xs ys : List X) → x ≡ y → xs ≡ ys → x ∷ xs ≡ y ∷ ys
same_cons x y xs ys e f = cc

-- fronts of one length are equal, and so are the rests
pub same_parts : {X : Type 0} (a b xs ys : List X) → length a ≡ length b → a ++ xs ≡ b ++ ys → (a ≡ b) × (xs ≡ ys)
same_parts [] [] xs ys len e = (refl, e)
same_parts [] (y ∷ b) xs ys len e = absurd (omega arith)
same_parts (x ∷ a) [] xs ys len e = absurd (omega arith)
same_parts (x ∷ a) (y ∷ b) xs ys len e =
    let head : x ≡ y = cc in
    let tail : a ++ xs ≡ b ++ ys = cc in
    let count : length a ≡ length b = omega arith in
    let rest = same_parts a b xs ys count tail in
    (same_cons x y a b head rest.0, rest.1)

-- four bytes spell one number
pub same_number : (n m : ℕ) → n < 2 ^ 32 → m < 2 ^ 32 → to_be_bytes w32 n ≡ to_be_bytes w32 m → n ≡ m
same_number n m p q e = sym (from_be_bytes-to_be_bytes_4 n p) ∙ ap (from_be_bytes w32) e ∙ from_be_bytes-to_be_bytes_4 m q
