-- A content has 1 to 65,536 bytes.
use Rattle.std.proofs.Common.{◌≡◌, ◌∷◌, [], ℕ, zero, suc, ◌≤◌, ◌==◌, List, Bool, true, false, cond, ◌&&◌, nat_le, length, Result, Ok, Err, Option, Some, None, refl, ap, arith, codes}
use Rattle.std.specs.List.{slice_split}
use Rattle.std.specs.Str.{bytes_eq}
use Rattle.std.specs.Option.{option_and_then}
use Rattle.std.specs.Result.{result_ok}
use Rattle.std.proofs.lemmas.Bool.{leb-true}
use Rattle.hex.specs.Hex.{decode_of}
use Rattle.hex.proofs.HexLemmas.{decode_of-ok}
use Rattle.script_grammar.specs.Words.{data_of, data_by, content_of, generated_of, generated, number_of}
use Rattle.script_laws.proofs.Gathered.{and_first, and_second}

length-generated : (count seed : ℕ) → length (generated seed count) ≡ count
unfolding generated
length-generated zero seed = refl
length-generated (suc count) seed = ap suc (length-generated count _)

pub cond_some : {A : Type 0} (b : Bool) (x : Option A) (y : A) → cond b x None ≡ Some y → (b ≡ true) × (x ≡ Some y)
cond_some true x y e = (refl, e)
cond_some false x y e = absurd (cc)

ok_some : {E : Type 0} (r : Result (List ℕ) E) (y : List ℕ) → result_ok r ≡ Some y → r ≡ Ok y
ok_some (Ok x) y e = cc
ok_some (Err x) y e = absurd (cc)

then_some : {A B : Type 0} (f : A → Option B) (x : Option A) (y : B) → option_and_then f x ≡ Some y → (a : A) × (f a ≡ Some y)
then_some f (Some a) y e = (a, e)
then_some f None y e = absurd (cc)

-- the length of a content
abbrev pub IsContent : List ℕ → Type 0
IsContent content = (1 ≤ length content) × (length content ≤ 65536)

digits_fit : (digits content : List ℕ) → content_of digits ≡ Some content → IsContent content
digits_fit digits content e =
    let c = cond_some (nat_le 2 (length digits) && nat_le (length digits) 131072) (result_ok (decode_of digits)) content e in
    let d = decode_of-ok digits content (ok_some (decode_of digits) content c.1) in
    let least = leb-true 2 (length digits) (and_first (nat_le 2 (length digits)) (nat_le (length digits) 131072) c.0) in
    let most = leb-true (length digits) 131072 (and_second (nat_le 2 (length digits)) (nat_le (length digits) 131072) c.0) in
    (omega (arith, d.2, least), omega (arith, d.2, most))

generated_fit : (seed count : ℕ) (content : List ℕ) → generated_of seed count ≡ Some content → IsContent content
generated_fit seed count content e =
    let c = cond_some (nat_le 1 count && nat_le count 65536) (Some (generated seed count)) content e in
    let same : generated seed count ≡ content = cc in
    let long = length-generated count seed in
    let least = leb-true 1 count (and_first (nat_le 1 count) (nat_le count 65536) c.0) in
    let most = leb-true count 65536 (and_second (nat_le 1 count) (nat_le count 65536) c.0) in
    (omega (arith, ap length same, long, least), omega (arith, ap length same, long, most))

by_pieces : (pieces : List (List ℕ)) (content : List ℕ) → data_by pieces ≡ Some content → IsContent content
by_pieces [] content e = absurd (cc)
by_pieces (digits ∷ []) content e = digits_fit digits content e
by_pieces (kind ∷ seed ∷ []) content e = absurd (cc)
by_pieces (kind ∷ seed ∷ count ∷ []) content e =
    let c = cond_some (bytes_eq kind (codes "gen")) (option_and_then (λ s. option_and_then (generated_of s) (number_of count)) (number_of seed)) content e in
    let s = then_some (λ s. option_and_then (generated_of s) (number_of count)) (number_of seed) content c.1 in
    let n = then_some (generated_of s.0) (number_of count) content s.1 in
    generated_fit s.0 n.0 content n.1
by_pieces (a ∷ b ∷ c ∷ d ∷ rest) content e = absurd (cc)

-- a word of data spells 1 to 65,536 bytes
pub data_fits : (word content : List ℕ) → data_of word ≡ Some content → IsContent content
data_fits word content e = by_pieces (slice_split (λ byte. byte == 58) word) content e

-- a word of data spells a byte at least
pub data_long : (word content : List ℕ) → data_of word ≡ Some content → 1 ≤ length content
data_long word content e = (data_fits word content e).0
