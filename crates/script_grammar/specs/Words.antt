-- The lines of a text, the words of a line, and the classes of words.
use Rattle.std.specs.Prelude.{ℕ, zero, suc, ◌+◌, ◌-◌, ◌*◌, ◌/◌, ◌%◌, Bool, false, List, [], ◌∷◌, length, nat_le, ◌==◌, ◌&&◌, ◌||◌, not, if◌then◌else◌, codes, Option, Some, None}
use Rattle.std.specs.List.{slice_split, onto_first, list_all, filter}
use Rattle.std.specs.Str.{bytes_eq}
use Rattle.std.specs.Option.{option_and_then}
use Rattle.std.specs.Result.{result_ok}
use Rattle.hex.specs.Hex.{decode_of}
use Rattle.pond_base.specs.Label.{is_label}
use Rattle.pond_base.specs.declared.numbers.Party.{Party}
use Rattle.pond_base.specs.declared.numbers.Party.TheVariants.{Member, Client}

-- the lines of a text: each ends with a line feed, which the last may lack
abbrev pub lines_of : List ℕ → List (List ℕ)
lines_of [] = []
lines_of (byte ∷ bytes) = if byte == 10 then [] ∷ lines_of bytes else onto_first byte (lines_of bytes)

-- a byte that a line may have: from space to tilde
abbrev pub is_plain : ℕ → Bool
is_plain byte = nat_le 32 byte && nat_le byte 126

-- a word has a byte
abbrev pub is_some_word : List ℕ → Bool
is_some_word word = not (length word == 0)

-- the words of a line: what stands between spaces, where anything does
abbrev pub words_of : List ℕ → List (List ℕ)
words_of line = filter is_some_word (slice_split (λ byte. byte == 32) line)

-- a first word that makes its line a comment: it begins with `#`
abbrev pub is_comment : List ℕ → Bool
is_comment [] = false
is_comment (byte ∷ word) = byte == 35

-- a decimal digit
abbrev pub is_digit : ℕ → Bool
is_digit byte = nat_le 48 byte && nat_le byte 57

-- the number that digits behind those of a number go on to
abbrev pub number_after : ℕ → List ℕ → ℕ
number_after n [] = n
number_after n (digit ∷ digits) = number_after (n * 10 + (digit - 48)) digits

-- digits, of which the first is no 0 unless it stands alone
abbrev pub is_numeral : List ℕ → Bool
is_numeral [] = false
is_numeral (digit ∷ digits) = list_all is_digit (digit ∷ digits) && (length digits == 0 || not (digit == 48))

-- a number of at most 4,294,967,295
abbrev pub number_of : List ℕ → Option ℕ
number_of word = if is_numeral word && nat_le (number_after 0 word) 4294967295 then Some (number_after 0 word) else None

-- a label
abbrev pub label_of : List ℕ → Option (List ℕ)
label_of word = if is_label word then Some word else None

-- a party of a kind, with a number
abbrev pub party_by : ℕ → Option ℕ → Option Party
party_by kind None = None
party_by kind (Some number) = if kind == 109 then Some (Member (record { 0 = number })) else (if kind == 99 then Some (Client (record { 0 = number })) else None)

-- a party: `m` or `c`, and a number
abbrev pub party_of : List ℕ → Option Party
party_of [] = None
party_of (kind ∷ word) = party_by kind (number_of word)

-- a name: 40 hexadecimal digits of either case
abbrev pub name_of : List ℕ → Option (List ℕ)
name_of word = if length word == 40 then result_ok (decode_of word) else None

-- the step of the generator of contents
abbrev pub next_seed : ℕ → ℕ
next_seed seed = (1664525 * seed + 1013904223) % 4294967296

-- so many bytes from a seed on, each the top byte of the next seed
unfoldable pub generated : ℕ → ℕ → List ℕ
generated seed zero = []
generated seed (suc count) = next_seed seed / 16777216 ∷ generated (next_seed seed) count

-- the content that hexadecimal digits of either case spell: 1 to 65,536 bytes
abbrev pub content_of : List ℕ → Option (List ℕ)
content_of digits = if nat_le 2 (length digits) && nat_le (length digits) 131072 then result_ok (decode_of digits) else None

-- a generated content: 1 to 65,536 bytes
abbrev pub generated_of : ℕ → ℕ → Option (List ℕ)
generated_of seed count = if nat_le 1 count && nat_le count 65536 then Some (generated seed count) else None

-- a content by the pieces between colons: hexadecimal digits alone, or `gen`, a seed and a count
abbrev pub data_by : List (List ℕ) → Option (List ℕ)
data_by (digits ∷ []) = content_of digits
data_by (kind ∷ seed ∷ count ∷ []) = if bytes_eq kind (codes "gen") then option_and_then (λ s. option_and_then (generated_of s) (number_of count)) (number_of seed) else None
data_by pieces = None

-- a content
abbrev pub data_of : List ℕ → Option (List ℕ)
data_of word = data_by (slice_split (λ byte. byte == 58) word)
