-- The lines of a text, one after another.
use Rattle.std.proofs.Common.{◌≡◌, ◌+◌, ◌<◌, ◌≤◌, ◌∷◌, [], ◌==◌, ℕ, suc, List, Bool, true, false, nat_le, length, take, drop, cond, not, arith, refl, sym, ◌∙◌, ap, Result, Ok}
use Rattle.std.specs.List.{before_first, after_first, position_or_len, onto_first}
use Rattle.std.proofs.lemmas.Grind.{common_steps}
use Rattle.script_terms.specs.declared.cause.Cause.TheVariants.{Order}
use Rattle.script_terms.specs.declared.fault.LineFault.{LineFault}
use Rattle.script_terms.specs.declared.fault.LineFault.TheVariants.{Refused, Memory}
use Rattle.script_terms.specs.declared.item.Placed.{Placed}
use Rattle.script_grammar.specs.Words.{lines_of}
use Rattle.script_grammar.specs.Results.{Fails, where_holds}
use Rattle.script_grammar.specs.Known.{known}
use Rattle.script_terms.specs.declared.script.Script.{Script}
use Rattle.script_grammar.specs.Script.{Refusal, items, line_after, at_line, script_by, script_from}
use Rattle.script_text.specs.Refusal.{refusal_of, IsFault}

-- a byte in front of a line that was cut
cut_more : (b n : ℕ) (bs : List ℕ) → onto_first b (take n bs ∷ lines_of (drop (n + 1) bs)) ≡ take (1 + n) (b ∷ bs) ∷ lines_of (drop (1 + n + 1) (b ∷ bs))
cut_more b n bs =
    let one : 1 + n ≡ suc n = omega arith in
    let two : suc n + 1 ≡ suc (n + 1) = omega arith in
    rw (one, two) refl

cut_by : (t : Bool) (b n : ℕ) (bs : List ℕ) → lines_of bs ≡ take n bs ∷ lines_of (drop (n + 1) bs)
    → cond t ([] ∷ lines_of bs) (onto_first b (lines_of bs)) ≡ take (cond (not t) (1 + n) 0) (b ∷ bs) ∷ lines_of (drop (cond (not t) (1 + n) 0 + 1) (b ∷ bs))
cut_by true b n bs h = refl
cut_by false b n bs h = ap (onto_first b) h ∙ cut_more b n bs

cut_last : (t : Bool) (b : ℕ) → cond t ([] ∷ []) ((b ∷ []) ∷ []) ≡ take (cond (not t) (1 + 0) 0) (b ∷ []) ∷ lines_of (drop (cond (not t) (1 + 0) 0 + 1) (b ∷ []))
cut_last true b = refl
cut_last false b = refl

-- the first line of a text, and the lines of the rest
pub lines_split : (b : ℕ) (bs : List ℕ) → lines_of (b ∷ bs) ≡ before_first (λ c. c == 10) (b ∷ bs) ∷ lines_of (after_first (λ c. c == 10) (b ∷ bs))
lines_split b [] = cut_last (b == 10) b
lines_split b (c ∷ cs) = cut_by (b == 10) b (position_or_len (λ x. x == 10) (c ∷ cs)) (c ∷ cs) (lines_split c cs)

-- a script by its first line
pub first_line : (number : ℕ) (earlier : List Placed) (rest line after : List ℕ) → 0 < length rest → line ≡ before_first (λ c. c == 10) rest → after ≡ after_first (λ c. c == 10) rest
    → script_from number earlier (lines_of rest) ≡ script_from number earlier (line ∷ lines_of after)
first_line number earlier [] line after h l a = absurd (omega arith)
first_line number earlier (b ∷ bs) line after h l a =
    ap (script_from number earlier) (lines_split b bs) ∙ ap (λ x. script_from number earlier (x ∷ lines_of (after_first (λ c. c == 10) (b ∷ bs)))) (sym l) ∙ ap (λ x. script_from number earlier (line ∷ lines_of x)) (sym a)

pub goes_on : (number : ℕ) (earlier all : List Placed) (line : List ℕ) (lines : List (List ℕ)) (whole : Result Script Refusal) → line_after number earlier line ≡ Ok all
    → script_from number earlier (line ∷ lines) ≡ whole → script_from (number + 1) all lines ≡ whole
goes_on number earlier all line lines whole e h = ap (λ r. at_line number r (λ more. script_from (number + 1) more lines)) (sym e) ∙ h

pub stops : (number : ℕ) (earlier : List Placed) (line : List ℕ) (lines : List (List ℕ)) (whole : Result Script Refusal) (fault : LineFault) → Fails fault (line_after number earlier line)
    → script_from number earlier (line ∷ lines) ≡ whole → IsFault (refusal_of number fault) whole
stops number earlier line lines whole Memory e h = tt
stops number earlier line lines whole (Refused cause) e h = sym h ∙ ap (λ r. at_line number r (λ more. script_from (number + 1) more lines)) e

no_bytes : (text : List ℕ) → length text ≡ 0 → text ≡ []
no_bytes [] h = refl
no_bytes (byte ∷ text) h = absurd (omega arith)

-- a script by its end
pub ends : (number : ℕ) (earlier : List Placed) (rest : List ℕ) (script : Script) (whole : Result Script Refusal) → length rest ≡ 0 → nat_le 2 (known (items earlier)).last ≡ true → script ≡ script_by earlier
    → script_from number earlier (lines_of rest) ≡ whole → whole ≡ Ok script
ends number earlier rest script whole none heads is e =
    sym e ∙ ap (λ x. script_from number earlier (lines_of x)) (no_bytes rest none)
    ∙ ap (λ t. at_line number (where_holds t Order earlier) (λ all. Ok (script_by all))) heads ∙ ap Ok (sym is)

-- what follows a line is shorter
pub shorter : (rest after : List ℕ) → 0 < length rest → after ≡ after_first (λ c. c == 10) rest → length after + 1 ≤ length rest
shorter rest after h a = rw a (grind (arith, common_steps))
