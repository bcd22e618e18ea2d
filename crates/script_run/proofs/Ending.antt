-- The text of a script, line by line, and what is taken of it.
use Rattle.std.proofs.Common.{◌≡◌, ◌<◌, ◌≤◌, ◌+◌, ℕ, Bool, true, false, cond, Option, List, [], ◌∷◌, ◌++◌, length, take, drop, reverse, get_or, min, refl, sym, ◌∙◌, ap, subst, arith, append_assoc, append-nil}
use Rattle.std.specs.Io.KnownBytes.{Appends}
use Rattle.std.proofs.KnownBytes.{Appends-trans}
use Rattle.std.proofs.Math.Seq.{take-append-add}
use Rattle.std.proofs.lemmas.Grind.{common_steps}
use Rattle.std.proofs.lemmas.List.{take-append-le, reverse-append}
use Rattle.pond_base.specs.Outside.{AppendsPrefix}
use Rattle.script_terms.specs.declared.script.Script.{Script}
use Rattle.script_requests.proofs.Holds.{take_one_more}
use Rattle.text_model.specs.Clashes.{has_clash}
use Rattle.text_model.specs.Named.{named}
use Rattle.text_model.specs.Requests.{Numbered}
use Rattle.text_model.specs.Text.{text_of, text_from, line_text, clash_line}
use Rattle.script_run.specs.Ends.{written_at}

short : (n : ℕ) (xs : List ℕ) → take n xs ≡ take (min n (length xs)) xs
short n xs = grind (arith, common_steps)

-- a text, and then a prefix of a piece, is a prefix of the text, the piece and more
pub then_prefix : (a b c : Option (List ℕ)) (text piece rest : List ℕ) → Appends a b text → AppendsPrefix b c piece → AppendsPrefix a c (text ++ (piece ++ rest))
then_prefix a b c text piece rest w f =
    let n = min f.0 (length piece) in
    let fits : n ≤ length piece = omega arith in
    let front : take (length text + n) (text ++ (piece ++ rest)) ≡ text ++ take f.0 piece =
    take-append-add text (piece ++ rest) n ∙ ap (λ t. text ++ t) (take-append-le n piece rest fits ∙ sym (short f.0 piece)) in
    (length text + n, subst (Appends a c) (sym front) (Appends-trans a b c _ _ w f.1))

-- the text from a line on is what is written at it, and more where its strings do not clash
pub from_line : (h : List ℕ → List ℕ) (script : Script) (before : List Numbered) (line : Numbered) (lines : List Numbered)
    → text_from h script before (line ∷ lines) ≡ written_at h script before line ++ cond (has_clash h (named h script (line ∷ before))) [] (text_from h script (line ∷ before) lines)
from_line h script before line lines = by (has_clash h (named h script (line ∷ before)))
  where
    by : (b : Bool) → cond b (clash_line line.0) (line_text h script before line.1 ++ text_from h script (line ∷ before) lines)
        ≡ cond b (clash_line line.0) (line_text h script before line.1) ++ cond b [] (text_from h script (line ∷ before) lines)
    by true = sym (append-nil (clash_line line.0))
    by false = refl

-- before line i the sink took a text, and what is left of the script's follows it
pub record Written (h : List ℕ → List ℕ) (script : Script) (i : ℕ) (a b : Option (List ℕ)) : Type 0 where
  pub text : List ℕ
  pub taken : Appends a b text
  pub whole : text_of h script ≡ text ++ text_from h script (reverse (take i script.lines)) (drop i script.lines)

pub lines_from : (lines : List Numbered) (i : ℕ) (line : Numbered) → i < length lines → line ≡ get_or lines i line → drop i lines ≡ line ∷ drop (i + 1) lines
lines_from lines i line here is = grind (arith, common_steps)

pub before_more : (lines : List Numbered) (i : ℕ) (line : Numbered) → i < length lines → line ≡ get_or lines i line → reverse (take (i + 1) lines) ≡ line ∷ reverse (take i lines)
before_more lines i line here is = ap reverse (take_one_more lines i line here is) ∙ reverse-append (take i lines) (line ∷ [])

-- at the first line
pub written_none : (h : List ℕ → List ℕ) (script : Script) (a : Option (List ℕ)) → has_clash h (named h script []) ≡ false → Appends a a [] → Written h script 0 a a
written_none h script a clear same = record {
  text = [];
  taken = same;
  whole = ap (λ b. cond b (clash_line 0) (text_from h script [] script.lines)) clear;
}

-- what is left begins with what is written at a line
pub left_at : (h : List ℕ → List ℕ) (script : Script) (i : ℕ) (line : Numbered) (a b : Option (List ℕ)) (w : Written h script i a b) → i < length script.lines → line ≡ get_or script.lines i line
    → text_of h script ≡ w.text ++ (written_at h script (reverse (take i script.lines)) line
    ++ cond (has_clash h (named h script (line ∷ reverse (take i script.lines)))) [] (text_from h script (line ∷ reverse (take i script.lines)) (drop (i + 1) script.lines)))
left_at h script i line a b w here is =
    w.whole ∙ ap (λ lines. w.text ++ text_from h script (reverse (take i script.lines)) lines) (lines_from script.lines i line here is)
    ∙ ap (λ t. w.text ++ t) (from_line h script (reverse (take i script.lines)) line (drop (i + 1) script.lines))

-- a line more
pub written_more : (h : List ℕ → List ℕ) (script : Script) (i : ℕ) (line : Numbered) (a b c : Option (List ℕ)) → Written h script i a b → i < length script.lines → line ≡ get_or script.lines i line
    → has_clash h (named h script (line ∷ reverse (take i script.lines))) ≡ false → Appends b c (line_text h script (reverse (take i script.lines)) line.1) → Written h script (i + 1) a c
written_more h script i line a b c w here is clear took =
    let before = reverse (take i script.lines) in
    let piece = line_text h script before line.1 in
    record {
      text = w.text ++ piece;
      taken = Appends-trans a b c _ _ w.taken took;
      whole =
          left_at h script i line a b w here is
          ∙ ap (λ b. w.text ++ (cond b (clash_line line.0) piece ++ cond b [] (text_from h script (line ∷ before) (drop (i + 1) script.lines)))) clear
          ∙ sym (append_assoc w.text piece (text_from h script (line ∷ before) (drop (i + 1) script.lines)))
          ∙ ap (λ lines. (w.text ++ piece) ++ text_from h script lines (drop (i + 1) script.lines)) (sym (before_more script.lines i line here is));
    }

-- all lines
pub written_all : (h : List ℕ → List ℕ) (script : Script) (i : ℕ) (a b : Option (List ℕ)) → Written h script i a b → length script.lines ≤ i → Appends a b (text_of h script)
written_all h script i a b w most =
    let none : drop i script.lines ≡ [] = grind (arith, common_steps) in
    subst (Appends a b) (sym (w.whole ∙ ap (λ lines. w.text ++ text_from h script (reverse (take i script.lines)) lines) none ∙ append-nil w.text)) w.taken
