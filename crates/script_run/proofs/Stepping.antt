-- The lines of a script, run one after the other.
use Rattle.std.proofs.Common.{◌≡◌, ◌<◌, ◌≤◌, ◌+◌, inl, inr, ℕ, true, false, cond, Option, List, [], ◌∷◌, ◌++◌, length, take, drop, reverse, get_or, slice_get, Some, Contains, refl, sym, ◌∙◌, ap, subst, arith, append-nil, take-append-drop}
use Rattle.std.proofs.lemmas.Option.{slice_get-get_or, get_or_from_slice_get}
use Rattle.std.specs.List.{AllByRecursion}
use Rattle.std.specs.Io.KnownBytes.{Appends}
use Rattle.std.proofs.KnownBytes.{Appends-trans, Appends-nil}
use Rattle.std.proofs.lemmas.Grind.{common_steps}
use Rattle.std.proofs.lemmas.List.{reverse-reverse}
use Rattle.pond_base.specs.Outside.{Seen, AppendsPrefix, after_fault}
use Rattle.script_terms.specs.declared.script.Script.{Script}
use Rattle.text_model.specs.Clashes.{has_clash}
use Rattle.text_model.specs.Named.{named}
use Rattle.text_model.specs.Requests.{Numbered}
use Rattle.text_model.specs.Text.{text_of, text_from, line_text, clash_line}
use Rattle.block_names.specs.declared.fault.NameFault.{NameFault}
use Rattle.script_requests.specs.Holding.{IsClashOf}
use Rattle.script_requests.proofs.Holds.{held_clear, none_found, clash_found}
use Rattle.script_run.specs.declared.running.End.{End}
use Rattle.script_run.specs.declared.running.End.TheVariants.{Done, WriteFault, Clash, Memory}
use Rattle.script_run.specs.Ends.{Takes, Says, EndsAt, IsClear, written_at}
use Rattle.pond_world.specs.Sites.{SiteView}
use Rattle.ring_mail.specs.Skips.{Skips}
use Rattle.script_laws.specs.AgreementLaws.{ListsAreOne, BeliefsHold}
use Rattle.script_laws.specs.EventLaws.{SubmitsAreRequests}
use Rattle.script_laws.specs.Limits.{SetupFits}
use Rattle.script_run.specs.States.{StandsFor}
use Rattle.script_run.proofs.Agreed.{one_list, beliefs_true}
use Rattle.script_run.proofs.Settling.{lines_among}
use Rattle.script_run.proofs.Ending.{Written, left_at, then_prefix, lines_from, before_more, written_none, written_more, written_all}

-- the strings of a state do not clash
pub state_clear : (h : List ℕ → List ℕ) (script : Script) (before : List Numbered) (site : SiteView) (skips : Skips) → StandsFor h script before site skips → IsClear h script before
state_clear h script before site skips is = held_clear h site.held (named h script before) is.holds.all

pub state_none : (h : List ℕ → List ℕ) (script : Script) (before : List Numbered) (site : SiteView) (skips : Skips) → StandsFor h script before site skips → has_clash h (named h script before) ≡ false
state_none h script before site skips is = none_found h (named h script before) (state_clear h script before site skips is)

-- what is written at a line whose strings clash, and at another
pub clash_written : (h : List ℕ → List ℕ) (script : Script) (before : List Numbered) (line : Numbered) → has_clash h (named h script (line ∷ before)) ≡ true → written_at h script before line ≡ clash_line line.0
clash_written h script before line e = ap (λ b. cond b (clash_line line.0) (line_text h script before line.1)) e

pub line_written : (h : List ℕ → List ℕ) (script : Script) (before : List Numbered) (line : Numbered) (site : SiteView) (skips : Skips) → StandsFor h script (line ∷ before) site skips → written_at h script before line ≡ line_text h script before line.1
line_written h script before line site skips is = ap (λ b. cond b (clash_line line.0) (line_text h script before line.1)) (state_none h script (line ∷ before) site skips is)

-- a text where the strings of the start clash
pub start_written : (h : List ℕ → List ℕ) (script : Script) → has_clash h (named h script []) ≡ true → text_of h script ≡ clash_line 0
start_written h script e = ap (λ b. cond b (clash_line 0) (text_from h script [] script.lines)) e

-- an end before the first line
pub says_first : (h : List ℕ → List ℕ) (script : Script) (sink : Seen) (end : End) → EndsAt h (named h script []) 0 (text_of h script) sink end → Says h script sink end
says_first h script sink Done e = absurd e
says_first h script sink WriteFault e = e
says_first h script sink (Clash line old new) e = (e.0, inl (record { start = e.1; clash = e.2 }))
says_first h script sink Memory e = e

-- what was seen of a sink over two calls
abbrev pub over : Seen → Seen → Seen
over first then = record { before = first.before; after = then.after; faults_before = first.faults_before; faults_after = then.faults_after }

-- where a run stands before line i
pub record Stands (h : List ℕ → List ℕ) (script : Script) (i : ℕ) (sink : Seen) (site : SiteView) (skips : Skips) : Type 0 where
  pub written : Written h script i sink.before sink.after
  pub faults : sink.faults_after ≡ sink.faults_before
  pub stands : StandsFor h script (reverse (take i script.lines)) site skips

-- an end at line i
pub says_at : (h : List ℕ → List ℕ) (script : Script) (i : ℕ) (line : Numbered) (first then : Seen) (site : SiteView) (skips : Skips) (end : End) → Stands h script i first site skips → first.after ≡ then.before → first.faults_after ≡ then.faults_before
    → i < length script.lines → line ≡ get_or script.lines i line
    → EndsAt h (named h script (line ∷ reverse (take i script.lines))) line.0 (written_at h script (reverse (take i script.lines)) line) then end → Says h script (over first then) end
says_at h script i line first then site skips Done s joined counted here is e = absurd e
says_at h script i line first then site skips WriteFault s joined counted here is e =
    let before = reverse (take i script.lines) in
    let piece = written_at h script before line in
    let rest = cond (has_clash h (named h script (line ∷ before))) [] (text_from h script (line ∷ before) (drop (i + 1) script.lines)) in
    let step : AppendsPrefix first.after then.after piece = subst (λ m. AppendsPrefix m then.after piece) (sym joined) e.0 in (
      subst (AppendsPrefix first.before then.after) (sym (left_at h script i line first.before first.after s.written here is)) (then_prefix first.before first.after then.after s.written.text piece rest s.written.taken step),
      e.1 ∙ ap after_fault (sym counted ∙ s.faults),
    )
says_at h script i line first then site skips Memory s joined counted here is e =
    let before = reverse (take i script.lines) in
    let piece = written_at h script before line in
    let rest = cond (has_clash h (named h script (line ∷ before))) [] (text_from h script (line ∷ before) (drop (i + 1) script.lines)) in
    let step : AppendsPrefix first.after then.after piece = subst (λ m. AppendsPrefix m then.after piece) (sym joined) e.0 in (
      subst (AppendsPrefix first.before then.after) (sym (left_at h script i line first.before first.after s.written here is)) (then_prefix first.before first.after then.after s.written.text piece rest s.written.taken step),
      e.1 ∙ sym counted ∙ s.faults,
    )
says_at h script i line first then site skips (Clash number old new) s joined counted here is e =
    let before = reverse (take i script.lines) in
    let piece = written_at h script before line in
    let clash : has_clash h (named h script (line ∷ before)) ≡ true = clash_found h (named h script (line ∷ before)) old new e.2 in
    let whole : text_of h script ≡ s.written.text ++ piece =
    left_at h script i line first.before first.after s.written here is
    ∙ ap (λ b. s.written.text ++ (piece ++ cond b [] (text_from h script (line ∷ before) (drop (i + 1) script.lines)))) clash ∙ ap (λ t. s.written.text ++ t) (append-nil piece) in
    let step : Appends first.after then.after piece = subst (λ m. Appends m then.after piece) (sym joined) e.0.0 in (
      (subst (Appends first.before then.after) (sym whole) (Appends-trans first.before first.after then.after s.written.text piece s.written.taken step), e.0.1 ∙ sym counted ∙ s.faults),
      inr (record {
        before = before;
        at = line;
        behind = drop (i + 1) script.lines;
        split = ap (λ lines. lines ++ line ∷ drop (i + 1) script.lines) (reverse-reverse (take i script.lines)) ∙ ap (λ lines. take i script.lines ++ lines) (sym (lines_from script.lines i line here is)) ∙ take-append-drop i script.lines;
        number = e.1;
        none = state_clear h script before site skips s.stands;
        clash = e.2;
      }),
    )

-- at the first line
pub stands_first : (h : List ℕ → List ℕ) (script : Script) (a : Option (List ℕ)) (faults : ℕ) (site : SiteView) (skips : Skips) → StandsFor h script [] site skips
    → Stands h script 0 (record { before = a; after = a; faults_before = faults; faults_after = faults }) site skips
stands_first h script a faults site skips is = record { written = written_none h script a (state_none h script [] site skips is) (Appends-nil a); faults = refl; stands = is }

-- a line more
pub stands_more : (h : List ℕ → List ℕ) (script : Script) (i : ℕ) (line : Numbered) (first then : Seen) (old : SiteView) (passed : Skips) (new : SiteView) (left : Skips) → Stands h script i first old passed → first.after ≡ then.before → first.faults_after ≡ then.faults_before
    → i < length script.lines → line ≡ get_or script.lines i line → StandsFor h script (line ∷ reverse (take i script.lines)) new left → Takes then (line_text h script (reverse (take i script.lines)) line.1)
    → Stands h script (i + 1) (over first then) new left
stands_more h script i line first then old passed new left s joined counted here is now took =
    let before = reverse (take i script.lines) in
    record {
      written = written_more h script i line first.before first.after then.after s.written here is (state_none h script (line ∷ before) new left now)
          (subst (λ m. Appends m then.after (line_text h script before line.1)) (sym joined) took.0);
      faults = took.1 ∙ sym counted ∙ s.faults;
      stands = subst (λ lines. StandsFor h script lines new left) (sym (before_more script.lines i line here is)) now;
    }

-- all lines
pub says_done : SubmitsAreRequests → ListsAreOne → BeliefsHold → (h : List ℕ → List ℕ) (script : Script) (i : ℕ) (sink : Seen) (site : SiteView) (skips : Skips) → SetupFits script.setup → Stands h script i sink site skips → length script.lines ≤ i → Says h script sink Done
says_done submits law beliefs h script i sink site skips setup s most =
    let all : StandsFor h script (reverse script.lines) site skips = subst (λ lines. StandsFor h script (reverse lines) site skips) (whole script.lines most) s.stands in (
      (written_all h script i sink.before sink.after s.written most, s.faults),
      state_clear h script (reverse script.lines) site skips all,
      one_list submits law h script (reverse script.lines) site skips setup all,
      beliefs_true beliefs h script (reverse script.lines) site skips setup (subst (λ lines. AllByRecursion (Contains script.lines) (reverse lines)) (whole script.lines most) (lines_among script.lines i)) all,
    )
  where
    whole : (lines : List Numbered) → length lines ≤ i → take i lines ≡ lines
    whole lines most = grind (arith, common_steps)

-- an end that is told at a line's number is one at the line
pub ends_here : (h : List ℕ → List ℕ) (script : Script) (before : List Numbered) (line : Numbered) (number : ℕ) (sink : Seen) (end : End) (fault : NameFault) → number ≡ line.0
    → ((names : List ℕ → List ℕ) (strings : List (List ℕ)) (text : List ℕ) → IsClashOf names strings fault → (has_clash names strings ≡ true → text ≡ clash_line number) → EndsAt names strings number text sink end)
    → IsClashOf h (named h script (line ∷ before)) fault → EndsAt h (named h script (line ∷ before)) line.0 (written_at h script before line) sink end
ends_here h script before line number sink end fault same ends clash =
    subst (λ k. EndsAt h (named h script (line ∷ before)) k (written_at h script before line) sink end) same
    (ends h (named h script (line ∷ before)) (written_at h script before line) clash (λ e. clash_written h script before line e ∙ ap clash_line (sym same)))

-- the line at a place
pub line_at : (lines : List Numbered) (i : ℕ) → i < length lines → (line : Numbered) × (slice_get lines i ≡ Some line) × (line ≡ get_or lines i line)
line_at [] i here = absurd (omega arith)
line_at (first ∷ lines) i here =
    let line = get_or (first ∷ lines) i first in
    let is : slice_get (first ∷ lines) i ≡ Some line = slice_get-get_or (first ∷ lines) i first here in (line, is, sym (get_or_from_slice_get (first ∷ lines) i line line is))
