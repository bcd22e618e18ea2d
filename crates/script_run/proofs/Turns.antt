-- The line that comes, and what is left after it.
use Rattle.std.proofs.Common.{◌≡◌, ◌+◌, ℕ, List, [], ◌∷◌, ◌++◌, take, drop, reverse, slice_get, Some, None, inl, inr, sym, ◌∙◌, ap, subst, append_assoc, append-nil, take-append-drop}
use Rattle.std.specs.List.{AllByRecursion}
use Rattle.std.proofs.lemmas.List.{reverse-append}
use Rattle.std.proofs.lemmas.Option.{slice_get_cases, get_or_from_slice_get}
use Rattle.guarded_update.specs.Fitting.{IsRequest}
use Rattle.pond_node.specs.Standing.{NodeStands}
use Rattle.pond_world.specs.Sites.{SiteView}
use Rattle.ring_mail.specs.Skips.{Skips}
use Rattle.ring_world.specs.Worlds.{WorldStands}
use Rattle.script_laws.specs.Limits.{LineFits, LinesFit}
use Rattle.script_laws.specs.Turns.{LinesFitInTurn}
use Rattle.script_requests.specs.Holding.{HoldsJust}
use Rattle.script_requests.proofs.Holds.{take_one_more}
use Rattle.script_terms.specs.declared.line.Line.{Line}
use Rattle.script_terms.specs.declared.script.Script.{Script}
use Rattle.script_laws.specs.NamingLaws.{muted_in, lost_in}
use Rattle.text_model.specs.Events.{ring_for, events_of, with_events, muted, muted_by, lost, lost_by}
use Rattle.text_model.specs.Named.{named, line_strings}
use Rattle.text_model.specs.Requests.{Numbered, submitted, with_line}
use Rattle.script_run.specs.States.{StandsFor, StandsNext, IsTurn, lines_before}

take_more : {X : Type 0} (xs : List X) (k : ℕ) (x : X) → slice_get xs k ≡ Some x → take (k + 1) xs ≡ take k xs ++ x ∷ []
take_more xs k x is = elim (slice_get_cases xs k).1 as (λ _. take (k + 1) xs ≡ take k xs ++ x ∷ []) [
  | inl there ↦ take_one_more xs k x there.1 (sym (get_or_from_slice_get xs k x x is))
  | inr past ↦ let none : Some x ≡ None = sym is ∙ past.1 in absurd (cc)
]

-- one line more was run
pub lines_more : (script : Script) (at : ℕ) (line : Numbered) → slice_get script.lines at ≡ Some line → lines_before script (at + 1) ≡ line ∷ lines_before script at
lines_more script at line here = ap reverse (take_more script.lines at line here) ∙ reverse-append (take at script.lines) (line ∷ [])

-- the script, at this line
pub lines_split : {X : Type 0} (xs : List X) (at : ℕ) (x : X) → slice_get xs at ≡ Some x → xs ≡ take at xs ++ x ∷ drop (at + 1) xs
lines_split xs at x here =
    sym (take-append-drop (at + 1) xs) ∙ ap (λ front. front ++ drop (at + 1) xs) (take_more xs at x here) ∙ append_assoc (take at xs) (x ∷ []) (drop (at + 1) xs)

-- it is within its limits
pub turn_fits : LinesFitInTurn → (h : List ℕ → List ℕ) (script : Script) (at : ℕ) (line : Line) (site : SiteView) (skips : Skips) → IsTurn h script at line site skips → LineFits script.setup (lines_before script at) line
turn_fits fit h script at line site skips turn =
    fit script.setup (take at script.lines) (turn.number, line) (drop (at + 1) script.lines)
    (subst (λ lines. LinesFit script.setup (reverse lines)) (lines_split script.lines at (turn.number, line) turn.here) turn.within.lines)

-- what is left after a line stands for one line more
pub next_from : (h : List ℕ → List ℕ) (script : Script) (at number : ℕ) (line : Line) (site : SiteView) (skips : Skips) → slice_get script.lines at ≡ Some (number, line)
    → HoldsJust h site.held (named h script (lines_before script at) ++ line_strings h script (lines_before script at) (number, line))
    → WorldStands NodeStands (ring_for h script) site.world (with_events h (ring_for h script) (lines_before script at) (events_of h script (lines_before script at)) line)
    → skips.muted ≡ muted_in (muted_by (muted (lines_before script at)) line) → skips.lost ≡ lost_in (lost_by (lost (lines_before script at)) line)
    → AllByRecursion IsRequest (with_line h (submitted h (lines_before script at)) line) → StandsNext h script at site skips
next_from h script at number line site skips here holds stands muted_are lost_are requests =
    subst (λ lines. StandsFor h script lines site skips) (sym (lines_more script at (number, line) here)) (record {
      holds = holds;
      stands = stands;
      muted_are = muted_are;
      lost_are = lost_are;
      requests = requests;
    })

-- strings, and none more
pub holds_still : (h : List ℕ → List ℕ) (site : SiteView) (strings : List (List ℕ)) → HoldsJust h site.held strings → HoldsJust h site.held (strings ++ [])
holds_still h site strings holds = subst (HoldsJust h site.held) (sym (append-nil strings)) holds

-- a line that is no event
pub next_same : (h : List ℕ → List ℕ) (script : Script) (at : ℕ) (line : Line) (site now : SiteView) (skips left : Skips) → (turn : IsTurn h script at line site skips)
    → line_strings h script (lines_before script at) (turn.number, line) ≡ [] → with_events h (ring_for h script) (lines_before script at) (events_of h script (lines_before script at)) line ≡ events_of h script (lines_before script at)
    → with_line h (submitted h (lines_before script at)) line ≡ submitted h (lines_before script at) → now.held ≡ site.held
    → WorldStands NodeStands (ring_for h script) now.world (events_of h script (lines_before script at))
    → left.muted ≡ muted_in (muted_by (muted (lines_before script at)) line) → left.lost ≡ lost_in (lost_by (lost (lines_before script at)) line) → StandsNext h script at now left
next_same h script at line site now skips left turn none still same kept stands muted_are lost_are =
    let earlier = lines_before script at in
    next_from h script at turn.number line now left turn.here
    (subst (λ ss. HoldsJust h now.held (named h script earlier ++ ss)) (sym none) (subst (λ held. HoldsJust h held (named h script earlier ++ [])) (sym kept) (holds_still h site (named h script earlier) turn.stands.holds)))
    (subst (WorldStands NodeStands (ring_for h script) now.world) (sym still) stands) muted_are lost_are
    (subst (AllByRecursion IsRequest) (sym same) turn.stands.requests)
