-- A request more.
use Rattle.std.proofs.Common.{◌+◌, ◌≡◌, ◌<◌, inl, inr, ℕ, List, [], ◌∷◌, ◌++◌, length, slice_get, Some, Contains, sym, ◌∙◌, ap, subst}
use Rattle.std.specs.List.{flat_map}
use Rattle.std.proofs.lemmas.List.Elements.{Contains-append_left, Contains-append_right, Contains-append_cases}
use Rattle.std.proofs.lemmas.Option.{slice_get_cases, get_or_from_slice_get}
use Rattle.block_names.specs.Held.{Held}
use Rattle.block_names.specs.Growth.{Holds, Grew}
use Rattle.block_names.specs.declared.fault.NameFault.{NameFault}
use Rattle.block_names.proofs.Grown.{grew_then}
use Rattle.guarded_update.specs.Fitting.{IsRequest}
use Rattle.guarded_update.specs.Spelling.{request_string}
use Rattle.guarded_update.specs.declared.request.Request.{Request}
use Rattle.object_model.specs.Trees.{version_strings}
use Rattle.pond_base.specs.declared.numbers.ClientId.{ClientId}
use Rattle.pond_node.specs.Standing.{NodeStands}
use Rattle.pond_world.specs.Sites.{SiteView, IsClashAfter}
use Rattle.ring_mail.specs.Skips.{Skips}
use Rattle.ring_world.specs.Worlds.{WorldStands}
use Rattle.script_requests.specs.Holding.{HoldsAll, IsClashOf}
use Rattle.script_requests.proofs.Holds.{all_both, all_one, part_within}
use Rattle.script_terms.specs.declared.line.Line.TheVariants.{Submit}
use Rattle.script_terms.specs.declared.line.LineClause.{LineClause}
use Rattle.script_terms.specs.declared.script.Script.{Script}
use Rattle.text_model.specs.Events.{ring_for, events_of}
use Rattle.text_model.specs.Named.{named, start_strings, label_strings, line_strings, clause_strings}
use Rattle.text_model.specs.Requests.{Numbered, submitted, next_request}
use Rattle.tree_format.specs.Strings.{label_string}
use Rattle.script_run.specs.States.{StandsNext, IsTurn, lines_before}
use Rattle.script_run.proofs.Turns.{next_from, lines_more}
use Rattle.script_run.proofs.Widening.{holds_wider, clash_among, clash_then}

-- the strings of the start are named up to all lines
start_within : (h : List ℕ → List ℕ) (script : Script) (lines : List Numbered) (s : List ℕ) → Contains (start_strings h script) s → Contains (named h script lines) s
start_within h script [] s c = c
start_within h script (line ∷ earlier) s c = Contains-append_left (named h script earlier) (line_strings h script earlier line) s (start_within h script earlier s c)

-- so are the labels of a line of the script
label_within : (h : List ℕ → List ℕ) (script : Script) (lines : List Numbered) (at : ℕ) (line : Numbered) (s : List ℕ) → slice_get script.lines at ≡ Some line → Contains (label_strings line) s → Contains (named h script lines) s
label_within h script lines at line s here c =
    start_within h script lines s
    (Contains-append_right (version_strings h script.setup.block [] []) (flat_map label_strings script.lines) s
    (part_within label_strings script.lines at line (there script.lines at line here) (sym (get_or_from_slice_get script.lines at line line here)) s c))
  where
    there : (xs : List Numbered) (k : ℕ) (x : Numbered) → slice_get xs k ≡ Some x → k < length xs
    there xs k x is = elim (slice_get_cases xs k).1 as (λ _. k < length xs) [ inl low ↦ low.1 | inr past ↦ let none = sym is ∙ past.1 in absurd (cc) ]

-- what a submit names: the leaves of its guards and its request
abbrev pub submit_strings : (List ℕ → List ℕ) → List Request → ClientId → List ℕ → List LineClause → List (List ℕ)
submit_strings h sent client label clauses = flat_map clause_strings clauses ++ request_string (next_request h sent client label clauses) ∷ []

-- the strings that the world names for it are among them and those named before
pub world_named : (h : List ℕ → List ℕ) (script : Script) (at : ℕ) (client : ClientId) (label : List ℕ) (clauses : List LineClause) (site : SiteView) (skips : Skips) → IsTurn h script at (Submit client label clauses) site skips
    → (s : List ℕ) → Contains (label_string label ∷ request_string (next_request h (submitted h (lines_before script at)) client label clauses) ∷ []) s
    → Contains (named h script (lines_before script at) ++ submit_strings h (submitted h (lines_before script at)) client label clauses) s
world_named h script at client label clauses site skips turn s c =
    let earlier = lines_before script at in
    let leaves = flat_map clause_strings clauses in
    let request = request_string (next_request h (submitted h earlier) client label clauses) in
    elim (Contains-append_cases (label_string label ∷ []) (request ∷ []) s c) as (λ _. Contains (named h script earlier ++ (leaves ++ request ∷ [])) s) [
      | inl first ↦ Contains-append_left (named h script earlier) (leaves ++ request ∷ []) s (label_within h script earlier at (turn.number, Submit client label clauses) s turn.here first)
      | inr second ↦ Contains-append_right (named h script earlier) (leaves ++ request ∷ []) s (Contains-append_right leaves (request ∷ []) s second)
    ]

-- so are the leaves
pub leaves_named : (h : List ℕ → List ℕ) (script : Script) (at : ℕ) (client : ClientId) (label : List ℕ) (clauses : List LineClause) (s : List ℕ) → Contains (flat_map clause_strings clauses) s
    → Contains (named h script (lines_before script at) ++ submit_strings h (submitted h (lines_before script at)) client label clauses) s
leaves_named h script at client label clauses s c =
    let earlier = lines_before script at in
    let request = request_string (next_request h (submitted h earlier) client label clauses) in
    Contains-append_right (named h script earlier) (flat_map clause_strings clauses ++ request ∷ []) s (Contains-append_left (flat_map clause_strings clauses) (request ∷ []) s c)

pub submitted_next : (h : List ℕ → List ℕ) (script : Script) (at : ℕ) (client : ClientId) (label : List ℕ) (clauses : List LineClause) (site : SiteView) (skips : Skips) (mid : Held) (now : SiteView)
    → (turn : IsTurn h script at (Submit client label clauses) site skips)
    → WorldStands NodeStands (ring_for h script) now.world (events_of h script ((turn.number, Submit client label clauses) ∷ lines_before script at))
    → Grew h site.held (Contains (flat_map clause_strings clauses)) mid → HoldsAll h mid (flat_map clause_strings clauses)
    → Grew h mid (Contains (label_string label ∷ request_string (next_request h (submitted h (lines_before script at)) client label clauses) ∷ [])) now.held
    → Holds h now.held (request_string (next_request h (submitted h (lines_before script at)) client label clauses))
    → IsRequest (next_request h (submitted h (lines_before script at)) client label clauses) → StandsNext h script at now skips
submitted_next h script at client label clauses site skips mid now turn stands first leaves_held then request_held is =
    let earlier = lines_before script at in
    let leaves = flat_map clause_strings clauses in
    let request = request_string (next_request h (submitted h earlier) client label clauses) in
    let asked = label_string label ∷ request ∷ [] in
    next_from h script at turn.number (Submit client label clauses) now skips turn.here
    (holds_wider h site.held now.held (named h script earlier) (leaves ++ request ∷ []) (Contains (named h script earlier ++ (leaves ++ request ∷ []))) turn.stands.holds
    (grew_then h site.held mid now.held (Contains leaves) (Contains asked) (Contains (named h script earlier ++ (leaves ++ request ∷ [])))
    (leaves_named h script at client label clauses) (world_named h script at client label clauses site skips turn) first then)
    (λ s c. c)
    (all_both h mid now.held leaves (request ∷ []) (Contains asked) leaves_held then (all_one h now.held request request_held)))
    stands turn.stands.muted_are turn.stands.lost_are (is, turn.stands.requests)

-- strings named before and those of the submit are those up to its line
pub submit_lines : (h : List ℕ → List ℕ) (script : Script) (at : ℕ) (client : ClientId) (label : List ℕ) (clauses : List LineClause) (site : SiteView) (skips : Skips) → (turn : IsTurn h script at (Submit client label clauses) site skips)
    → named h script (lines_before script (at + 1)) ≡ named h script (lines_before script at) ++ submit_strings h (submitted h (lines_before script at)) client label clauses
submit_lines h script at client label clauses site skips turn = ap (named h script) (lines_more script at (turn.number, Submit client label clauses) turn.here)

-- a clash at the leaves
pub leaves_clash : (h : List ℕ → List ℕ) (script : Script) (at : ℕ) (client : ClientId) (label : List ℕ) (clauses : List LineClause) (site : SiteView) (skips : Skips) (fault : NameFault) → (turn : IsTurn h script at (Submit client label clauses) site skips)
    → IsClashAfter h site.held (Contains (flat_map clause_strings clauses)) fault → IsClashOf h (named h script (lines_before script (at + 1))) fault
leaves_clash h script at client label clauses site skips fault turn after =
    let earlier = lines_before script at in
    let extra = submit_strings h (submitted h earlier) client label clauses in
    subst (λ ss. IsClashOf h ss fault) (sym (submit_lines h script at client label clauses site skips turn))
    (clash_among h site.held (named h script earlier) (named h script earlier ++ extra) (Contains (flat_map clause_strings clauses)) fault turn.stands.holds (λ s c. Contains-append_left (named h script earlier) extra s c)
    (leaves_named h script at client label clauses) after)

-- a clash behind them
pub request_clash : (h : List ℕ → List ℕ) (script : Script) (at : ℕ) (client : ClientId) (label : List ℕ) (clauses : List LineClause) (site : SiteView) (skips : Skips) (mid : Held) (fault : NameFault) → (turn : IsTurn h script at (Submit client label clauses) site skips)
    → Grew h site.held (Contains (flat_map clause_strings clauses)) mid
    → IsClashAfter h mid (Contains (label_string label ∷ request_string (next_request h (submitted h (lines_before script at)) client label clauses) ∷ [])) fault → IsClashOf h (named h script (lines_before script (at + 1))) fault
request_clash h script at client label clauses site skips mid fault turn grew after =
    let earlier = lines_before script at in
    let extra = submit_strings h (submitted h earlier) client label clauses in
    let all = named h script earlier ++ extra in
    subst (λ ss. IsClashOf h ss fault) (sym (submit_lines h script at client label clauses site skips turn))
    (clash_among h site.held (named h script earlier) all (Contains all) fault turn.stands.holds (λ s c. Contains-append_left (named h script earlier) extra s c) (λ s c. c)
    (clash_then h site.held mid (Contains (flat_map clause_strings clauses)) (Contains (label_string label ∷ request_string (next_request h (submitted h earlier) client label clauses) ∷ [])) (Contains all) fault grew
    (leaves_named h script at client label clauses) (world_named h script at client label clauses site skips turn) after))
