-- What the submits of a script name.
use Rattle.std.proofs.Common.{◌≡◌, ℕ, List, [], ◌∷◌, ◌++◌, map, reverse, Contains, ◌⊎◌, inl, inr, ⊎_elim, ap, sym, ◌∙◌, subst}
use Rattle.std.specs.List.{flat_map, AllByRecursion as Each}
use Rattle.std.proofs.lemmas.List.Elements.{Contains-append_left, Contains-append_right}
use Rattle.guarded_update.specs.declared.request.Request.{Request}
use Rattle.guarded_update.specs.Fitting.{IsRequest}
use Rattle.guarded_update.specs.Spelling.{request_string}
use Rattle.object_model.specs.Trees.{version_strings}
use Rattle.tree_format.specs.Strings.{label_string}
use Rattle.ring_model.proofs.Lists.{there_first, there_later, there_cases, there_none, there_flat, Each-there}
use Rattle.message_model.specs.Requests.{request_at}
use Rattle.message_model.proofs.Fields.{request_seam}
use Rattle.script_terms.specs.declared.line.Line.{Line}
use Rattle.script_terms.specs.declared.line.Line.TheVariants.{Submit}
use Rattle.script_terms.specs.declared.script.Script.{Script}
use Rattle.text_model.specs.Requests.{Numbered, next_request, with_line, submitted}
use Rattle.text_model.specs.Events.{world_of}
use Rattle.text_model.specs.Labels.{labels_in}
use Rattle.text_model.specs.Named.{label_strings, start_strings, clause_strings, line_strings, named}
use Rattle.script_laws.specs.NamingLaws.{AreOfLines}
use Rattle.script_laws.proofs.Elements.{in_map, in_reverse}
use Rattle.script_laws.proofs.Folds.{IsSubmittedLabel}

-- ---- the strings of requests

request_by : (h : List ℕ → List ℕ) (script : Script) (earlier : List Numbered) (number : ℕ) (line : Line) (request : Request)
    → ((other : Request) → Contains (submitted h earlier) other → Contains (named h script earlier) (request_string other))
    → Contains (with_line h (submitted h earlier) line) request → Contains (named h script earlier ++ line_strings h script earlier (number, line)) (request_string request)
request_by h script earlier number (Submit client label clauses) request before there =
    let new = next_request h (submitted h earlier) client label clauses in
    let strings = flat_map clause_strings clauses in
    ⊎_elim
    (λ e.
    Contains-append_right (named h script earlier) (strings ++ request_string new ∷ []) (request_string request)
    (Contains-append_right strings (request_string new ∷ []) (request_string request) (subst (λ (other : Request). Contains (request_string new ∷ []) (request_string other)) e (there_first (request_string new) []))))
    (λ old. Contains-append_left (named h script earlier) (strings ++ request_string new ∷ []) (request_string request) (before request old))
    (there_cases new (submitted h earlier) request there)
request_by h script earlier number line request before there =
    Contains-append_left (named h script earlier) (line_strings h script earlier (number, line)) (request_string request) (before request there)

-- each request is named by the line that submits it
pub request_named : (h : List ℕ → List ℕ) (script : Script) (earlier : List Numbered) (request : Request) → Contains (submitted h earlier) request → Contains (named h script earlier) (request_string request)
request_named h script [] request there = absurd (there_none request there)
request_named h script (line ∷ earlier) request there = request_by h script earlier line.0 line.1 request (request_named h script earlier) there

-- ---- the strings of labels

label_by : (h : List ℕ → List ℕ) (requests : List Request) (line : Line) (request : Request)
    → Contains (with_line h requests line) request → Contains (map label_string (labels_in line)) (label_string request.label) ⊎ Contains requests request
label_by h requests (Submit client label clauses) request there =
    ⊎_elim
    (λ e. inl (subst (λ (other : Request). Contains (label_string label ∷ []) (label_string other.label)) e (there_first (label_string label) [])))
    (λ old. inr old)
    (there_cases (next_request h requests client label clauses) requests request there)
label_by h requests line request there = inr there

-- the label of a request stands in the line that submits it
label_there : (h : List ℕ → List ℕ) (earlier : List Numbered) (request : Request) → Contains (submitted h earlier) request
    → (line : Numbered) × Contains earlier line × Contains (label_strings line) (label_string request.label)
label_there h [] request there = absurd (there_none request there)
label_there h (line ∷ earlier) request there =
    ⊎_elim (λ own. (line, there_first line earlier, own)) (λ old. let rest = label_there h earlier request old in (rest.0, there_later line earlier rest.0 rest.1, rest.2))
    (label_by h (submitted h earlier) line.1 request there)

-- what is named at the start is named
start_named : (h : List ℕ → List ℕ) (script : Script) (earlier : List Numbered) (s : List ℕ) → Contains (start_strings h script) s → Contains (named h script earlier) s
start_named h script [] s there = there
start_named h script (line ∷ earlier) s there = Contains-append_left (named h script earlier) (line_strings h script earlier line) s (start_named h script earlier s there)

pub label_named : (h : List ℕ → List ℕ) (script : Script) (earlier : List Numbered) (request : Request) → Each (Contains script.lines) earlier → Contains (submitted h earlier) request
    → Contains (named h script earlier) (label_string request.label)
label_named h script earlier request among there =
    let line = label_there h earlier request there in
    start_named h script earlier (label_string request.label)
    (Contains-append_right (version_strings h script.setup.block [] []) (flat_map label_strings script.lines) (label_string request.label)
    (there_flat label_strings script.lines line.0 (label_string request.label) (Each-there (Contains script.lines) earlier line.0 among line.1) line.2))

-- ---- what was submitted

-- what was submitted is the string of a request that a line submits
submit_is : (h : List ℕ → List ℕ) (script : Script) (earlier : List Numbered) → AreOfLines h script earlier → (s : List ℕ) → Contains (world_of h script earlier).submits s
    → (request : Request) × Contains (submitted h earlier) request × (request_string request ≡ s)
submit_is h script earlier are s there =
    let request = in_map request_string (reverse (submitted h earlier)) s (subst (λ texts. Contains texts s) are.submits there) in
    (request.0, in_reverse (submitted h earlier) request.0 request.1, request.2)

pub submit_named : (h : List ℕ → List ℕ) (script : Script) (earlier : List Numbered) → AreOfLines h script earlier → (s : List ℕ) → Contains (world_of h script earlier).submits s → Contains (named h script earlier) s
submit_named h script earlier are s there =
    let request = submit_is h script earlier are s there in
    subst (Contains (named h script earlier)) request.2 (request_named h script earlier request.0 request.1)

pub submitted_label_named : (h : List ℕ → List ℕ) (script : Script) (earlier : List Numbered) → AreOfLines h script earlier → (s : List ℕ) → IsSubmittedLabel (world_of h script earlier) s → Contains (named h script earlier) s
submitted_label_named h script earlier are s label =
    let request = submit_is h script earlier are label.0 label.1 in
    let read : request_at label.0 ≡ request.0 = ap request_at (sym request.2) ∙ request_seam request.0 (Each-there IsRequest (submitted h earlier) request.0 are.requests request.1).places in
    subst (Contains (named h script earlier)) (ap (λ (r : Request). label_string r.label) (sym read) ∙ label.2) (label_named h script earlier request.0 are.among request.1)
