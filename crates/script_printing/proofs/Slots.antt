-- The lines of executed requests, one slot after the other.
use Rattle.std.proofs.Common.{◌≡◌, ◌<◌, ◌≤◌, ◌+◌, ℕ, suc, Option, Some, None, List, [], ◌∷◌, ◌++◌, length, map, take, drop, slice_get, codes, Contains, refl, sym, ◌∙◌, ap, ap₂, subst, arith, append_assoc, append-nil, length-append, add-one}
use Rattle.std.specs.Fmt.{decimal}
use Rattle.std.proofs.lemmas.Grind.{common_steps}
use Rattle.std.proofs.lemmas.List.{length-reverse, length-map, take-append-drop}
use Rattle.std.proofs.lemmas.Option.{slice_get_within, get_or_from_slice_get}
use Rattle.std.proofs.lemmas.List.Elements.{Contains-get_or}
use Rattle.guarded_update.specs.declared.request.Request.{Request}
use Rattle.guarded_update.specs.Fitting.{IsRequest}
use Rattle.guarded_update.specs.Spelling.{request_string}
use Rattle.object_model.specs.Folds.{Effect, versions_after}
use Rattle.object_model.specs.Outcomes.{outcome_after, outcome_of, effect_after}
use Rattle.ring_message.specs.declared.outcome.Outcome.{Outcome}
use Rattle.message_model.specs.Requests.{request_at}
use Rattle.ring_model.proofs.History.{same_some}
use Rattle.ring_model.proofs.Lists.{at_some}
use Rattle.ring_model.proofs.Stays.{at_stays}
use Rattle.ring_member.specs.Members.{entry}
use Rattle.fold_model.specs.Folds.{requests_of, outcomes_after, outcomes_by}
use Rattle.fold_model.specs.Growing.{requests-append}
use Rattle.fold_model.proofs.Outcomes.{count_outcomes, take_next}
use Rattle.pond_node.proofs.Steps.{is_read}
use Rattle.text_model.specs.Blocks as model
use Rattle.script_printing.specs.Executed.{AreRequestStrings, line_after}

-- ---- requests by their strings

count_requests : (strings : List (List ℕ)) → length (requests_of strings) ≡ length strings
count_requests strings = length-reverse (map request_at strings) ∙ length-map strings request_at

-- the requests up to a place are that of the place and those before it
requests_next : (strings : List (List ℕ)) (place : ℕ) (string : List ℕ) → slice_get strings place ≡ Some string → requests_of (take (suc place) strings) ≡ request_at string ∷ requests_of (take place strings)
requests_next strings place string here = ap requests_of (sym (take_next strings place string here).0) ∙ requests-append (take place strings) (string ∷ [])

-- ---- the outcome of a slot

at_end : {X : Type 0} (xs : List X) (x : X) (k : ℕ) → k ≡ length xs → slice_get (xs ++ x ∷ []) k ≡ Some x
at_end {X = X} xs x k is = ap (slice_get (xs ++ x ∷ [])) is ∙ last xs
  where
    last : (ys : List X) → slice_get (ys ++ x ∷ []) (length ys) ≡ Some x
    last [] = refl
    last (y ∷ ys) = last ys

count_after : (h : List ℕ → List ℕ) (block : ℕ) (requests : List Request) → length (outcomes_after h block requests) ≡ length requests
count_after h block [] = refl
count_after h block (r ∷ rs) = omega (arith, length-append (outcomes_after h block rs) (outcome_after h block r rs ∷ []), count_after h block rs)

-- the outcome of a request stands behind those of the earlier ones
outcome_stands : (h : List ℕ → List ℕ) (block : ℕ) (late : List Request) (request : Request) (earlier : List Request)
    → slice_get (outcomes_after h block (late ++ request ∷ earlier)) (length earlier) ≡ Some (outcome_after h block request earlier)
outcome_stands h block [] request earlier = at_end (outcomes_after h block earlier) (outcome_after h block request earlier) (length earlier) (sym (count_after h block earlier))
outcome_stands h block (r ∷ late) request earlier =
    at_stays (outcomes_after h block (late ++ request ∷ earlier)) (outcome_after h block r (late ++ request ∷ earlier) ∷ []) (length earlier) (outcome_after h block request earlier) (outcome_stands h block late request earlier)

-- the outcome at a place is that of the request there, after the requests before it
outcome_at : (h : List ℕ → List ℕ) (block : ℕ) (strings : List (List ℕ)) (place : ℕ) (string : List ℕ) (outcome : Outcome) → slice_get strings place ≡ Some string → slice_get (outcomes_by h block strings) place ≡ Some outcome
    → outcome ≡ outcome_after h block (request_at string) (requests_of (take place strings))
outcome_at h block strings place string outcome here there =
    let earlier = requests_of (take place strings) in
    let late = requests_of (drop (suc place) strings) in
    let request = request_at string in
    let all : requests_of strings ≡ late ++ request ∷ earlier =
    ap requests_of (sym (take-append-drop (suc place) strings)) ∙ requests-append (take (suc place) strings) (drop (suc place) strings) ∙ ap (λ rs. late ++ rs) (requests_next strings place string here) in
    let count : length earlier ≡ place = count_requests (take place strings) ∙ (take_next strings place string here).1 in
    same_some outcome (outcome_after h block request earlier)
    (sym there ∙ ap (λ rs. slice_get (outcomes_after h block rs) place) all ∙ ap (slice_get (outcomes_after h block (late ++ request ∷ earlier))) (sym count) ∙ outcome_stands h block late request earlier)

-- what stands at a slot stands at the place before it
entry_at : {X : Type 0} (xs : List X) (slot place : ℕ) (found : Option X) → slot ≡ place + 1 → found ≡ entry xs slot → found ≡ slice_get xs place
entry_at xs slot place found is e = e ∙ ap (entry xs) (is ∙ add-one place)

-- ---- the line of a slot

-- where a string stands its slot is executed, and has an outcome
pub has_request : {X : Type 0} (strings : List (List ℕ)) (slot place : ℕ) (string : List ℕ) → slot ≡ place + 1 → slice_get strings place ≡ Some string → None ≡ entry strings slot → X
has_request strings slot place string is here none = let bad : None ≡ Some string = entry_at strings slot place None is none ∙ here in absurd (cc)

pub has_outcome : {X : Type 0} (h : List ℕ → List ℕ) (block : ℕ) (strings : List (List ℕ)) (slot place : ℕ) (string : List ℕ) → slot ≡ place + 1 → slice_get strings place ≡ Some string → None ≡ entry (outcomes_by h block strings) slot → X
has_outcome h block strings slot place string is here none =
    let inside : place < length (outcomes_by h block strings) = omega (arith, slice_get_within strings place string here, count_outcomes h block strings) in
    let there = at_some (outcomes_by h block strings) place inside in
    let bad : None ≡ Some there.0 = entry_at (outcomes_by h block strings) slot place None is none ∙ there.1 in
    absurd (cc)

-- a string that spells a request is read as that request
contains_at : {X : Type 0} (xs : List X) (place : ℕ) (x : X) → slice_get xs place ≡ Some x → Contains xs x
contains_at xs place x here = subst (Contains xs) (get_or_from_slice_get xs place x x here) (Contains-get_or xs place x (slice_get_within xs place x here))

pub request_read : (strings : List (List ℕ)) (slot place : ℕ) (string found : List ℕ) (answer : Option Request) → slot ≡ place + 1 → slice_get strings place ≡ Some string → Some found ≡ entry strings slot
    → AreRequestStrings strings → ((request : Request) → IsRequest request → found ≡ request_string request → answer ≡ Some request) → answer ≡ Some (request_at found)
request_read strings slot place string found answer is here asked spelled read =
    let same : found ≡ string = same_some found string (entry_at strings slot place (Some found) is asked ∙ here) in
    let spells = spelled string (contains_at strings place string here) in
    read spells.0 spells.1 (same ∙ spells.2) ∙ sym (ap Some (is_read found spells.0 (same ∙ spells.2) spells.1))

-- what is printed of an executed slot
pub line_is : (h : List ℕ → List ℕ) (block : ℕ) (strings : List (List ℕ)) (slot place : ℕ) (string found : List ℕ) (request : Request) (outcome : Outcome) (printed : List ℕ) → slot ≡ place + 1 → slice_get strings place ≡ Some string
    → Some found ≡ entry strings slot → Some outcome ≡ entry (outcomes_by h block strings) slot → request ≡ request_at found
    → ((h : List ℕ → List ℕ) (block : ℕ) (effect : Effect) (versions : List (List ℕ)) → outcome ≡ outcome_of h block effect versions → printed ≡ model.slot_line slot request (model.outcome_text (length versions) effect))
    → printed ≡ line_after h block (take place strings) string
line_is h block strings slot place string found request outcome printed is here asked became read told =
    let same : found ≡ string = same_some found string (entry_at strings slot place (Some found) is asked ∙ here) in
    let of : request ≡ request_at string = read ∙ ap request_at same in
    let earlier = requests_of (take place strings) in
    let known : outcome ≡ outcome_after h block (request_at string) earlier = outcome_at h block strings place string outcome here (sym (entry_at (outcomes_by h block strings) slot place (Some outcome) is became)) in
    let number : slot ≡ length earlier + 1 = is ∙ ap (λ n. n + 1) (sym (count_requests (take place strings) ∙ (take_next strings place string here).1)) in
    told h block (effect_after h block (request_at string) earlier) (versions_after h block (request_at string).label earlier) known
    ∙ ap₂ (λ n r. model.slot_line n r (model.outcome_text (length (versions_after h block (request_at string).label earlier)) (effect_after h block (request_at string) earlier))) number of

-- ---- all lines

-- what a member shows, with some lines
abbrev pub with_lines : ℕ → ℕ → List ℕ → List ℕ
with_lines member count lines = codes "member " ++ decimal member ++ codes " executed " ++ decimal count ++ model.line_feed ++ lines

-- the lines of the requests before a place
abbrev pub lines_before : (List ℕ → List ℕ) → ℕ → List (List ℕ) → ℕ → List ℕ
lines_before h block strings place = model.executed_lines h block (requests_of (take place strings))

-- with no line
pub header : (h : List ℕ → List ℕ) (block : ℕ) (strings : List (List ℕ)) (member count : ℕ) (printed : List ℕ) → printed ≡ codes "member " ++ (decimal member ++ (codes " executed " ++ (decimal count ++ 10 ∷ []))) → count ≡ length strings
    → printed ≡ with_lines member (length (requests_of strings)) (lines_before h block strings 0)
header h block strings member count printed is same =
    is ∙ five (codes "member ") (decimal member) (codes " executed ") (decimal count) (10 ∷ []) ∙ ap (λ n. with_lines member n []) (same ∙ sym (count_requests strings))
  where
    five : (a b c d e : List ℕ) → a ++ (b ++ (c ++ (d ++ e))) ≡ a ++ b ++ c ++ d ++ e ++ []
    five a b c d e = simp (append_assoc, append-nil)

-- a line more
pub line_more : (h : List ℕ → List ℕ) (block : ℕ) (strings : List (List ℕ)) (member count place : ℕ) (string line : List ℕ) → slice_get strings place ≡ Some string → line ≡ line_after h block (take place strings) string
    → with_lines member count (lines_before h block strings place) ++ line ≡ with_lines member count (lines_before h block strings (place + 1))
line_more h block strings member count place string line here is =
    append_assoc (codes "member " ++ decimal member ++ codes " executed " ++ decimal count ++ model.line_feed) (lines_before h block strings place) line
    ∙ ap (λ more. with_lines member count (lines_before h block strings place ++ more)) is
    ∙ ap (with_lines member count) (sym (ap (λ k. lines_before h block strings k) (add-one place) ∙ ap (model.executed_lines h block) (requests_next strings place string here)))

-- all of them
pub all_lines : (h : List ℕ → List ℕ) (block : ℕ) (strings : List (List ℕ)) (member place : ℕ) → length strings ≤ place
    → with_lines member (length (requests_of strings)) (lines_before h block strings place) ≡ with_lines member (length (requests_of strings)) (model.executed_lines h block (requests_of strings))
all_lines h block strings member place most = ap (λ ss. with_lines member (length (requests_of strings)) (model.executed_lines h block (requests_of ss))) (whole strings place most)
  where
    whole : (xs : List (List ℕ)) (i : ℕ) → length xs ≤ i → take i xs ≡ xs
    whole xs i most = grind (arith, common_steps)
