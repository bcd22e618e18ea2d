-- There is one outcome for each request, that of the requests up to it.
use Rattle.std.proofs.Common.{◌≡◌, ℕ, zero, suc, ◌<◌, List, [], ◌∷◌, ◌++◌, length, map, take, drop, slice_get, Some, refl, sym, ap, ◌∙◌, arith, length-append, append-nil, append_assoc}
use Rattle.std.proofs.lemmas.List.{length-reverse, length-map, take-append-drop}
use Rattle.guarded_update.specs.declared.request.Request.{Request}
use Rattle.ring_message.specs.declared.outcome.Outcome.{Outcome}
use Rattle.ring_message.specs.Spelling.{outcome_string}
use Rattle.message_model.specs.Requests.{request_at}
use Rattle.object_model.specs.Outcomes.{outcome_after}
use Rattle.ring_model.proofs.History.{same_some}
use Rattle.ring_model.proofs.Lists.{at_short, at_some}
use Rattle.ring_model.proofs.Stays.{at_stays}
use Rattle.fold_model.specs.Folds.{requests_of, of_newest, outcomes_after, outcome_by, outcomes_by}
use Rattle.fold_model.specs.Growing.{requests-append}
use Rattle.fold_model.specs.Laws.{OutcomesAreSpelled}

-- there is one outcome a request
pub count_outcomes : (h : List ℕ → List ℕ) (block : ℕ) (strings : List (List ℕ)) → length (outcomes_by h block strings) ≡ length strings
count_outcomes h block strings = counted (requests_of strings) ∙ length-reverse (map request_at strings) ∙ length-map strings request_at
  where
    counted : (rs : List Request) → length (outcomes_after h block rs) ≡ length rs
    counted [] = refl
    counted (r ∷ rs) = omega (arith, length-append (outcomes_after h block rs) (outcome_after h block r rs ∷ []), counted rs)

-- outcomes of more requests begin with those of the earlier ones
outcomes_begin : (h : List ℕ → List ℕ) (block : ℕ) (late earlier : List Request) → (rest : List Outcome) × (outcomes_after h block (late ++ earlier) ≡ outcomes_after h block earlier ++ rest)
outcomes_begin h block [] earlier = ([], sym (append-nil (outcomes_after h block earlier)))
outcomes_begin h block (r ∷ late) earlier =
    let before = outcomes_begin h block late earlier in
    let now = outcome_after h block r (late ++ earlier) in
    (before.0 ++ now ∷ [], ap (λ os. os ++ now ∷ []) before.1 ∙ append_assoc (outcomes_after h block earlier) before.0 (now ∷ []))

at_end : {X : Type 0} (xs : List X) (x : X) → slice_get (xs ++ x ∷ []) (length xs) ≡ Some x
at_end [] x = refl
at_end (y ∷ xs) x = at_end xs x

-- one entry more of a list, and how many stand before it
pub take_next : {X : Type 0} (xs : List X) (k : ℕ) (x : X) → slice_get xs k ≡ Some x → (take k xs ++ x ∷ [] ≡ take (suc k) xs) × (length (take k xs) ≡ k)
take_next [] k x e = absurd (cc e)
take_next (y ∷ xs) zero x e = (ap (λ z. z ∷ []) (sym (same_some y x e)), refl)
take_next (y ∷ xs) (suc k) x e = let rest = take_next xs k x e in (ap (λ ys. y ∷ ys) rest.0, ap suc rest.1)

-- the last outcome of a list is spelled
last_spelled : (h : List ℕ → List ℕ) (block : ℕ) (before : List (List ℕ)) (string : List ℕ)
    → (last : Outcome) × (outcomes_by h block (before ++ string ∷ []) ≡ outcomes_by h block before ++ last ∷ []) × (outcome_by h block (before ++ string ∷ []) ≡ outcome_string last)
last_spelled h block before string =
    let newest = requests-append before (string ∷ []) in
    (outcome_after h block (request_at string) (requests_of before), ap (outcomes_after h block) newest, ap (of_newest [] (λ request earlier. outcome_string (outcome_after h block request earlier))) newest)

pub outcomes_are_spelled : OutcomesAreSpelled
outcomes_are_spelled h block strings place outcome e =
    let inside : place < length strings = omega (arith, at_short (outcomes_by h block strings) place outcome e, count_outcomes h block strings) in
    let there = at_some strings place inside in
    let next = take_next strings place there.0 there.1 in
    let last = last_spelled h block (take place strings) there.0 in
    let up_to : outcomes_by h block (take (suc place) strings) ≡ outcomes_by h block (take place strings) ++ last.0 ∷ [] = ap (outcomes_by h block) (sym next.0) ∙ last.1 in
    let long : length (outcomes_by h block (take place strings)) ≡ place = count_outcomes h block (take place strings) ∙ next.1 in
    let here : slice_get (outcomes_by h block (take (suc place) strings)) place ≡ Some last.0
    = ap (λ os. slice_get os place) up_to ∙ ap (slice_get (outcomes_by h block (take place strings) ++ last.0 ∷ [])) (sym long) ∙ at_end (outcomes_by h block (take place strings)) last.0 in
    let more = outcomes_begin h block (requests_of (drop (suc place) strings)) (requests_of (take (suc place) strings)) in
    let whole : outcomes_by h block strings ≡ outcomes_by h block (take (suc place) strings) ++ more.0
    = ap (outcomes_by h block) (sym (take-append-drop (suc place) strings)) ∙ ap (outcomes_after h block) (requests-append (take (suc place) strings) (drop (suc place) strings)) ∙ more.1 in
    let same : last.0 ≡ outcome
    = same_some last.0 outcome (sym (at_stays (outcomes_by h block (take (suc place) strings)) more.0 place last.0 here) ∙ ap (λ os. slice_get os place) (sym whole) ∙ e) in
    ap (outcome_by h block) (sym next.0) ∙ last.2 ∙ ap outcome_string same
