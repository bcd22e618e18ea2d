-- One request more.
use Rattle.std.proofs.Common.{◌≡◌, ℕ, ◌+◌, ◌-◌, ◌≤◌, List, [], ◌∷◌, ◌++◌, length, slice_get, Some, None, refl, sym, ap, ap₂, ◌∙◌, subst, arith, length-append}
use Rattle.std.proofs.Math.Path.{fun_ext}
use Rattle.block_names.specs.Held.{Held}
use Rattle.guarded_update.specs.declared.request.Request.{Request}
use Rattle.guarded_update.specs.Fitting.{IsRequest}
use Rattle.guarded_update.specs.Spelling.{request_string}
use Rattle.message_model.specs.Requests.{request_at}
use Rattle.message_model.specs.Reading.{IsRingOf}
use Rattle.message_model.proofs.Fields.{request_seam}
use Rattle.ring_message.specs.declared.outcome.Outcome.{Outcome}
use Rattle.ring_message.specs.Grammar.{OutcomeFits}
use Rattle.ring_message.specs.Spelling.{outcome_string}
use Rattle.object_model.specs.Trees.{object_name}
use Rattle.object_model.specs.Updates.{NoClause, OutOfRange, TooLong}
use Rattle.object_model.specs.Folds.{Made, Effect, Makes, Refuses, Repeats, with_effect, made_by, versions_after}
use Rattle.object_fold.specs.Views.{ObjectsView}
use Rattle.object_fold.specs.Executed.{AreAfter, AreKnown, ForAfter}
use Rattle.object_model.specs.Outcomes.{effect_after, outcome_of, outcome_after, strings_named}
use Rattle.object_fold.proofs.ExecutedLemmas.{length-in_order}
use Rattle.ring_model.specs.Messages.{Ring}
use Rattle.ring_model.specs.Member.{answers, hearts}
use Rattle.fold_model.specs.Folds.{requests_of, mark_of, label_named, outcomes_after, outcomes_by, namings_by, named_after, heart_after, of_newest}
use Rattle.fold_model.specs.Growing.{requests-append}
use Rattle.fold_model.specs.Rings.{FoldsAs}
use Rattle.pond_node.specs.Answers.{reply_from}
use Rattle.pond_node.specs.Standing.{AreOf, AddsOne}

-- ---- requests by their strings

-- a ring's naming function is the one that it was made with
pub same_naming : (h : List ℕ → List ℕ) (g : Ring) → IsRingOf h g → g.h ≡ h
same_naming h g ring = fun_ext ring.names

pub is_read : (string : List ℕ) (r : Request) → string ≡ request_string r → IsRequest r → request_at string ≡ r
is_read string r spelled is = ap request_at spelled ∙ request_seam r is.places

pub one_request_more : (before : List (List ℕ)) (string : List ℕ) (r : Request) → string ≡ request_string r → IsRequest r → requests_of (before ++ string ∷ []) ≡ r ∷ requests_of before
one_request_more before string r spelled is = requests-append before (string ∷ []) ∙ ap (λ q. q ∷ requests_of before) (is_read string r spelled is)

-- ---- what is said of one request more

module _ (h : List ℕ → List ℕ) (block : ℕ) (before : List (List ℕ)) (string : List ℕ) (r : Request) (spelled : string ≡ request_string r) (is : IsRequest r) where
  newest_is : {X : Type 0} (none : X) (say : Request → List Request → X) → of_newest none say (requests_of (before ++ string ∷ [])) ≡ say r (requests_of before)
  newest_is none say = ap (of_newest none say) (one_request_more before string r spelled is)

  pub named_is : (outcome : Outcome) → outcome ≡ outcome_after h block r (requests_of before)
      → namings_by h block (before ++ string ∷ []) ≡ strings_named h block r (requests_of before) ++ label_named r.label outcome
  named_is outcome e = newest_is [] (named_after h block) ∙ ap (λ o. strings_named h block r (requests_of before) ++ label_named r.label o) (sym e)

  pub outcomes_more : outcomes_by h block (before ++ string ∷ []) ≡ outcomes_by h block before ++ outcome_after h block r (requests_of before) ∷ []
  outcomes_more = ap (outcomes_after h block) (one_request_more before string r spelled is)

  pub one_done : (old new : ObjectsView) (outcomes : List Outcome) (outcome : Outcome) → AreOf h block before old outcomes
      → ForAfter h old (λ block earlier. outcome ≡ outcome_after h block r earlier) → ForAfter h old (λ block earlier. AreAfter h block (r ∷ earlier) new)
      → AreOf h block (before ++ string ∷ []) new (outcomes ++ outcome ∷ [])
  one_done old new outcomes outcome of told after = record {
    after = subst (λ rs. AreAfter h block rs new) (sym (one_request_more before string r spelled is)) (after block (requests_of before) of.after);
    outcomes_are = ap₂ (λ os o. os ++ o ∷ []) of.outcomes_are (told block (requests_of before) of.after) ∙ sym outcomes_more;
  }

  last_is : slice_get (before ++ string ∷ []) (length (before ++ string ∷ []) - 1) ≡ Some string
  last_is = ap (slice_get (before ++ string ∷ [])) (omega (arith, length-append before (string ∷ []))) ∙ at_end before
    where
      at_end : (xs : List (List ℕ)) → slice_get (xs ++ string ∷ []) (length xs) ≡ Some string
      at_end [] = refl
      at_end (x ∷ xs) = at_end xs

  pub answers_are : (g : Ring) (i : ℕ) (outcome : Outcome) → IsRingOf h g → FoldsAs h block g → outcome ≡ outcome_after h block r (requests_of before)
      → answers g i (before ++ string ∷ []) ≡ reply_from i r.client.0 r.number (outcome_string outcome) ∷ hearts g i (mark_of (object_name h r.label) outcome)
  answers_are g i outcome ring folds e =
      let owner : g.owner string ≡ r.client.0 = ap g.owner spelled ∙ ring.owners r is in
      let number : g.number string ≡ r.number = ap g.number spelled ∙ ring.numbers r is in
      let spoken : g.outcome (before ++ string ∷ []) ≡ outcome_string outcome
      = folds.outcomes (before ++ string ∷ []) ∙ newest_is [] (λ request earlier. outcome_string (outcome_after h block request earlier)) ∙ ap outcome_string (sym e) in
      let heart : g.heart (before ++ string ∷ []) ≡ mark_of (object_name h r.label) outcome
      = folds.hearts (before ++ string ∷ []) ∙ newest_is None (heart_after h block) ∙ ap (mark_of (object_name h r.label)) (sym e) in
      rw last_is (ap₂ (λ p ps. p ∷ ps) (ap₂ (λ c m. reply_from i c m (g.outcome (before ++ string ∷ []))) owner number ∙ ap (reply_from i r.client.0 r.number) spoken) (ap (hearts g i) heart))

-- ---- outcomes

-- a version that was made has a number from 1 on
pub outcome_fits : (h : List ℕ → List ℕ) (block : ℕ) (r : Request) (earlier : List Request) → OutcomeFits (outcome_after h block r earlier)
outcome_fits h block r earlier = by (effect_after h block r earlier)
  where
    some : (xs : List (List ℕ)) → 1 ≤ length (xs ++ [] ∷ [])
    some xs = omega (arith, length-append xs ([] ∷ []))

    by : (e : Effect) → OutcomeFits (outcome_of h block e (versions_after h block r.label earlier))
    by (Makes content) = some _
    by (Refuses NoClause) = tt
    by (Refuses OutOfRange) = tt
    by (Refuses TooLong) = tt
    by Repeats = tt

-- whatever was executed before, the outcome of a request fits
pub told_fits : (h : List ℕ → List ℕ) (held : Held) (old : ObjectsView) (r : Request) (outcome : Outcome) → AreKnown h held old → ForAfter h old (λ block earlier. outcome ≡ outcome_after h block r earlier) → OutcomeFits outcome
told_fits h held old r outcome known told = subst OutcomeFits (sym (told known.block known.requests known.after)) (outcome_fits h known.block r known.requests)

-- ---- how many versions there are

one_version : (label : List ℕ) (e : Effect) (made : List Made) → length (with_effect label e made) ≤ length made + 1
one_version label (Makes content) made = omega arith
one_version label (Refuses refusal) made = omega arith
one_version label Repeats made = omega arith

-- a request makes at most one version
pub adds_one : (h : List ℕ → List ℕ) (held : Held) (old new : ObjectsView) (r : Request) (outcomes : List Outcome) (outcome : Outcome) → AreKnown h held old → ForAfter h old (λ block earlier. AreAfter h block (r ∷ earlier) new)
    → AddsOne old new outcomes (outcomes ++ outcome ∷ [])
adds_one h held old new r outcomes outcome known after =
    let made : List Made = made_by h known.block known.requests in
    let now = after known.block known.requests known.after in
    let a : length old.made ≡ length made = ap length known.after.made ∙ length-in_order made in
    let b : length new.made ≡ length (made_by h known.block (r ∷ known.requests)) = ap length now.made ∙ length-in_order (made_by h known.block (r ∷ known.requests)) in
    let c : length (made_by h known.block (r ∷ known.requests)) ≤ length made + 1 = one_version r.label (effect_after h known.block r known.requests) made in
    let d = length-append outcomes (outcome ∷ []) in
    record { made = omega arith; few = λ few. omega arith; outcomes = omega arith }

pub adds_none : (old : ObjectsView) (outcomes : List Outcome) → AddsOne old old outcomes outcomes
adds_none old outcomes = record { made = omega arith; few = λ few. few; outcomes = omega arith }
