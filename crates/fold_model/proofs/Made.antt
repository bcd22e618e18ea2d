-- A mark at a place of a list is that of the version that the request there makes.
use Rattle.std.proofs.Common.{◌≡◌, ℕ, zero, suc, ◌+◌, ◌<◌, ◌≤◌, List, [], ◌∷◌, length, take, Contains, Some, None, ⊎_elim, refl, sym, ap, ◌∙◌, subst, arith}
use Rattle.std.proofs.lemmas.List.Elements.{Contains-append_left, Contains-append_right}
use Rattle.guarded_update.specs.declared.request.Request.{Request}
use Rattle.object_model.specs.Trees.{version_name, object_name}
use Rattle.object_model.specs.Updates.{NoClause, OutOfRange, TooLong}
use Rattle.object_model.specs.Folds.{Made, Effect, Makes, Refuses, Repeats, with_effect, made_by, versions_of, versions_after}
use Rattle.object_model.specs.Outcomes.{effect_after, outcome_of}
use Rattle.message_model.specs.Requests.{request_at}
use Rattle.ring_model.specs.Messages.{Mark}
use Rattle.ring_model.specs.Laws.{IsPrefix}
use Rattle.ring_model.proofs.History.{same_some, prefix_cons}
use Rattle.ring_model.proofs.Lists.{there_none, there_cases, there_first, at_in, at_some}
use Rattle.fold_model.specs.Folds.{requests_of, of_newest, mark_of, heart_after, heart_by}
use Rattle.fold_model.specs.Growing.{requests-append}
use Rattle.fold_model.proofs.Outcomes.{take_next}
use Rattle.fold_model.proofs.Versions.{version_first}

-- the request of each string is among the requests
pub requests_there : (strings : List (List ℕ)) (string : List ℕ) → Contains strings string → Contains (requests_of strings) (request_at string)
requests_there [] string c = absurd (there_none string c)
requests_there (first ∷ strings) string c =
    subst (λ rs. Contains rs (request_at string)) (sym (requests-append (first ∷ []) strings))
    (⊎_elim
    (λ same. Contains-append_right (requests_of strings) (request_at first ∷ []) (request_at string) (subst (λ s. Contains (request_at first ∷ []) (request_at s)) same (there_first (request_at first) [])))
    (λ later. Contains-append_left (requests_of strings) (request_at first ∷ []) (request_at string) (requests_there strings string later))
    (there_cases first strings string c))

-- fewer entries are a prefix of more
pub taken_prefix : {X : Type 0} (a b : ℕ) (xs : List X) → a ≤ b → IsPrefix (take a xs) (take b xs)
taken_prefix zero b xs low = (take b xs, refl)
taken_prefix (suc a) zero xs low = absurd (omega arith)
taken_prefix (suc a) (suc b) [] low = ([], refl)
taken_prefix (suc a) (suc b) (x ∷ xs) low = prefix_cons x (take a xs) (take b xs) (taken_prefix a b xs (omega arith))

-- a mark is that of the version of a label's object which a request makes after earlier ones
pub record IsMade (h : List ℕ → List ℕ) (block : ℕ) (label : List ℕ) (earlier now : List Request) (mark : Mark) : Type 0 where
  pub is_object : mark.object ≡ object_name h label
  pub number : mark.version ≡ length (versions_after h block label earlier)
  pub content : List ℕ
  pub more : versions_after h block label now ≡ content ∷ versions_after h block label earlier
  pub is_name : mark.name ≡ version_name h block (versions_after h block label now)

-- it is the last so far
pub made_last : (h : List ℕ → List ℕ) (block : ℕ) (label : List ℕ) (earlier now : List Request) (mark : Mark) → IsMade h block label earlier now mark → length (versions_after h block label now) ≡ mark.version + 1
made_last h block label earlier now mark made = omega (arith, ap length made.more, made.number)

-- the heart of the newest request is that of the version that it makes
heart_made : (h : List ℕ → List ℕ) (block : ℕ) (r : Request) (earlier : List Request) (mark : Mark) → heart_after h block r earlier ≡ Some mark → IsMade h block r.label earlier (r ∷ earlier) mark
heart_made h block r earlier mark e = by (effect_after h block r earlier) refl e
  where
    made : List Made
    made = made_by h block earlier

    V : List (List ℕ)
    V = versions_after h block r.label earlier

    by : (x : Effect) → effect_after h block r earlier ≡ x → mark_of (object_name h r.label) (outcome_of h block x V) ≡ Some mark → IsMade h block r.label earlier (r ∷ earlier) mark
    by (Makes content) is some =
        let same = same_some _ mark some in
        let now : versions_after h block r.label (r ∷ earlier) ≡ content ∷ V
        = ap (λ x. versions_of r.label (with_effect r.label x made)) is ∙ version_first (record { label = r.label; content = content }) made in
        record {
          is_object = sym (ap (λ (m : Mark). m.object) same);
          number = sym (ap (λ (m : Mark). m.version) same);
          content = content;
          more = now;
          is_name = sym (ap (λ (m : Mark). m.name) same) ∙ ap (version_name h block) (sym now);
        }
    by (Refuses NoClause) is some = absurd (cc some)
    by (Refuses OutOfRange) is some = absurd (cc some)
    by (Refuses TooLong) is some = absurd (cc some)
    by Repeats is some = absurd (cc some)

-- one request more
pub one_more : (strings : List (List ℕ)) (n : ℕ) → n < length strings
    → (r : Request) × Contains (requests_of strings) r × (requests_of (take (suc n) strings) ≡ r ∷ requests_of (take n strings))
one_more strings n inside =
    let there = at_some strings n inside in
    (request_at there.0, requests_there strings there.0 (at_in strings n there.0 there.1), ap requests_of (sym (take_next strings n there.0 there.1).0) ∙ requests-append (take n strings) (there.0 ∷ []))

-- the last of the first so many strings makes the version of a mark, for the label of its request
pub made_at : (h : List ℕ → List ℕ) (block : ℕ) (strings : List (List ℕ)) (n : ℕ) (mark : Mark) → n ≤ length strings → heart_by h block (take n strings) ≡ Some mark
    → (before : ℕ) × (r : Request) × (n ≡ suc before) × Contains (requests_of strings) r × IsMade h block r.label (requests_of (take before strings)) (requests_of (take n strings)) mark
made_at h block strings zero mark low e = absurd (cc e)
made_at h block strings (suc n) mark low e =
    let next = one_more strings n (omega arith) in (
      n,
      next.0,
      refl,
      next.1,
      subst (λ now. IsMade h block next.0.label (requests_of (take n strings)) now mark) (sym next.2)
          (heart_made h block next.0 (requests_of (take n strings)) mark (sym (ap (of_newest None (heart_after h block)) next.2) ∙ e)),
    )
