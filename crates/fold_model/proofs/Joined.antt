-- What is believed is of the fold of the one list.
use Rattle.std.proofs.Common.{◌≡◌, ◌≢◌, ℕ, zero, suc, ◌+◌, ◌-◌, ◌<◌, Bool, true, false, List, [], ◌∷◌, ◌++◌, length, map, take, reverse, slice_get, Contains, Some, None, cond, refl, sym, ap, ◌∙◌, subst, arith, length-append, ⊎_elim}
use Rattle.std.specs.List.{list_any}
use Rattle.std.proofs.lemmas.List.{reverse-append}
use Rattle.std.proofs.lemmas.Bool.{false≢true}
use Rattle.std.proofs.Math.Seq.{take-append_seam}
use Rattle.guarded_update.specs.declared.request.Request.{Request}
use Rattle.object_model.specs.Trees.{version_name, object_name}
use Rattle.object_model.specs.Updates.{NoClause, OutOfRange, TooLong, outcome}
use Rattle.object_model.specs.Folds.{Made, Effect, Makes, Refuses, Repeats, effect_of_outcome, same_number, with_effect, made_by, versions_of, versions_after}
use Rattle.object_model.specs.Outcomes.{effect_after, outcome_of, outcome_after}
use Rattle.ring_message.specs.declared.outcome.Outcome.TheVariants as told
use Rattle.ring_message.specs.Spelling.{outcome_string}
use Rattle.ring_model.specs.Messages.{Mark}
use Rattle.ring_model.specs.World.{world, chosen}
use Rattle.ring_model.proofs.History.{same_some, Each-at}
use Rattle.ring_model.proofs.Lists.{there_first, there_later, there_cases, there_none, there_map, any_there, at_in}
use Rattle.ring_model.proofs.Stays.{at_stays}
use Rattle.ring_model.proofs.Believed.{believed_heart, believed_seal, believed_reply}
use Rattle.message_model.specs.Requests.{request_at}
use Rattle.message_model.proofs.Fields.{request_seam}
use Rattle.fold_model.specs.Folds.{requests_of, of_newest, mark_of, heart_after, outcome_by, seals_by}
use Rattle.fold_model.specs.Growing.{requests-append}
use Rattle.fold_model.specs.Rings.{ring_of}
use Rattle.fold_model.specs.Laws.{RingIsRead, HeartIsVersion, SealIsManifest, ReplyIsOutcome}
use Rattle.fold_model.proofs.Versions.{version_first, versions_stay, all_seals}

pub ring_is_read : RingIsRead
ring_is_read faults clients are_faulty h block archiving = record {
  names = λ string. refl;
  owners = λ r is. ap (λ (q : Request). q.client.0) (request_seam r is.places);
  numbers = λ r is. ap (λ (q : Request). q.number) (request_seam r is.places);
}

-- ---- hearts

-- a mark is that of the newest version of an object
record IsNewest (h : List ℕ → List ℕ) (block : ℕ) (requests : List Request) (mark : Mark) : Type 0 where
  label : List ℕ
  is_object : mark.object ≡ object_name h label
  count : length (versions_after h block label requests) ≡ mark.version + 1
  is_name : mark.name ≡ version_name h block (versions_after h block label requests)

-- the heart of the newest request is that of the version that it makes
heart_made : (h : List ℕ → List ℕ) (block : ℕ) (r : Request) (earlier : List Request) (mark : Mark) → heart_after h block r earlier ≡ Some mark → IsNewest h block (r ∷ earlier) mark
heart_made h block r earlier mark e = by (effect_after h block r earlier) refl e
  where
    made : List Made
    made = made_by h block earlier

    V : List (List ℕ)
    V = versions_after h block r.label earlier

    by : (x : Effect) → effect_after h block r earlier ≡ x → mark_of (object_name h r.label) (outcome_of h block x V) ≡ Some mark → IsNewest h block (r ∷ earlier) mark
    by (Makes content) is some =
        let same = same_some _ mark some in
        let now : versions_after h block r.label (r ∷ earlier) ≡ content ∷ V
        = ap (λ x. versions_of r.label (with_effect r.label x made)) is ∙ version_first (record { label = r.label; content = content }) made in
        record {
          label = r.label;
          is_object = sym (ap (λ (m : Mark). m.object) same);
          count = omega (arith, ap length now, ap (λ (m : Mark). m.version) same);
          is_name = sym (ap (λ (m : Mark). m.name) same) ∙ ap (version_name h block) (sym now);
        }
    by (Refuses NoClause) is some = absurd (cc some)
    by (Refuses OutOfRange) is some = absurd (cc some)
    by (Refuses TooLong) is some = absurd (cc some)
    by Repeats is some = absurd (cc some)

heart_of : (h : List ℕ → List ℕ) (block : ℕ) (requests : List Request) (mark : Mark) → of_newest None (heart_after h block) requests ≡ Some mark → IsNewest h block requests mark
heart_of h block [] mark e = absurd (cc e)
heart_of h block (r ∷ earlier) mark e = heart_made h block r earlier mark e

pub heart_is_version : HeartIsVersion
heart_is_version faults clients are_faulty h block archiving few events legal clash c object number name e =
    let g = ring_of faults clients are_faulty h block archiving in
    let b = believed_heart g few events legal clash c object number name e in
    let newest = heart_of h block (requests_of b.0) (record { object = object; version = number; name = name }) b.2 in
    let stay = versions_stay h block newest.label b.0 (chosen g (world g events)) b.1 in
    (record { label = newest.label; is_object = newest.is_object; versions = versions_after h block newest.label (requests_of b.0); newer = stay.0; among = stay.1; count = newest.count }, newest.is_name)

-- ---- seals

pub seal_is_manifest : SealIsManifest
seal_is_manifest faults clients are_faulty h block archiving few events legal clash c object number name e =
    let g = ring_of faults clients are_faulty h block archiving in
    let b = believed_seal g few events legal clash c object number name e in
    let made : List Made = made_by h block (requests_of (chosen g (world g events))) in
    let seal = Each-at _ (seals_by h block archiving (chosen g (world g events))) b.0 (record { object = object; version = number; name = name }) (all_seals h archiving [] made) b.1 in
    (record { label = seal.label; is_object = seal.is_object; versions = seal.versions; newer = seal.newer; among = seal.among; count = seal.count }, seal.is_name)

-- ---- replies

-- a list with a last entry is those before it, and that entry
split_last : {X : Type 0} (xs : List X) (x : X) → slice_get xs (length xs - 1) ≡ Some x → (ys : List X) × (xs ≡ ys ++ x ∷ [])
split_last [] x e = absurd (cc e)
split_last (y ∷ []) x e = ([], ap (λ z. z ∷ []) (same_some y x e))
split_last (y ∷ z ∷ xs) x e =
    let rest = split_last (z ∷ xs) x (next e) in
    (y ∷ rest.0, ap (λ ys. y ∷ ys) rest.1)
  where
    next : slice_get (y ∷ z ∷ xs) (suc (suc (length xs)) - 1) ≡ Some x → slice_get (z ∷ xs) (suc (length xs) - 1) ≡ Some x
    next h =
        let a : suc (suc (length xs)) - 1 ≡ suc (length xs) = omega arith in
        let b : suc (length xs) - 1 ≡ length xs = omega arith in
        ap (λ k. slice_get (z ∷ xs) k) b ∙ sym (ap (λ k. slice_get (y ∷ z ∷ xs) k) a) ∙ h

-- an entry within a prefix stands there
low_at : {X : Type 0} (xs ys : List X) (k : ℕ) (x : X) → k < length xs → slice_get (xs ++ ys) k ≡ Some x → slice_get xs k ≡ Some x
low_at [] ys k x low e = absurd (omega arith)
low_at (z ∷ xs) ys zero x low e = e
low_at (z ∷ xs) ys (suc k) x low e = low_at xs ys k x (omega arith) e

there_left : {X : Type 0} (xs ys : List X) (x : X) → Contains xs x → Contains (xs ++ ys) x
there_left [] ys x c = absurd (there_none x c)
there_left (y ∷ xs) ys x c = ⊎_elim (λ e. subst (Contains (y ∷ xs ++ ys)) e (there_first y (xs ++ ys))) (λ d. there_later y (xs ++ ys) x (there_left xs ys x d)) (there_cases y xs x c)

there_right : {X : Type 0} (xs ys : List X) (x : X) → Contains ys x → Contains (xs ++ ys) x
there_right [] ys x c = c
there_right (y ∷ xs) ys x c = there_later y (xs ++ ys) x (there_right xs ys x c)

there_reversed : {X : Type 0} (xs : List X) (x : X) → Contains xs x → Contains (reverse xs) x
there_reversed [] x c = absurd (there_none x c)
there_reversed (y ∷ xs) x c =
    subst (λ zs. Contains zs x) (sym (reverse-append (y ∷ []) xs))
    (⊎_elim (λ e. there_right (reverse xs) (y ∷ []) x (subst (Contains (y ∷ [])) e (there_first y []))) (λ d. there_left (reverse xs) (y ∷ []) x (there_reversed xs x d)) (there_cases y xs x c))

-- a request with another outcome than a repeat is the first of its client and number
first_asked : (h : List ℕ → List ℕ) (block : ℕ) (r : Request) (earlier : List Request) → outcome_string (outcome_after h block r earlier) ≢ outcome_string told.Repeat → list_any (same_number r) earlier ≡ false
first_asked h block r earlier new = by (list_any (same_number r) earlier) refl
  where
    by : (b : Bool) → list_any (same_number r) earlier ≡ b → list_any (same_number r) earlier ≡ false
    by false e = e
    by true e =
        let versions = versions_after h block r.label earlier in
        absurd (new (ap (λ b. outcome_string (outcome_of h block (cond b Repeats (effect_of_outcome (outcome h block r.update.clauses versions))) versions)) e))

not_before : (t : Request → Bool) (strings : List (List ℕ)) (k : ℕ) (other : List ℕ) → list_any t (requests_of strings) ≡ false → slice_get strings k ≡ Some other → t (request_at other) ≡ false
not_before t strings k other none at = by (t (request_at other)) refl
  where
    there : Contains (requests_of strings) (request_at other)
    there = there_reversed (map request_at strings) (request_at other) (there_map request_at strings other (at_in strings k other at))

    by : (b : Bool) → t (request_at other) ≡ b → t (request_at other) ≡ false
    by false e = e
    by true e = absurd (false≢true (sym none ∙ any_there t (requests_of strings) (request_at other) there e))

pub reply_is_outcome : ReplyIsOutcome
reply_is_outcome faults clients are_faulty h block archiving few events legal clash client number spelled e =
    let g = ring_of faults clients are_faulty h block archiving in
    let all : List (List ℕ) = chosen g (world g events) in
    let b = believed_reply g few events legal clash client number spelled e in
    let xs : List (List ℕ) = b.0 in
    let r : List ℕ = b.1 in
    let split = split_last xs r b.3 in
    let size : length xs ≡ length split.0 + 1 = ap length split.1 ∙ length-append split.0 (r ∷ []) in
    let newest : requests_of xs ≡ request_at r ∷ requests_of split.0 = ap requests_of split.1 ∙ requests-append split.0 (r ∷ []) in
    let told_is : outcome_string (outcome_after h block (request_at r) (requests_of split.0)) ≡ spelled
    = sym (ap (of_newest [] (λ request earlier. outcome_string (outcome_after h block request earlier))) newest) ∙ b.6 in
    let long : suc (length xs - 1) ≡ length xs = omega (arith, size) in
    let taken : take (suc (length xs - 1)) all ≡ xs
    = ap (λ n. take n all) long ∙ ap (take (length xs)) (sym b.2.1) ∙ take-append_seam xs b.2.0 in
    record {
      place = length xs - 1;
      string = r;
      at = subst (λ ys. slice_get ys (length xs - 1) ≡ Some r) b.2.1 (at_stays xs b.2.0 (length xs - 1) r b.3);
      client_is = b.4;
      number_is = b.5;
      outcome_is = sym b.6 ∙ ap (outcome_by h block) (sym taken);
      first = λ new earlier other low at.
          not_before (same_number (request_at r)) split.0 earlier other
          (first_asked h block (request_at r) (requests_of split.0) (λ same. new (sym told_is ∙ same)))
          (low_at split.0 (r ∷ []) earlier other (omega (arith, size, low))
          (ap (λ ys. slice_get ys earlier) (sym split.1) ∙ low_at xs b.2.0 earlier other (omega (arith, size, low)) (ap (λ ys. slice_get ys earlier) b.2.1 ∙ at)));
    }
