-- What bytes spell is what they are read as.
use Rattle.std.proofs.Common.{◌≡◌, ◌⊎◌, inl, inr, ℕ, ◌<◌, ◌≤◌, ◌^◌, true, false, cond, ◌&&◌, nat_lt, nat_le, List, ◌++◌, length, take, drop, Some, None, refl, ap, ap₂, sym, ◌∙◌, subst, arith, bytes_eq, append_assoc}
use Rattle.std.proofs.lemmas.Slice.Eq.{bytes_eq-Decides}
use Rattle.guarded_update.specs.declared.request.Request.{Request as Asked}
use Rattle.guarded_update.specs.Fitting.{IsRequest, request_fits}
use Rattle.guarded_update.specs.Spelling.{number, request_string}
use Rattle.guarded_update.proofs.Sizes.{and_parts, both, is_le, le_of}
use Rattle.ring_message.specs.declared.outcome.Outcome.{Outcome}
use Rattle.ring_message.specs.declared.outcome.Outcome.TheVariants.{Made, NoClause, OutOfRange, TooLong, Repeat}
use Rattle.ring_message.specs.declared.message.Message.{Message}
use Rattle.ring_message.specs.declared.message.Message.TheVariants.{Request, PrePrepare, Prepare, Commit, Reply, Heart, Sealed}
use Rattle.ring_message.specs.Grammar.{IsRequestString, IsSlot, OutcomeFits, OutcomeHasPlaces, IsMessage}
use Rattle.ring_message.specs.Spelling.{outcome_string, message_string}
use Rattle.ring_model.specs.Messages.{Foreign}
use Rattle.message_model.specs.Requests.{number_at, request_at, has_places, spells, is_request_string}
use Rattle.message_model.specs.Meaning.{outcome_at, message_at, is_slot, is_count, is_name, is_outcome, is_message, said, is_spelled, meaning}
use Rattle.message_model.specs.Laws.{MeansOne, RequestsAreRead, OnlyRequestsAreRead, MessagesAreMeant, OthersAreForeign}
use Rattle.message_model.proofs.Fields.{number_seam, take_seam, drop_seam, request_seam}
use Rattle.message_model.proofs.Places.{lt_of, is_lt, is_eq, eq_of, places_of, are_places}

spells_itself : (r : Asked) → IsRequest r → spells r (request_string r) ≡ true
spells_itself r is = both (request_fits r && has_places r) (bytes_eq (request_string r) (request_string r)) (both (request_fits r) (has_places r) is.fits (are_places r is.places)) ((bytes_eq-Decides (request_string r) (request_string r)).1 refl)

spelled_alone : (r : Asked) (bytes : List ℕ) → spells r bytes ≡ true → IsRequest r × (bytes ≡ request_string r)
spelled_alone r bytes h =
    let x = and_parts (request_fits r && has_places r) (bytes_eq (request_string r) bytes) h in let y = and_parts (request_fits r) (has_places r) x.0 in
    (record { fits = y.0; places = places_of r y.1 }, sym ((bytes_eq-Decides (request_string r) bytes).0 x.1))

its_string : (r : Asked) → IsRequest r → is_request_string (request_string r) ≡ true
its_string r is = ap (λ q. spells q (request_string r)) (request_seam r is.places) ∙ spells_itself r is

pub requests_are_read : RequestsAreRead
requests_are_read r is = ap (λ b. cond b (Some (request_at (request_string r))) None) (its_string r is) ∙ ap Some (request_seam r is.places)

pub only_requests_are_read : OnlyRequestsAreRead
only_requests_are_read bytes r e =
    elim (is_request_string bytes) as (λ b. is_request_string bytes ≡ b → cond b (Some (request_at bytes)) None ≡ Some r → IsRequest r × (bytes ≡ request_string r)) [
      | true ↦ λ yes f. let same : request_at bytes ≡ r = cc in subst (λ q. IsRequest q × (bytes ≡ request_string q)) same (spelled_alone (request_at bytes) bytes yes)
      | false ↦ λ no f. absurd (cc)
    ] refl e

pub request_true : (bytes : List ℕ) → IsRequestString bytes → is_request_string bytes ≡ true
request_true bytes is = ap is_request_string is.2 ∙ its_string is.0 is.1

pub request_of : (bytes : List ℕ) → is_request_string bytes ≡ true → IsRequestString bytes
request_of bytes h = let parts = spelled_alone (request_at bytes) bytes h in (request_at bytes, parts.0, parts.1)

outcome_seam : (o : Outcome) → OutcomeHasPlaces o → outcome_at (outcome_string o) ≡ o
outcome_seam (Made version name) is = ap (λ n. Made (record { 0 = n }) name) (number_seam version.0 name is.0)
outcome_seam NoClause is = refl
outcome_seam OutOfRange is = refl
outcome_seam TooLong is = refl
outcome_seam Repeat is = refl

slot_small : (seq : ℕ) → IsSlot seq → seq < 2 ^ 32
slot_small seq is = omega (arith, is.0, is.1)

message_seam : (m : Message) → IsMessage m → message_at (message_string m) ≡ m
message_seam (Request request) is = refl
message_seam (PrePrepare seq request) is = ap (λ n. PrePrepare (record { 0 = n }) request) (number_seam seq.0 request (slot_small seq.0 is.fits.0))
message_seam (Prepare seq name) is = ap (λ n. Prepare (record { 0 = n }) name) (number_seam seq.0 name (slot_small seq.0 is.fits))
message_seam (Commit seq name) is = ap (λ n. Commit (record { 0 = n }) name) (number_seam seq.0 name (slot_small seq.0 is.fits))
message_seam (Reply count outcome) is = ap₂ Reply (number_seam count (outcome_string outcome) is.places.0) (outcome_seam outcome is.places.1)
message_seam (Heart object version name) is =
    ap (λ b. Heart (take 20 b) (record { 0 = number_at (drop 20 b) }) (drop 4 (drop 20 b))) (append_assoc object (number version.0) name)
    ∙ ap₂ (λ (o r : List ℕ). Heart o (record { 0 = number_at r }) (drop 4 r)) (take_seam 20 object (number version.0 ++ name) is.places.0) (drop_seam 20 object (number version.0 ++ name) is.places.0)
    ∙ ap (λ n. Heart object (record { 0 = n }) name) (number_seam version.0 name is.places.1)
message_seam (Sealed object version manifest) is =
    ap (λ b. Sealed (take 20 b) (record { 0 = number_at (drop 20 b) }) (drop 4 (drop 20 b))) (append_assoc object (number version.0) manifest)
    ∙ ap₂ (λ (o r : List ℕ). Sealed o (record { 0 = number_at r }) (drop 4 r)) (take_seam 20 object (number version.0 ++ manifest) is.places.0) (drop_seam 20 object (number version.0 ++ manifest) is.places.0)
    ∙ ap (λ n. Sealed object (record { 0 = n }) manifest) (number_seam version.0 manifest is.places.1)

slot_true : (seq : ℕ) → IsSlot seq → is_slot seq ≡ true
slot_true seq is = both (nat_le 1 seq) (nat_le seq 65536) (is_le 1 seq is.0) (is_le seq 65536 is.1)

slot_of : (seq : ℕ) → is_slot seq ≡ true → IsSlot seq
slot_of seq h = let parts = and_parts (nat_le 1 seq) (nat_le seq 65536) h in (le_of 1 seq parts.0, le_of seq 65536 parts.1)

count_true : (n : ℕ) → 1 ≤ n → n < 2 ^ 32 → is_count n ≡ true
count_true n p q = both (nat_le 1 n) (nat_lt n (2 ^ 32)) (is_le 1 n p) (is_lt n (2 ^ 32) q)

count_of : (n : ℕ) → is_count n ≡ true → (1 ≤ n) × (n < 2 ^ 32)
count_of n h = let parts = and_parts (nat_le 1 n) (nat_lt n (2 ^ 32)) h in (le_of 1 n parts.0, lt_of n (2 ^ 32) parts.1)

outcome_true : (o : Outcome) → OutcomeFits o → OutcomeHasPlaces o → is_outcome o ≡ true
outcome_true (Made version name) fits places = both (is_count version.0) (is_name name) (count_true version.0 fits places.0) (is_eq (length name) 20 places.1)
outcome_true NoClause fits places = refl
outcome_true OutOfRange fits places = refl
outcome_true TooLong fits places = refl
outcome_true Repeat fits places = refl

outcome_of : (o : Outcome) → is_outcome o ≡ true → OutcomeFits o × OutcomeHasPlaces o
outcome_of (Made version name) h = let parts = and_parts (is_count version.0) (is_name name) h in let count = count_of version.0 parts.0 in (count.0, (count.1, eq_of (length name) 20 parts.1))
outcome_of NoClause h = (tt, tt)
outcome_of OutOfRange h = (tt, tt)
outcome_of TooLong h = (tt, tt)
outcome_of Repeat h = (tt, tt)

mark_true : (object : List ℕ) (version : ℕ) (name : List ℕ) → length object ≡ 20 → 1 ≤ version → version < 2 ^ 32 → length name ≡ 20 → (is_name object && is_count version && is_name name) ≡ true
mark_true object version name o p q n = both (is_name object && is_count version) (is_name name) (both (is_name object) (is_count version) (is_eq (length object) 20 o) (count_true version p q)) (is_eq (length name) 20 n)

mark_of : (object : List ℕ) (version : ℕ) (name : List ℕ) → (is_name object && is_count version && is_name name) ≡ true → (length object ≡ 20) × (1 ≤ version) × (version < 2 ^ 32) × (length name ≡ 20)
mark_of object version name h =
    let x = and_parts (is_name object && is_count version) (is_name name) h in let y = and_parts (is_name object) (is_count version) x.0 in let count = count_of version y.1 in
    (eq_of (length object) 20 y.0, count.0, count.1, eq_of (length name) 20 x.1)

message_true : (m : Message) → IsMessage m → is_message m ≡ true
message_true (Request request) is = request_true request is.fits
message_true (PrePrepare seq request) is = both (is_slot seq.0) (is_request_string request) (slot_true seq.0 is.fits.0) (request_true request is.fits.1)
message_true (Prepare seq name) is = both (is_slot seq.0) (is_name name) (slot_true seq.0 is.fits) (is_eq (length name) 20 is.places)
message_true (Commit seq name) is = both (is_slot seq.0) (is_name name) (slot_true seq.0 is.fits) (is_eq (length name) 20 is.places)
message_true (Reply count outcome) is = both (is_count count) (is_outcome outcome) (count_true count is.fits.0 is.places.0) (outcome_true outcome is.fits.1 is.places.1)
message_true (Heart object version name) is = mark_true object version.0 name is.places.0 is.fits is.places.1 is.places.2
message_true (Sealed object version manifest) is = mark_true object version.0 manifest is.places.0 is.fits is.places.1 is.places.2

is_one : (m : Message) → is_message m ≡ true → IsMessage m
is_one (Request request) h = record { fits = request_of request h; places = tt }
is_one (PrePrepare seq request) h = let parts = and_parts (is_slot seq.0) (is_request_string request) h in record { fits = (slot_of seq.0 parts.0, request_of request parts.1); places = tt }
is_one (Prepare seq name) h = let parts = and_parts (is_slot seq.0) (is_name name) h in record { fits = slot_of seq.0 parts.0; places = eq_of (length name) 20 parts.1 }
is_one (Commit seq name) h = let parts = and_parts (is_slot seq.0) (is_name name) h in record { fits = slot_of seq.0 parts.0; places = eq_of (length name) 20 parts.1 }
is_one (Reply count outcome) h =
    let parts = and_parts (is_count count) (is_outcome outcome) h in let n = count_of count parts.0 in let o = outcome_of outcome parts.1 in
    record { fits = (n.0, o.0); places = (n.1, o.1) }
is_one (Heart object version name) h = let mark = mark_of object version.0 name h in record { fits = mark.1; places = (mark.0, mark.2, mark.3) }
is_one (Sealed object version manifest) h = let mark = mark_of object version.0 manifest h in record { fits = mark.1; places = (mark.0, mark.2, mark.3) }

pub messages_are_meant : MessagesAreMeant
messages_are_meant m is =
    let bytes = message_string m in
    let seam = message_seam m is in
    let yes : is_spelled (message_at bytes) bytes ≡ true
    = ap (λ n. is_spelled n bytes) seam ∙ both (is_message m) (bytes_eq bytes bytes) (message_true m is) ((bytes_eq-Decides bytes bytes).1 refl) in
    ap (λ b. cond b (said (message_at bytes)) Foreign) yes ∙ ap said seam

pub others_are_foreign : OthersAreForeign
others_are_foreign bytes =
    elim (is_spelled (message_at bytes) bytes) as (λ b. is_spelled (message_at bytes) bytes ≡ b → MeansOne bytes ⊎ (meaning bytes ≡ Foreign)) [
      | true ↦ λ yes.
          let parts = and_parts (is_message (message_at bytes)) (bytes_eq (message_string (message_at bytes)) bytes) yes in
          inl (record { message = message_at bytes; is = is_one (message_at bytes) parts.0; spelled = sym ((bytes_eq-Decides (message_string (message_at bytes)) bytes).0 parts.1); meant = ap (λ b. cond b (said (message_at bytes)) Foreign) yes })
      | false ↦ λ no. inr (ap (λ b. cond b (said (message_at bytes)) Foreign) no)
    ] refl
