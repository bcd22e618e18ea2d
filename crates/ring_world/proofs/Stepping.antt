-- One message handed to one party.
use Rattle.std.proofs.Common.{◌≡◌, ◌&&◌, ℕ, zero, suc, refl, ◌+◌, ◌-◌, ◌<◌, ◌≤◌, min, List, [], ◌∷◌, ◌++◌, length, map, take, drop, slice_get, get_or, Some, None, ⊎_elim, sym, ap, ap₂, ◌∙◌, subst, arith, append-nil, append_assoc, length-append, length-drop}
use Rattle.std.proofs.lemmas.Bool.{cases_lt}
use Rattle.std.proofs.lemmas.List.{take_more, drop-append-le, drop-drop, drop-map, map-append, length-map}
use Rattle.std.proofs.lemmas.Option.{slice_get_within, slice_get_past}
use Rattle.circular_buffer.specs.Buffer.{Buffer, buffer, keep_last}
use Rattle.ring_model.specs.Messages.{Ring, Party as Who, Packet as Sent, Member as member, Client as client, same_party}
use Rattle.ring_model.specs.World.{World as Model, between, came, IsParty}
use Rattle.message_model.specs.Meaning.{who, meaning}
use Rattle.ring_model.specs.Seats.{IsSeat}
use Rattle.ring_mail.specs.declared.kept.Mail.{Mail}
use Rattle.ring_mail.specs.declared.kept.Note.{Note}
use Rattle.ring_model.specs.Places.{Place, delivery}
use Rattle.ring_mail.specs.Places.{place_of, packet_of}
use Rattle.ring_mail.specs.Mails.{IsMail}
use Rattle.ring_mail.proofs.Keeping.{delivery_there, delivery_none, filter-short, length-placed}
use Rattle.ring_world.specs.declared.members.Members.{Members}
use Rattle.ring_world.specs.declared.state.World.{World}
use Rattle.ring_world.specs.Standing.{Standing}
use Rattle.ring_world.specs.Crew.{AreMembers, with_letter, owed_for}
use Rattle.message_model.specs.Told.{Told, told, counted}
use Rattle.ring_world.specs.Steps.{IsDeclared}
use Rattle.ring_world.specs.Worlds.{IsSmall, IsWorld, place_in}

-- ---- posting

pub posted_more : {X : Type 0} (f : X → Sent) (sent : List Sent) (xs : List X) (i : ℕ) (x : X) → i < length xs → x ≡ get_or xs i x → (sent ++ map f (take i xs)) ++ f x ∷ [] ≡ sent ++ map f (take (i + 1) xs)
posted_more f sent xs i x low is =
    append_assoc sent (map f (take i xs)) (f x ∷ [])
    ∙ ap (λ ys. sent ++ ys) (sym (ap (map f) (take_more xs i x low) ∙ map-append f (take i xs) (get_or xs i x ∷ []) ∙ ap (λ y. map f (take i xs) ++ f y ∷ []) (sym is)))

-- ---- a member's turn

-- a member was handed a letter, and what it owes was sent
pub handed : {N : Type 0} (stands : Standing N) (g : Ring) (w : World N) (v : Model) (done : List Place) (from : Who) (i : ℕ) (bytes : List ℕ) (m : Members N) (mail : Mail)
    → AreMembers stands g m (with_letter v.got (member i) (record { from = from; message = meaning bytes })) v.archived
    → IsMail mail (v.sent ++ owed_for g i (v.got (member i)) (record { from = from; message = meaning bytes })) done
    → IsWorld stands g w v done
    → IsWorld stands g (record w { members = m; mail = mail }) (came g v (Some (packet_of from (member i) bytes))) done
handed stands g w v done from i bytes m mail are posted h =
    record {
      small = h.small;
      mail_is = posted;
      members_are = are;
      client_count = h.client_count;
      clients_stand = h.clients_stand;
      recent_is = h.recent_is;
      eight = h.eight;
      going = h.going;
    }

-- ---- the last deliveries

keep_long : {X : Type 0} (xs : List X) (a : X) → 8 ≤ length xs → keep_last 8 (keep_last 8 xs ++ a ∷ []) ≡ keep_last 8 (xs ++ a ∷ [])
keep_long xs a long =
    let k : ℕ = length xs - 8 in
    let size : length (drop (length xs - 8) xs ++ a ∷ []) - 8 ≡ 1 = omega (arith, length-append (drop (length xs - 8) xs) (a ∷ []), length-drop (length xs - 8) xs, long) in
    let all : length (xs ++ a ∷ []) - 8 ≡ length xs - 8 + 1 = omega (arith, length-append xs (a ∷ []), long) in
    let within : length xs - 8 ≤ length xs = omega arith in
    ap (λ n. drop n (drop (length xs - 8) xs ++ a ∷ [])) size
    ∙ ap (drop 1) (sym (drop-append-le (length xs - 8) xs (a ∷ []) within))
    ∙ drop-drop 1 (length xs - 8) (xs ++ a ∷ [])
    ∙ ap (λ n. drop n (xs ++ a ∷ [])) (sym all)

keep_short : {X : Type 0} (xs : List X) (a : X) → length xs ≤ 8 → keep_last 8 (keep_last 8 xs ++ a ∷ []) ≡ keep_last 8 (xs ++ a ∷ [])
keep_short xs a short =
    let none : length xs - 8 ≡ 0 = omega (arith, short) in
    ap (λ n. keep_last 8 (drop n xs ++ a ∷ [])) none

keep_more : {X : Type 0} (xs : List X) (a : X) → keep_last 8 (keep_last 8 xs ++ a ∷ []) ≡ keep_last 8 (xs ++ a ∷ [])
keep_more xs a = ⊎_elim (λ low. let short : length xs ≤ 8 = omega arith in keep_short xs a short) (keep_long xs a) (cases_lt (length xs) 8)

keep_map : {X Y : Type 0} (f : X → Y) (n : ℕ) (xs : List X) → map f (keep_last n xs) ≡ keep_last n (map f xs)
keep_map f n xs = sym (drop-map f (length xs - n) xs) ∙ ap (λ k. drop (k - n) (map f xs)) (sym (length-map xs f))

-- a delivery is the last one
pub noted_last : (old new : List Told) (t : Told) (a : Place) (done : List Place) → new ≡ keep_last 8 (old ++ t ∷ []) → told t ≡ counted a → map told old ≡ map counted (keep_last 8 done)
    → map told new ≡ map counted (keep_last 8 (done ++ a ∷ []))
noted_last old new t a done is same h =
    ap (map told) is ∙ keep_map told 8 (old ++ t ∷ []) ∙ ap (keep_last 8) (map-append told old (t ∷ []) ∙ ap₂ (λ xs y. xs ++ y ∷ []) h same ∙ sym (map-append counted (keep_last 8 done) (a ∷ [])))
    ∙ sym (keep_map counted 8 (keep_last 8 done ++ a ∷ [])) ∙ ap (map counted) (keep_more done a)

-- ---- a delivery

-- no place is too great to be counted from 1
pub all_few : (m : Mail) (sent : List Sent) (done : List Place) → IsMail m sent done → length sent ≤ 4294967295
all_few m sent done h =
    let size : length m.order.items ≡ length sent = sym (length-map m.order.items place_of) ∙ ap length h.kept.order_is ∙ length-placed [] sent in
    omega (arith, size, m.few)

pub place_low : (m : Mail) (sent : List Sent) (done : List Place) (p q : Who) (k : ℕ) (x : Sent) → IsMail m sent done → Some x ≡ slice_get (between p q sent) k → min (k + 1) 4294967295 ≡ k + 1
place_low m sent done p q k x h is =
    let within = slice_get_within (between p q sent) k x (sym is) in
    let short = filter-short (λ (x : Sent). same_party x.from p && same_party x.to q) sent in
    let few = all_few m sent done h in
    omega (arith, within, short, few)

-- the told message of a place is that place, counted from 1
pub told_place : (n : Note) (k : ℕ) (t : Told) → t ≡ (n.from, n.to, k) → k ≡ n.place + 1 → told t ≡ counted (place_of n)
told_place n k t is next = ap told is ∙ ap (λ k. (who n.from, who n.to, k)) next

-- a message was taken out, and is the last one
pub marked_world : {N : Type 0} (stands : Standing N) (g : Ring) (w : World N) (v : Model) (done : List Place) (a : Place) (t : Told) (mail : Mail) (recent : Buffer Told)
    → IsMail mail v.sent (done ++ a ∷ []) → recent ≡ buffer (keep_last w.recent.capacity (w.recent.items ++ t ∷ [])) w.recent.capacity → told t ≡ counted a → IsWorld stands g w v done
    → IsWorld stands g (record w { mail = mail; recent = recent }) v (done ++ a ∷ [])
marked_world stands g w v done a t mail recent posted is same h =
    record {
      small = h.small;
      mail_is = posted;
      members_are = h.members_are;
      client_count = h.client_count;
      clients_stand = h.clients_stand;
      recent_is = noted_last w.recent.items recent.items t a done (ap (λ (b : Buffer Told). b.items) is ∙ ap (λ k. keep_last k (w.recent.items ++ t ∷ [])) h.eight) same h.recent_is;
      eight = ap (λ (b : Buffer Told). b.capacity) is ∙ h.eight;
      going = h.going;
    }

-- only the mail changed
pub same_mail : {N : Type 0} (stands : Standing N) (g : Ring) (w : World N) (v : Model) (done : List Place) (mail : Mail) → IsMail mail v.sent done → IsWorld stands g w v done
    → IsWorld stands g (record w { mail = mail }) v done
same_mail stands g w v done mail posted h =
    record {
      small = h.small;
      mail_is = posted;
      members_are = h.members_are;
      client_count = h.client_count;
      clients_stand = h.clients_stand;
      recent_is = h.recent_is;
      eight = h.eight;
      going = h.going;
    }

abbrev pub at_place : Who → Who → ℕ → Place
at_place p q k = record { from = p; to = q; place = k }

-- where the link has a message there
pub delivered_some : {N : Type 0} (stands : Standing N) (g : Ring) (new : World N) (v : Model) (done : List Place) (p q : Who) (k : ℕ) (x : Sent)
    → Some x ≡ slice_get (between p q v.sent) k → IsWorld stands g new (came g v (Some x)) (done ++ at_place p q k ∷ [])
    → IsWorld stands g new (came g v (slice_get (between p q v.sent) k)) (done ++ delivery v.sent (at_place p q k))
delivered_some stands g new v done p q k x is h =
    subst (λ o. IsWorld stands g new (came g v o) (done ++ delivery v.sent (at_place p q k))) is
    (subst (λ ds. IsWorld stands g new (came g v (Some x)) (done ++ ds)) (sym (delivery_there v.sent (at_place p q k) x (sym is))) h)

-- where it has none
pub delivered_none : {N : Type 0} (stands : Standing N) (g : Ring) (w : World N) (v : Model) (done : List Place) (mail : Mail) (p q : Who) (k : ℕ)
    → None ≡ slice_get (between p q v.sent) k → IsMail mail v.sent (done ++ delivery v.sent (at_place p q k)) → IsWorld stands g w v done
    → IsWorld stands g (record w { mail = mail }) (came g v (slice_get (between p q v.sent) k)) (done ++ delivery v.sent (at_place p q k))
delivered_none {N} stands g w v done mail p q k is posted h =
    subst (λ o. IsWorld stands g new (came g v o) (done ++ delivery v.sent (at_place p q k))) is
    (subst (IsWorld stands g new v) (sym same) (same_mail stands g w v done mail (subst (IsMail mail v.sent) same posted) h))
  where
    new : World N
    new = record w { mail = mail }

    same : done ++ delivery v.sent (at_place p q k) ≡ done
    same = ap (λ ds. done ++ ds) (delivery_none v.sent (at_place p q k) (sym is)) ∙ append-nil done

pub posted_there : (m : Mail) (sent : List Sent) (done : List Place) (p q : Who) (k : ℕ) (x : Sent) → Some x ≡ slice_get (between p q sent) k → IsMail m sent (done ++ delivery sent (at_place p q k)) → IsMail m sent (done ++ at_place p q k ∷ [])
posted_there m sent done p q k x is h = subst (λ ds. IsMail m sent (done ++ ds)) (delivery_there sent (at_place p q k) x (sym is)) h

-- place 0 has no message
nothing_behind : (sent : List Sent) (p q : Who) → slice_get (between p q sent) (length sent) ≡ None
nothing_behind sent p q =
    let short = filter-short (λ (x : Sent). same_party x.from p && same_party x.to q) sent in
    slice_get_past (between p q sent) (length sent) short

pub nothing_there : (sent : List Sent) (p q : Who) (k : ℕ) → k ≡ 0 → slice_get (between p q sent) (place_in sent k) ≡ None
nothing_there sent p q k none = ap (λ n. slice_get (between p q sent) (place_in sent n)) none ∙ nothing_behind sent p q

-- another place is one less
pub place_less : (sent : List Sent) (k : ℕ) → (k ≡ 0 → ⊥) → place_in sent k ≡ k - 1
place_less sent zero some = absurd (some refl)
place_less sent (suc k) some = let less : k ≡ suc k - 1 = omega arith in less

-- a delivery of place 0 changes nothing
pub delivered_nothing : {N : Type 0} (stands : Standing N) (g : Ring) (w : World N) (v : Model) (done : List Place) (p q : Who) (k : ℕ) → k ≡ 0 → IsWorld stands g w v done
    → IsWorld stands g w (came g v (slice_get (between p q v.sent) (place_in v.sent k))) (done ++ delivery v.sent (at_place p q (place_in v.sent k)))
delivered_nothing stands g w v done p q k none h =
    subst (λ o. IsWorld stands g w (came g v o) (done ++ delivery v.sent (at_place p q (place_in v.sent k)))) (sym gone)
    (subst (IsWorld stands g w v) (sym same) h)
  where
    gone : slice_get (between p q v.sent) (place_in v.sent k) ≡ None
    gone = nothing_there v.sent p q k none

    same : done ++ delivery v.sent (at_place p q (place_in v.sent k)) ≡ done
    same = ap (λ ds. done ++ ds) (delivery_none v.sent (at_place p q (place_in v.sent k)) gone) ∙ append-nil done

-- ---- parties and seats

pub party_seat : (g : Ring) (p : Who) → IsSmall g → IsParty g p → IsSeat p
party_seat g (member i) small h = omega (arith, small.few, h)
party_seat g (client c) small h = omega (arith, small.few_clients, h)

-- a party of the world has a seat
pub declared_seat : {N : Type 0} (w : World N) (p : Who) → IsDeclared w p → IsSeat p
declared_seat w (member i) d = d.0
declared_seat w (client c) d = d.0
