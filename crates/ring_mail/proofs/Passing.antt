-- What is passed over, and the next message that is due.
use Rattle.std.proofs.Common.{◌≡◌, ℕ, ◌/◌, ◌%◌, ◌<◌, ◌≤◌, Bool, true, false, cond, not, ◌&&◌, ◌||◌, ◌==◌, List, [], length, set, slice_get, get_or, find, Some, None, ⊎_elim, refl, sym, ap, ap₂, ◌∙◌, subst, arith}
use Rattle.std.specs.Ordering.{nat_cmp, is_eq}
use Rattle.std.specs.BTreeMap.{is_at}
use Rattle.std.specs.BTreeSet.{BTreeSet, contains}
use Rattle.std.proofs.lemmas.Bool.{eqb-true, eq-eqb, ne_eqb, and_from, and_parts, cases_eq, cases_Bool, false_from_ne_true, lt-ltb, ltb-true, not-true}
use Rattle.std.proofs.lemmas.Bool.Decides.{nat_tests}
use Rattle.std.proofs.lemmas.Option.{slice_get_read}
use Rattle.ring_model.specs.Messages.{Party as Who, Member as member, Client as client, Packet as Sent, same_party}
use Rattle.ring_model.proofs.History.{Each-at}
use Rattle.ring_mail.specs.declared.kept.Mail.{Mail}
use Rattle.ring_model.specs.Seats.{IsSeat, is_seat}
use Rattle.ring_mail.specs.Places.{seat, link_of}
use Rattle.ring_model.specs.Places.{Place, places, is_done, is_due, same_place}
use Rattle.ring_mail.specs.Mails.{is_open, IsMail}
use Rattle.ring_mail.specs.Queues.{has, waits, is_quiet}
use Rattle.ring_mail.specs.Skips.{skips, is_skipped, has_muted, has_lost}
use Rattle.ring_mail.proofs.Keeping.{same_party-refl, same_party-true, seat-injective, seat-low, link-injective, link-low, placed_seats}
use Rattle.ring_mail.proofs.Queueing.{slice_set_same, slice_set_other}
use Rattle.ring_mail.proofs.Waiting.{find_least, find_no}

-- ---- seats

pub seat_yes : (p : Who) → IsSeat p → is_seat p ≡ true
seat_yes (member i) a = lt-ltb i 10 a
seat_yes (client c) a = lt-ltb c 16 a

seat_from : (p : Who) → is_seat p ≡ true → IsSeat p
seat_from (member i) t = ltb-true i 10 t
seat_from (client c) t = ltb-true c 16 t

-- one without a seat is not one with a seat
other_seat : (p q : Who) → IsSeat p → is_seat q ≡ false → same_party p q ≡ false
other_seat p q a none = false_from_ne_true (same_party p q) (λ t. absurd (cc (ap is_seat (same_party-true p q t), seat_yes p a, none)))

-- ---- muted parties

same_seat : (p q : Who) → IsSeat p → IsSeat q → (seat q == seat p) ≡ same_party p q
same_seat p q a b =
    ⊎_elim (λ e. let same : p ≡ q = seat-injective p q a b (sym e) in eq-eqb (seat q) (seat p) e ∙ sym (subst (λ x. same_party p x ≡ true) same (same_party-refl p)))
    (λ apart. ne_eqb (seat q) (seat p) apart ∙ sym (false_from_ne_true (same_party p q) (λ t. apart (ap seat (sym (same_party-true p q t)))))) (cases_eq (seat q) (seat p))

pub muted_more : (old new : List Bool) (p : Who) (on : Bool) → IsSeat p → ((s : ℕ) → get_or new s false ≡ cond (s == seat p) on (get_or old s false))
    → (q : Who) → has_muted new q ≡ cond (same_party p q) on (has_muted old q)
muted_more old new p on a is q =
    ⊎_elim
    (λ yes_.
    ap (λ b. b && get_or new (seat q) false) yes_ ∙ is (seat q) ∙ ap (λ b. cond b on (get_or old (seat q) false)) (same_seat p q a (seat_from q yes_))
    ∙ ap (λ b. cond (same_party p q) on (b && get_or old (seat q) false)) (sym yes_))
    (λ none.
    ap (λ b. b && get_or new (seat q) false) none ∙ sym (ap₂ (λ b c. cond b on (c && get_or old (seat q) false)) (other_seat p q a none) none))
    (cases_Bool (is_seat q))

pub quiet_is : (muted : List Bool) (p q : Who) → IsSeat p → IsSeat q → is_quiet muted (link_of p q) ≡ (has_muted muted p || has_muted muted q)
quiet_is muted p q a b =
    let low : seat q < 26 = seat-low q b in
    let first : link_of p q / 26 ≡ seat p = omega arith in
    let last : link_of p q % 26 ≡ seat q = omega arith in
    ap₂ (λ m n. get_or muted m false || get_or muted n false) first last
    ∙ ap₂ (λ x y. (x && get_or muted (seat p) false) || (y && get_or muted (seat q) false)) (sym (seat_yes p a)) (sym (seat_yes q b))

-- ---- lost messages

tie : (s k : ℕ) → is_eq (nat_cmp s k) ≡ (s == k)
tie s k = grind (arith, nat_tests)

either : (t c : Bool) → cond t true c ≡ (c || t)
either true true = refl
either true false = refl
either false true = refl
either false false = refl

or_no : (b : Bool) → (b || false) ≡ b
or_no true = refl
or_no false = refl

pub lost_more : (lost : List (BTreeSet ℕ)) (one new : BTreeSet ℕ) (link place : ℕ) (p q : Who) → IsSeat p → IsSeat q → link ≡ link_of p q → length lost ≡ 676 → one ≡ get_or lost link one
    → ((k : ℕ) → contains nat_cmp new k ≡ cond (is_at (nat_cmp place) k) true (contains nat_cmp one k))
    → (a : Place) → has_lost (set lost link new) a ≡ (has_lost lost a || same_place (record { from = p; to = q; place = place }) a)
lost_more lost one new link place p q s t at size is more a = ⊎_elim (λ f. ⊎_elim (seated f) no_to (cases_Bool (is_seat a.to))) no_from (cases_Bool (is_seat a.from))
  where
    b : Place
    b = record { from = p; to = q; place = place }

    low : link < 676
    low = let l : link_of p q < 676 = link-low p q s t in omega (arith, at, l)

    no_from : is_seat a.from ≡ false → has_lost (set lost link new) a ≡ (has_lost lost a || same_place b a)
    no_from none =
        ap (λ x. (x && is_seat a.to) && has (slice_get (set lost link new) (link_of a.from a.to)) a.place) none
        ∙ sym (ap₂ (λ x y. ((x && is_seat a.to) && has (slice_get lost (link_of a.from a.to)) a.place) || ((y && same_party q a.to) && place == a.place)) none (other_seat p a.from s none))

    nothing : (x y z : Bool) → ((x && false) && y) ≡ (((x && false) && z) || false)
    nothing true y z = refl
    nothing false y z = refl

    and_no : (x y : Bool) → ((x && false) && y) ≡ false
    and_no true y = refl
    and_no false y = refl

    no_to : is_seat a.to ≡ false → has_lost (set lost link new) a ≡ (has_lost lost a || same_place b a)
    no_to none =
        ap (λ x. (is_seat a.from && x) && has (slice_get (set lost link new) (link_of a.from a.to)) a.place) none
        ∙ nothing (is_seat a.from) (has (slice_get (set lost link new) (link_of a.from a.to)) a.place) (has (slice_get lost (link_of a.from a.to)) a.place)
        ∙ sym (ap₂ (λ x y. ((is_seat a.from && x) && has (slice_get lost (link_of a.from a.to)) a.place) || ((same_party p a.from && y) && place == a.place)) none (other_seat q a.to t none)
        ∙ ap (λ x. ((is_seat a.from && false) && has (slice_get lost (link_of a.from a.to)) a.place) || x) (and_no (same_party p a.from) (place == a.place)))

    both : is_seat a.from ≡ true → is_seat a.to ≡ true → (xs : List (BTreeSet ℕ)) → has_lost xs a ≡ has (slice_get xs (link_of a.from a.to)) a.place
    both f g xs = ap₂ (λ x y. (x && y) && has (slice_get xs (link_of a.from a.to)) a.place) f g

    seated : is_seat a.from ≡ true → is_seat a.to ≡ true → has_lost (set lost link new) a ≡ (has_lost lost a || same_place b a)
    seated f g = ⊎_elim here elsewhere (cases_eq (link_of a.from a.to) link)
      where
        here : link_of a.from a.to ≡ link → has_lost (set lost link new) a ≡ (has_lost lost a || same_place b a)
        here e =
            let ends = link-injective p q a.from a.to s t (seat_from a.from f) (seat_from a.to g) (sym (e ∙ at)) in
            both f g (set lost link new) ∙ ap (λ l. has (slice_get (set lost link new) l) a.place) e ∙ ap (λ o. has o a.place) (slice_set_same lost link new (omega (arith, size, low)))
            ∙ more a.place ∙ either (is_at (nat_cmp place) a.place) (contains nat_cmp one a.place)
            ∙ ap₂ (λ x y. x || y)
            (ap (λ o. has o a.place) (sym (slice_get_read lost 676 link one (sym size) low is)) ∙ ap (λ l. has (slice_get lost l) a.place) (sym e) ∙ sym (both f g lost))
            (tie place a.place ∙ ap (λ x. x && place == a.place) (sym (and_from (same_party p a.from) (same_party q a.to) (subst (λ x. same_party p x ≡ true) ends.0 (same_party-refl p)) (subst (λ x. same_party q x ≡ true) ends.1 (same_party-refl q)))))

        elsewhere : (link_of a.from a.to ≡ link → ⊥) → has_lost (set lost link new) a ≡ (has_lost lost a || same_place b a)
        elsewhere apart =
            both f g (set lost link new) ∙ ap (λ o. has o a.place) (slice_set_other lost link (link_of a.from a.to) new apart) ∙ sym (both f g lost)
            ∙ sym (ap (λ x. has_lost lost a || x) (ap (λ x. x && place == a.place) (false_from_ne_true (same_party p a.from && same_party q a.to)
            (λ t.
            let ends = and_parts (same_party p a.from) (same_party q a.to) t in
            apart (sym (at ∙ ap₂ link_of (same_party-true p a.from ends.0) (same_party-true q a.to ends.1)))))) ∙ or_no (has_lost lost a))

-- ---- the next message

due_tests : (d m n l : Bool) → (not d && not ((m || n) || l)) ≡ (not (m || n) && not (d || l))
due_tests true true n l = refl
due_tests true false true l = refl
due_tests true false false l = refl
due_tests false true n l = refl
due_tests false false true l = refl
due_tests false false false l = refl

due_is : (m : Mail) (done : List Place) (a : Place) → IsSeat a.from → IsSeat a.to
    → is_due (is_skipped (skips m)) done a ≡ (not (is_quiet m.queue.muted.items (link_of a.from a.to)) && not (is_done done a || has_lost m.lost.items a))
due_is m done a s t =
    due_tests (is_done done a) (has_muted m.queue.muted.items a.from) (has_muted m.queue.muted.items a.to) (has_lost m.lost.items a)
    ∙ ap (λ q. not q && not (is_done done a || has_lost m.lost.items a)) (sym (quiet_is m.queue.muted.items a.from a.to s t))

-- one that is due waits on a link that is not muted
due_waits : (m : Mail) (sent : List Sent) (done : List Place) (n : ℕ) (a : Place) → IsMail m sent done → slice_get (places sent) n ≡ Some a → is_due (is_skipped (skips m)) done a ≡ true
    → (link : ℕ) × (link < 676) × (is_quiet m.queue.muted.items link ≡ false) × (waits m.queue.waiting.items link n ≡ true)
due_waits m sent done n a h e t =
    let seats = Each-at (λ (a : Place). IsSeat a.from × IsSeat a.to) (places sent) n a (placed_seats [] sent h.kept.seats) e in
    let parts = and_parts (not (is_quiet m.queue.muted.items (link_of a.from a.to))) (not (is_done done a || has_lost m.lost.items a)) (sym (due_is m done a seats.0 seats.1) ∙ t) in (
      link_of a.from a.to,
      link-low a.from a.to seats.0 seats.1,
      not-true (is_quiet m.queue.muted.items (link_of a.from a.to)) parts.0,
      h.waiting (link_of a.from a.to) n ∙ ap (is_open (λ a. is_done done a || has_lost m.lost.items a) (link_of a.from a.to)) e
          ∙ and_from (link_of a.from a.to == link_of a.from a.to) (not (is_done done a || has_lost m.lost.items a)) (eq-eqb (link_of a.from a.to) (link_of a.from a.to) refl) parts.1,
    )

-- the least that waits is the first that is due
pub next_found : (m : Mail) (sent : List Sent) (done : List Place) (n link : ℕ) → IsMail m sent done → is_quiet m.queue.muted.items link ≡ false → waits m.queue.waiting.items link n ≡ true
    → ((l other : ℕ) → l < 676 → is_quiet m.queue.muted.items l ≡ false → waits m.queue.waiting.items l other ≡ true → n ≤ other)
    → find (is_due (is_skipped (skips m)) done) (places sent) ≡ slice_get (places sent) n
next_found m sent done n link h loud there least =
    elim (slice_get (places sent) n) as (λ o. slice_get (places sent) n ≡ o → find (is_due (is_skipped (skips m)) done) (places sent) ≡ o) [
      | None ↦ λ e. absurd (cc (there, h.waiting link n ∙ ap (is_open (λ a. is_done done a || has_lost m.lost.items a) link) e))
      | Some a ↦ λ e. find_least (is_due (is_skipped (skips m)) done) (places sent) n a e (due a e) before
    ] refl
  where
    due : (a : Place) → slice_get (places sent) n ≡ Some a → is_due (is_skipped (skips m)) done a ≡ true
    due a e =
        let seats = Each-at (λ (a : Place). IsSeat a.from × IsSeat a.to) (places sent) n a (placed_seats [] sent h.kept.seats) e in
        let parts = and_parts (link_of a.from a.to == link) (not (is_done done a || has_lost m.lost.items a)) (ap (is_open (λ a. is_done done a || has_lost m.lost.items a) link) (sym e) ∙ sym (h.waiting link n) ∙ there) in
        let at : link_of a.from a.to ≡ link = eqb-true (link_of a.from a.to) link parts.0 in
        due_is m done a seats.0 seats.1
        ∙ and_from (not (is_quiet m.queue.muted.items (link_of a.from a.to))) (not (is_done done a || has_lost m.lost.items a)) (ap not (ap (is_quiet m.queue.muted.items) at ∙ loud)) parts.1

    before : (k : ℕ) (y : Place) → k < n → slice_get (places sent) k ≡ Some y → is_due (is_skipped (skips m)) done y ≡ false
    before k y low e =
        false_from_ne_true (is_due (is_skipped (skips m)) done y)
        (λ t.
        let w = due_waits m sent done k y h e t in
        let high = least w.0 k w.1 w.2 w.3 in
        absurd (omega (arith, high, low)))

pub next_none : (m : Mail) (sent : List Sent) (done : List Place) → IsMail m sent done
    → ((l other : ℕ) → l < 676 → is_quiet m.queue.muted.items l ≡ false → waits m.queue.waiting.items l other ≡ false)
    → find (is_due (is_skipped (skips m)) done) (places sent) ≡ None
next_none m sent done h none =
    find_no (is_due (is_skipped (skips m)) done) (places sent)
    (λ k y e. false_from_ne_true (is_due (is_skipped (skips m)) done y)
    (λ t.
    let w = due_waits m sent done k y h e t in
    absurd (cc (w.3, none w.0 k w.1 w.2))))
