-- Where nothing is pending, all was delivered.
use Rattle.std.proofs.Common.{◌≡◌, ℕ, zero, suc, Bool, true, false, cond, not, ◌&&◌, ◌||◌, ◌==◌, List, [], ◌∷◌, ◌++◌, find, slice_get, Option, Some, None, Contains, refl, sym, ap, ◌∙◌, subst, append-nil}
use Rattle.std.specs.List.{AllByRecursion as Each}
use Rattle.std.proofs.lemmas.Bool.{eqb-true, and_parts, or_from}
use Rattle.std.proofs.lemmas.List.Elements.{filter-append}
use Rattle.ring_model.specs.Messages.{Ring, Letter, Party as Who, Packet as Sent, Mark, Member as member, same_party}
use Rattle.ring_model.specs.Member.{executed}
use Rattle.ring_model.specs.World.{World as Model, Event, Submit, Resubmit, Deliver, Forge, Archive, between, came, turned, happens, world}
use Rattle.ring_model.specs.Laws.{IsHonest, AllDelivered}
use Rattle.ring_model.proofs.History.{same_some, Each-weaker, Each-append, Each-at}
use Rattle.ring_model.proofs.Lists.{there_first, there_later}
use Rattle.ring_model.specs.Places.{Place, placed, places, is_done, same_place, delivery, is_due}
use Rattle.ring_mail.proofs.Keeping.{same_party-true, delivery_there, delivery_none}
use Rattle.ring_mail.specs.Skips.{Skips, is_skipped}
use Rattle.ring_world.specs.Skipping.{PassNothing}
use Rattle.ring_model.specs.Deliveries.{deliveries, delivered_by, pending}
use Rattle.ring_mail.proofs.Waiting.{place_leads}

abbrev letter : Sent → Letter
letter x = record { from = x.from; message = x.message }

-- the place has a message, which its receiver was given
abbrev IsGiven : Model → Place → Type 0
IsGiven v a = (x : Sent) × (slice_get (between a.from a.to v.sent) a.place ≡ Some x) × Contains (v.got a.to) (letter x)

front_at : {X : Type 0} (xs ys : List X) (k : ℕ) (x : X) → slice_get xs k ≡ Some x → slice_get (xs ++ ys) k ≡ Some x
front_at [] ys k x e = absurd (cc e)
front_at (z ∷ xs) ys zero x e = e
front_at (z ∷ xs) ys (suc k) x e = front_at xs ys k x e

-- more was sent and more was given
record Grows (v w : Model) : Type 0 where
  more : List Sent
  sent : w.sent ≡ v.sent ++ more
  got : (p : Who) (l : Letter) → Contains (v.got p) l → Contains (w.got p) l

given_grows : (v w : Model) → Grows v w → (a : Place) → IsGiven v a → IsGiven w a
given_grows v w g a h = (
  h.0,
  ap (λ xs. slice_get (between a.from a.to xs) a.place) g.sent ∙ ap (λ xs. slice_get xs a.place) (filter-append (λ x. same_party x.from a.from && same_party x.to a.to) v.sent g.more)
      ∙ front_at (between a.from a.to v.sent) (between a.from a.to g.more) a.place h.0 h.1,
  g.got a.to (letter h.0) h.2,
)

came_grows : (g : Ring) (v : Model) (o : Option Sent) → Grows v (came g v o)
came_grows g v None = record { more = []; sent = sym (append-nil v.sent); got = λ p l c. c }
came_grows g v (Some x) =
    record {
      more = _;
      sent = refl;
      got = λ p l c.
          elim (same_party x.to p) as (λ b. Contains (cond b (letter x ∷ v.got p) (v.got p)) l) [
            | true ↦ there_later (letter x) (v.got p) l c
            | false ↦ c
          ];
    }

turned_grows : (g : Ring) (v : Model) (i : ℕ) (o : Option Mark) → Grows v (turned g v i o)
turned_grows g v i None = record { more = []; sent = sym (append-nil v.sent); got = λ p l c. c }
turned_grows g v i (Some m) = record { more = _; sent = refl; got = λ p l c. c }

happens_grows : (g : Ring) (v : Model) (e : Event) → Grows v (happens g v e)
happens_grows g v (Submit r) = record { more = _; sent = refl; got = λ p l c. c }
happens_grows g v (Resubmit c n) = record { more = _; sent = refl; got = λ p l c. c }
happens_grows g v (Deliver p q k) = came_grows g v (slice_get (between p q v.sent) k)
happens_grows g v (Forge i q m) = record { more = _; sent = refl; got = λ p l c. c }
happens_grows g v (Archive i) = turned_grows g v i (slice_get (g.seals (executed g (v.got (member i)))) (v.archived i))

-- a delivery gives the message
given_now : (g : Ring) (v : Model) (a : Place) (o : Option Sent) → slice_get (between a.from a.to v.sent) a.place ≡ o → Each (IsGiven (came g v o)) (delivery v.sent a)
unfolding came_grows
given_now g v a None e = subst (Each (IsGiven v)) (sym (delivery_none v.sent a e)) tt
given_now g v a (Some x) e =
    subst (Each (IsGiven (came g v (Some x)))) (sym (delivery_there v.sent a x e)) (
      (
        x,
        ap (λ xs. slice_get xs a.place) (filter-append (λ x. same_party x.from a.from && same_party x.to a.to) v.sent (came_grows g v (Some x)).more)
            ∙ front_at (between a.from a.to v.sent) (between a.from a.to (came_grows g v (Some x)).more) a.place x e,
        subst (λ b. Contains (cond b (letter x ∷ v.got a.to) (v.got a.to)) (letter x)) (sym to) (there_first (letter x) (v.got a.to)),
      ),
      tt,
    )
  where
    both : (xs : List Sent) → Each (λ y. same_party y.to a.to ≡ true) (between a.from a.to xs)
    both [] = tt
    both (y ∷ xs) =
        elim (same_party y.from a.from && same_party y.to a.to) as (λ b. (same_party y.from a.from && same_party y.to a.to) ≡ b → Each (λ y. same_party y.to a.to ≡ true) (cond b (y ∷ between a.from a.to xs) (between a.from a.to xs))) [
          | true ↦ λ t. ((and_parts (same_party y.from a.from) (same_party y.to a.to) t).1, both xs)
          | false ↦ λ t. both xs
        ] refl

    to : same_party x.to a.to ≡ true
    to = Each-at (λ (y : Sent). same_party y.to a.to ≡ true) (between a.from a.to v.sent) a.place x (both v.sent) e

given_by : (g : Ring) (v : Model) (e : Event) → Each (IsGiven (happens g v e)) (delivered_by v.sent e)
given_by g v (Submit r) = tt
given_by g v (Resubmit c n) = tt
given_by g v (Deliver p q k) = given_now g v (record { from = p; to = q; place = k }) (slice_get (between p q v.sent) k) refl
given_by g v (Forge i q m) = tt
given_by g v (Archive i) = tt

pub all_given : (g : Ring) (events : List Event) → Each (IsGiven (world g events)) (deliveries g events)
all_given g [] = tt
all_given g (e ∷ events) =
    Each-append (IsGiven (world g (e ∷ events))) (deliveries g events) (delivered_by (world g events).sent e)
    (Each-weaker (IsGiven (world g events)) (IsGiven (world g (e ∷ events))) (given_grows (world g events) (world g (e ∷ events)) (happens_grows g (world g events) e)) (deliveries g events) (all_given g events))
    (given_by g (world g events) e)

-- ---- nothing is pending

found_none : {X : Type 0} (t : X → Bool) (xs : List X) (i : ℕ) (x : X) → find t xs ≡ None → slice_get xs i ≡ Some x → t x ≡ false
found_none t [] i x n e = absurd (cc e)
found_none t (z ∷ xs) zero x n e =
    elim (t z) as (λ b. t z ≡ b → cond b (Some z) (find t xs) ≡ None → t x ≡ false) [
      | true ↦ λ _ f. absurd (cc f)
      | false ↦ λ b _. ap t (sym (same_some z x e)) ∙ b
    ] refl n
found_none t (z ∷ xs) (suc i) x n e =
    elim (t z) as (λ b. t z ≡ b → cond b (Some z) (find t xs) ≡ None → t x ≡ false) [
      | true ↦ λ _ f. absurd (cc f)
      | false ↦ λ _ f. found_none t xs i x f e
    ] refl n

each_from : {X : Type 0} (P : X → Type 0) (xs : List X) → ((i : ℕ) (x : X) → slice_get xs i ≡ Some x → P x) → Each P xs
each_from P [] f = tt
each_from P (x ∷ xs) f = (f 0 x refl, each_from P xs (λ i y e. f (suc i) y e))

place_at : (before xs : List Sent) (i : ℕ) (x : Sent) → slice_get xs i ≡ Some x → (a : Place) × (slice_get (placed before xs) i ≡ Some a)
place_at before [] i x e = absurd (cc e)
place_at before (y ∷ xs) zero x e = (_, refl)
place_at before (y ∷ xs) (suc i) x e = place_at (before ++ y ∷ []) xs i x e

due_false : (b s : Bool) → s ≡ false → (not b && not s) ≡ false → b ≡ true
due_false true s f e = refl
due_false false true f e = absurd (cc f)
due_false false false f e = absurd (cc e)

any_given : (v : Model) (done : List Place) (a : Place) → Each (IsGiven v) done → is_done done a ≡ true → IsGiven v a
any_given v [] a h e = absurd (cc e)
any_given v (b ∷ done) a h e =
    elim (same_place b a) as (λ t. same_place b a ≡ t → (t || is_done done a) ≡ true → IsGiven v a) [
      | true ↦ λ t _.
          let outer = and_parts (same_party b.from a.from && same_party b.to a.to) (b.place == a.place) t in
          let inner = and_parts (same_party b.from a.from) (same_party b.to a.to) outer.0 in
          let from = same_party-true b.from a.from inner.0 in
          let to = same_party-true b.to a.to inner.1 in
          let place = eqb-true b.place a.place outer.1 in
          subst (λ k. IsGiven v (record { from = a.from; to = a.to; place = k })) place
          (subst (λ q. IsGiven v (record { from = a.from; to = q; place = b.place })) to (subst (λ p. IsGiven v (record { from = p; to = b.to; place = b.place })) from h.0))
      | false ↦ λ _ f. any_given v done a h.1 f
    ] refl e

pub all_delivered : (g : Ring) (skipped : Place → Bool) (events : List Event) → ((a : Place) → skipped a ≡ false) → pending g skipped events ≡ None → AllDelivered g (world g events)
all_delivered g skipped events none all =
    each_from (λ x. IsHonest g x.from → IsHonest g x.to → Contains ((world g events).got x.to) (letter x)) (world g events).sent (λ i x e _ _. given i x e)
  where
    given : (i : ℕ) (x : Sent) → slice_get (world g events).sent i ≡ Some x → Contains ((world g events).got x.to) (letter x)
    given i x e =
        let a = place_at [] (world g events).sent i x e in
        let leads = place_leads [] (world g events).sent i a.0 a.1 in
        let done = due_false (is_done (deliveries g events) a.0) (skipped a.0) (none a.0) (found_none (is_due skipped (deliveries g events)) (places (world g events).sent) i a.0 all a.1) in
        let there = any_given (world g events) (deliveries g events) a.0 (all_given g events) done in
        let same : leads.0 ≡ x = same_some leads.0 x (sym leads.1 ∙ e) in
        let second : there.0 ≡ x = same_some there.0 x (sym there.1 ∙ leads.4 ∙ ap Some same) in
        subst (λ (y : Sent). Contains ((world g events).got x.to) (letter y)) second
        (subst (λ p. Contains ((world g events).got p) (letter there.0)) (sym leads.3 ∙ ap (λ (y : Sent). y.to) same) there.2)

pub none_skipped : (s : Skips) → PassNothing s → (a : Place) → is_skipped s a ≡ false
none_skipped s none a = or_from (s.muted a.from || s.muted a.to) (s.lost a) (or_from (s.muted a.from) (s.muted a.to) (none.0 a.from) (none.0 a.to)) (none.1 a)
