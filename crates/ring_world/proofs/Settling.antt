-- Deliveries one after another.
use Rattle.std.proofs.Common.{◌≡◌, ℕ, zero, suc, ◌+◌, ◌<◌, ◌≤◌, ◌^◌, Bool, true, false, cond, not, ◌&&◌, ◌||◌, List, [], ◌∷◌, ◌++◌, length, take, find, slice_get, Option, Some, None, ⊎_elim, refl, sym, ap, ◌∙◌, subst, arith, append-nil}
use Rattle.std.specs.List.{AllByRecursion as Each}
use Rattle.std.proofs.lemmas.Bool.{or_right, cases_lt}
use Rattle.std.proofs.lemmas.List.Folds.{list_any-append}
use Rattle.ring_model.specs.Messages.{Ring, Packet as Sent}
use Rattle.ring_model.specs.World.{World as Model, Event, Deliver, between, came, world, IsParty, IsLegal}
use Rattle.ring_model.proofs.History.{same_some, Each-at}
use Rattle.ring_model.proofs.Declared.{sent_declared}
use Rattle.ring_model.specs.Places.{Place, placed, places, is_done, is_due, same_place, delivery}
use Rattle.ring_mail.specs.Places.{place_of}
use Rattle.std.proofs.lemmas.List.{length-map}
use Rattle.block_names.specs.Held.{Held}
use Rattle.block_names.specs.Growth.{Holds, keep_all, Grew, IsClashIn}
use Rattle.block_names.specs.Clashes.{AreHeld, NoneClash}
use Rattle.block_names.specs.declared.fault.NameFault.{NameFault}
use Rattle.block_names.proofs.Grown.{grew_none, grew_then, clash_wider, keep_append}
use Rattle.block_names.proofs.Clashed.{held_none, held_then, none_clash}
use Rattle.std.proofs.lemmas.List.Elements.{All-contains, Contains-append_left, Contains-append_right}
use Rattle.std.specs.Prelude.{Contains}
use Rattle.ring_mail.specs.declared.kept.Mail.{Mail}
use Rattle.ring_mail.specs.Mails.{IsMail}
use Rattle.ring_mail.proofs.Keeping.{placed-append, delivery_there, take_front}
use Rattle.ring_mail.proofs.Waiting.{place_leads, same_place-refl}
use Rattle.ring_world.specs.declared.state.World.{World}
use Rattle.ring_model.specs.Deliveries.{deliveries, pending, then_deliver, settled}
use Rattle.message_model.specs.Naming.{named_by, named_along, IsNamedIn}
use Rattle.ring_world.specs.Standing.{Standing}
use Rattle.ring_world.specs.Worlds.{IsWorld, WorldStands}
use Rattle.ring_world.specs.Settles.{SweptBy, Swept, Settles, HoldsMore}

-- ---- lists

pub find_nothing : {X : Type 0} (t : X → Bool) (xs : List X) (i : ℕ) → length xs ≤ i → Each (λ y. t y ≡ false) (take i xs) → find t xs ≡ None
find_nothing t [] i low h = refl
find_nothing t (z ∷ xs) zero low h = absurd (omega arith)
find_nothing t (z ∷ xs) (suc i) low h = ap (λ b. cond b (Some z) (find t xs)) h.0 ∙ find_nothing t xs i (omega arith) h.1

-- what is found stands somewhere, and passes
pub find_at : {X : Type 0} (t : X → Bool) (xs : List X) (x : X) → find t xs ≡ Some x → (i : ℕ) × (slice_get xs i ≡ Some x)
find_at t [] x e = absurd (cc e)
find_at t (z ∷ xs) x e =
    elim (t z) as (λ b. cond b (Some z) (find t xs) ≡ Some x → (i : ℕ) × (slice_get (z ∷ xs) i ≡ Some x)) [ true ↦ λ e. (0, e) | false ↦ λ e. let there = find_at t xs x e in (suc there.0, there.1) ] e

-- more stand there than were passed
pub found_within : {X : Type 0} (t : X → Bool) (xs : List X) (n : ℕ) (x : X) → find t xs ≡ Some x → Each (λ y. t y ≡ false) (take n xs) → suc n ≤ length xs
found_within t [] n x e h = absurd (cc e)
found_within t (z ∷ xs) zero x e h = omega arith
found_within t (z ∷ xs) (suc n) x e h = let more : suc n ≤ length xs = found_within t xs n x (sym (ap (λ b. cond b (Some z) (find t xs)) h.0) ∙ e) h.1 in omega arith

-- once what is found passes no more, one more of the first ones does not
pub found_past : {X : Type 0} (t u : X → Bool) (xs : List X) (n : ℕ) (x : X) → find t xs ≡ Some x → ((y : X) → t y ≡ false → u y ≡ false) → u x ≡ false → Each (λ y. t y ≡ false) (take n xs) → Each (λ y. u y ≡ false) (take (suc n) xs)
found_past t u [] n x e less last h = tt
found_past t u (z ∷ xs) zero x e less last h = (
  elim (t z) as (λ b. t z ≡ b → cond b (Some z) (find t xs) ≡ Some x → u z ≡ false) [ true ↦ λ i e. let same : z ≡ x = same_some z x e in ap u same ∙ last | false ↦ λ i e. less z i ] refl e,
  tt,
)
found_past t u (z ∷ xs) (suc n) x e less last h = (less z h.0, found_past t u xs n x (sym (ap (λ b. cond b (Some z) (find t xs)) h.0) ∙ e) less last h.1)

-- ---- what is due

not_due_true : (b s : Bool) → b ≡ true → (not b && s) ≡ false
not_due_true true s e = refl
not_due_true false s e = absurd (cc e)

still_false : (b c s : Bool) → (not b && s) ≡ false → (not (b || c) && s) ≡ false
still_false true c s e = refl
still_false false true s e = refl
still_false false false s e = e

pub due_less : (skipped : Place → Bool) (done more : List Place) (a : Place) → is_due skipped done a ≡ false → is_due skipped (done ++ more) a ≡ false
due_less skipped done more a e =
    ap (λ b. not b && not (skipped a)) (list_any-append (λ b. same_place b a) done more)
    ∙ still_false (is_done done a) (is_done more a) (not (skipped a)) e

pub delivered_not_due : (skipped : Place → Bool) (done : List Place) (a : Place) → is_due skipped (done ++ a ∷ []) a ≡ false
delivered_not_due skipped done a =
    not_due_true (is_done (done ++ a ∷ []) a) (not (skipped a))
    (list_any-append (λ b. same_place b a) done (a ∷ []) ∙ or_right (is_done done a) (is_done (a ∷ []) a) (ap (λ b. b || false) (same_place-refl a)))

-- ---- settling

-- nothing was delivered yet
pub swept_none : {N : Type 0} (stands : Standing N) (g : Ring) (skipped : Place → Bool) (events : List Event) (w : World N) → WorldStands stands g w events → Swept stands g skipped events w 0
swept_none stands g skipped events w h = record { is = h; passed = tt; size = refl }

-- parties of a place are declared
pub place_declared : (g : Ring) (E : List Event) (number : ℕ) (a : Place) → IsLegal g E → slice_get (places (world g E).sent) number ≡ Some a → IsParty g a.from × IsParty g a.to
place_declared g E number a legal e =
    let there = place_leads [] (world g E).sent number a e in
    let fine = Each-at (λ x. IsParty g x.from × IsParty g x.to) (world g E).sent number there.0 (sent_declared g E legal) there.1 in
    (subst (IsParty g) there.2 fine.0, subst (IsParty g) there.3 fine.1)

-- those of what is pending too
pub pending_declared : (g : Ring) (skipped : Place → Bool) (E : List Event) (a : Place) → IsLegal g E → pending g skipped E ≡ Some a → IsParty g a.from × IsParty g a.to
pending_declared g skipped E a legal e = let there = find_at (is_due skipped (deliveries g E)) (places (world g E).sent) a e in place_declared g E there.0 a legal there.1

came_front : (g : Ring) (v : Model) (o : Option Sent) → (more : List Sent) × ((came g v o).sent ≡ v.sent ++ more)
came_front g v None = ([], sym (append-nil v.sent))
came_front g v (Some x) = (_, refl)

-- what was pending is delivered
pub swept_one : {N : Type 0} (stands : Standing N) (g : Ring) (skipped : Place → Bool) (events : List Event) (w new : World N) (count : ℕ) (a : Place)
    → pending g skipped (settled g skipped events count ++ events) ≡ Some a → Swept stands g skipped events w count
    → IsWorld stands g new (came g (world g (settled g skipped events count ++ events)) (slice_get (between a.from a.to (world g (settled g skipped events count ++ events)).sent) a.place))
    (deliveries g (settled g skipped events count ++ events) ++ delivery (world g (settled g skipped events count ++ events)).sent a)
    → Swept stands g skipped events new (count + 1)
swept_one {N} stands g skipped events w new count a e h is =
    subst (Swept stands g skipped events new) next
    (subst (SweptBy stands g skipped events new (suc count)) (sym (ap (λ o. then_deliver o (settled g skipped events count)) e))
    (record { is = record { is = is; legal = (pending_declared g skipped E a h.is.legal e, h.is.legal) }; passed = passed; size = ap suc h.size }))
  where
    next : suc count ≡ count + 1
    next = omega arith

    E : List Event
    E = settled g skipped events count ++ events

    at : (i : ℕ) × (slice_get (places (world g E).sent) i ≡ Some a)
    at = find_at (is_due skipped (deliveries g E)) (places (world g E).sent) a e

    leads : (x : Sent) × (slice_get (world g E).sent at.0 ≡ Some x) × (x.from ≡ a.from) × (x.to ≡ a.to) × (slice_get (between a.from a.to (world g E).sent) a.place ≡ Some x)
    leads = place_leads [] (world g E).sent at.0 a at.1

    front : (more : List Sent) × ((came g (world g E) (slice_get (between a.from a.to (world g E).sent) a.place)).sent ≡ (world g E).sent ++ more)
    front = came_front g (world g E) (slice_get (between a.from a.to (world g E).sent) a.place)

    within : suc count ≤ length (places (world g E).sent)
    within = found_within (is_due skipped (deliveries g E)) (places (world g E).sent) count a e h.passed

    less : Each (λ b. is_due skipped (deliveries g E ++ a ∷ []) b ≡ false) (take (suc count) (places (world g E).sent))
    less =
        found_past (is_due skipped (deliveries g E)) (is_due skipped (deliveries g E ++ a ∷ [])) (places (world g E).sent) count a e (λ b. due_less skipped (deliveries g E) (a ∷ []) b)
        (delivered_not_due skipped (deliveries g E) a) h.passed

    passed : Each (λ b. is_due skipped (deliveries g E ++ delivery (world g E).sent a) b ≡ false) (take (suc count) (places (came g (world g E) (slice_get (between a.from a.to (world g E).sent) a.place)).sent))
    passed =
        subst (λ ds. Each (λ b. is_due skipped (deliveries g E ++ ds) b ≡ false) (take (suc count) (places (came g (world g E) (slice_get (between a.from a.to (world g E).sent) a.place)).sent)))
        (sym (delivery_there (world g E).sent a leads.0 leads.4))
        (subst (λ xs. Each (λ b. is_due skipped (deliveries g E ++ a ∷ []) b ≡ false) (take (suc count) xs))
        (sym (ap places front.1 ∙ placed-append [] (world g E).sent front.0))
        (take_front (λ b. is_due skipped (deliveries g E ++ a ∷ []) b ≡ false) (places (world g E).sent) (placed (world g E).sent front.0) (suc count) within less))

-- where nothing is pending, all is settled
pub swept_all : {N : Type 0} (stands : Standing N) (g : Ring) (skipped : Place → Bool) (events : List Event) (w : World N) (count : ℕ)
    → pending g skipped (settled g skipped events count ++ events) ≡ None → Swept stands g skipped events w count → Settles stands g skipped events w count
swept_all stands g skipped events w count none h = record { is = h.is; count = h.size; all = none }

-- no list is longer than its notes
pub few_places : (m : Mail) (sent : List Sent) (done : List Place) → IsMail m sent done → length (places sent) ≤ 4294967295
few_places m sent done h =
    let size : length m.order.items ≡ length (places sent) = sym (length-map m.order.items place_of) ∙ ap length h.kept.order_is in
    omega (arith, size, m.few)

-- as many deliveries as there may be messages leave nothing pending
pub swept_most : {N : Type 0} (stands : Standing N) (g : Ring) (skipped : Place → Bool) (events : List Event) (w : World N) (count : ℕ) → 4294967295 ≤ count
    → Swept stands g skipped events w count → pending g skipped (settled g skipped events count ++ events) ≡ None
swept_most stands g skipped events w count most h =
    let few : length (places (world g (settled g skipped events count ++ events)).sent) ≤ 4294967295 = few_places w.mail (world g (settled g skipped events count ++ events)).sent (deliveries g (settled g skipped events count ++ events)) h.is.is.mail_is in
    find_nothing (is_due skipped (deliveries g (settled g skipped events count ++ events))) (places (world g (settled g skipped events count ++ events)).sent) count (omega (arith, few, most)) h.passed

-- ---- what the deliveries name

-- nothing was named yet
pub more_none : (h : List ℕ → List ℕ) (g : Ring) (events : List Event) (held : Held) → HoldsMore h g events [] held held
more_none h g events held = record { held = refl; all = held_none h held; grew = grew_none h held (Contains []) }

-- a delivery more
more_then : (h : List ℕ → List ℕ) (g : Ring) (events late : List Event) (a : Place) (first now new : Held)
    → new ≡ keep_all h (named_by g (world g (late ++ events)) (Deliver a.from a.to a.place)) now
    → Grew h now (Contains (named_by g (world g (late ++ events)) (Deliver a.from a.to a.place))) new
    → AreHeld h new (named_by g (world g (late ++ events)) (Deliver a.from a.to a.place))
    → HoldsMore h g events late first now → HoldsMore h g events (Deliver a.from a.to a.place ∷ late) first new
more_then h g events late a first now new is grew all m =
    record {
      held = is ∙ ap (keep_all h ys) m.held ∙ sym (keep_append h xs ys first);
      all = held_then h now new xs ys grew.kept m.all all;
      grew = grew_then h first now new (Contains xs) (Contains ys) (Contains (xs ++ ys)) (λ s e. Contains-append_left xs ys s e) (λ s e. Contains-append_right xs ys s e) m.grew grew;
    }
  where
    xs : List (List ℕ)
    xs = named_along g events late

    ys : List (List ℕ)
    ys = named_by g (world g (late ++ events)) (Deliver a.from a.to a.place)

-- the next delivery of a settle is of what is due first
next_settled : (g : Ring) (skipped : Place → Bool) (events : List Event) (count : ℕ) (a : Place) → pending g skipped (settled g skipped events count ++ events) ≡ Some a
    → Deliver a.from a.to a.place ∷ settled g skipped events count ≡ settled g skipped events (suc count)
next_settled g skipped events count a e = sym (ap (λ o. then_deliver o (settled g skipped events count)) e)

pub turned_more : (h : List ℕ → List ℕ) (g : Ring) (skipped : Place → Bool) (events : List Event) (count : ℕ) (a : Place) (first now new : Held)
    → pending g skipped (settled g skipped events count ++ events) ≡ Some a
    → new ≡ keep_all h (named_by g (world g (settled g skipped events count ++ events)) (Deliver a.from a.to a.place)) now
    → Grew h now (Contains (named_by g (world g (settled g skipped events count ++ events)) (Deliver a.from a.to a.place))) new
    → AreHeld h new (named_by g (world g (settled g skipped events count ++ events)) (Deliver a.from a.to a.place))
    → HoldsMore h g events (settled g skipped events count) first now → HoldsMore h g events (settled g skipped events (count + 1)) first new
turned_more h g skipped events count a first now new e is grew all m =
    subst (λ n. HoldsMore h g events (settled g skipped events n) first new) next
    (subst (λ late. HoldsMore h g events late first new) (next_settled g skipped events count a e)
    (more_then h g events (settled g skipped events count) a first now new is grew all m))
  where
    next : suc count ≡ count + 1
    next = omega arith

-- a delivery that fails names strings of the settle alone
pub turned_failed : (h : List ℕ → List ℕ) (g : Ring) (skipped : Place → Bool) (events : List Event) (count : ℕ) (a : Place) (first now new : Held) (fault : NameFault)
    → pending g skipped (settled g skipped events count ++ events) ≡ Some a
    → suc count < 2 ^ 32
    → Grew h now (Contains (named_by g (world g (settled g skipped events count ++ events)) (Deliver a.from a.to a.place))) new
    → IsClashIn h new (Contains (named_by g (world g (settled g skipped events count ++ events)) (Deliver a.from a.to a.place))) fault
    → HoldsMore h g events (settled g skipped events count) first now
    → Grew h first (IsNamedIn g skipped events) new × IsClashIn h new (IsNamedIn g skipped events) fault
turned_failed h g skipped events count a first now new fault e low grew clash m = (
  grew_then h first now new (Contains xs) (Contains ys) (IsNamedIn g skipped events) (λ s there. (count, omega (arith, low), there)) later m.grew grew,
  clash_wider h new (Contains ys) (IsNamedIn g skipped events) fault later clash,
)
  where
    xs : List (List ℕ)
    xs = named_along g events (settled g skipped events count)

    ys : List (List ℕ)
    ys = named_by g (world g (settled g skipped events count ++ events)) (Deliver a.from a.to a.place)

    later : (s : List ℕ) → Contains ys s → IsNamedIn g skipped events s
    later s there = (suc count, low, subst (λ late. Contains (named_along g events late) s) (next_settled g skipped events count a e) (Contains-append_right xs ys s there))

-- where something is pending there is room for one delivery more
pub room_for : {N : Type 0} (stands : Standing N) (g : Ring) (skipped : Place → Bool) (events : List Event) (w : World N) (count : ℕ) (a : Place) → pending g skipped (settled g skipped events count ++ events) ≡ Some a
    → Swept stands g skipped events w count → suc count < 2 ^ 32
room_for stands g skipped events w count a e h =
    let few : length (places (world g (settled g skipped events count ++ events)).sent) ≤ 4294967295 = few_places w.mail (world g (settled g skipped events count ++ events)).sent (deliveries g (settled g skipped events count ++ events)) h.is.is.mail_is in
    let within = found_within (is_due skipped (deliveries g (settled g skipped events count ++ events))) (places (world g (settled g skipped events count ++ events)).sent) count a e h.passed in
    omega (arith, few, within)

-- what a settle holds more is named in it
pub more_grew : (h : List ℕ → List ℕ) (g : Ring) (skipped : Place → Bool) (events : List Event) (n : ℕ) (first now : Held) → n < 2 ^ 32
    → HoldsMore h g events (settled g skipped events n) first now → Grew h first (IsNamedIn g skipped events) now
more_grew h g skipped events n first now low m =
    grew_then h first now now (Contains (named_along g events (settled g skipped events n))) (IsNamedIn g skipped events) (IsNamedIn g skipped events) (λ s there. (n, low, there)) (λ s there. there)
    m.grew (grew_none h now (IsNamedIn g skipped events))

-- ---- what is named, however many deliveries are done

named_next : (g : Ring) (events late : List Event) (o : Option Place) (s : List ℕ) → Contains (named_along g events late) s → Contains (named_along g events (then_deliver o late)) s
named_next g events late None s there = there
named_next g events late (Some a) s there = Contains-append_left (named_along g events late) (named_by g (world g (late ++ events)) (Deliver a.from a.to a.place)) s there

-- more deliveries name more
named_more : (g : Ring) (skipped : Place → Bool) (events : List Event) (m n : ℕ) (s : List ℕ) → m ≤ n
    → Contains (named_along g events (settled g skipped events m)) s → Contains (named_along g events (settled g skipped events n)) s
named_more g skipped events m zero s low there =
    let none : m ≡ 0 = omega (arith, low) in subst (λ k. Contains (named_along g events (settled g skipped events k)) s) none there
named_more g skipped events m (suc n) s low there =
    ⊎_elim
    (λ less. named_next g events (settled g skipped events n) (pending g skipped (settled g skipped events n ++ events)) s
    (named_more g skipped events m n s (let below : m ≤ n = omega (arith, less) in below) there))
    (λ more. let same : m ≡ suc n = omega (arith, low, more) in subst (λ k. Contains (named_along g events (settled g skipped events k)) s) same there)
    (cases_lt m (suc n))

-- once nothing is pending no delivery is left
settled_stays : (g : Ring) (skipped : Place → Bool) (events : List Event) (n m : ℕ) → pending g skipped (settled g skipped events n ++ events) ≡ None → n ≤ m → settled g skipped events m ≡ settled g skipped events n
settled_stays g skipped events n zero none low = let same : 0 ≡ n = omega (arith, low) in ap (settled g skipped events) same
settled_stays g skipped events n (suc m) none low =
    ⊎_elim
    (λ less.
    let before : settled g skipped events m ≡ settled g skipped events n = settled_stays g skipped events n m none (let below : n ≤ m = omega (arith, less) in below) in
    ap (λ late. then_deliver (pending g skipped (late ++ events)) late) before ∙ ap (λ o. then_deliver o (settled g skipped events n)) none)
    (λ more. let same : suc m ≡ n = omega (arith, low, more) in ap (settled g skipped events) same)
    (cases_lt n (suc m))

-- what any number of deliveries names is named by those of a settle
all_named : (g : Ring) (skipped : Place → Bool) (events : List Event) (n : ℕ) (s : List ℕ) → pending g skipped (settled g skipped events n ++ events) ≡ None
    → IsNamedIn g skipped events s → Contains (named_along g events (settled g skipped events n)) s
all_named g skipped events n s none named =
    ⊎_elim (λ less. named_more g skipped events named.0 n s (let below : named.0 ≤ n = omega (arith, less) in below) named.2)
    (λ more. subst (λ late. Contains (named_along g events late) s) (settled_stays g skipped events n named.0 none more) named.2) (cases_lt named.0 n)

-- a settle that answers no fault names no two different strings of one name
pub settled_apart : (h : List ℕ → List ℕ) (g : Ring) (skipped : Place → Bool) (events : List Event) (n : ℕ) (first now : Held) → pending g skipped (settled g skipped events n ++ events) ≡ None
    → HoldsMore h g events (settled g skipped events n) first now → NoneClash h first (IsNamedIn g skipped events)
settled_apart h g skipped events n first now none m =
    none_clash h first now (IsNamedIn g skipped events) m.grew.kept
    (λ s named. All-contains (Holds h now) (named_along g events (settled g skipped events n)) s m.all (all_named g skipped events n s none named))
