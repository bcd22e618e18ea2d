-- Each item is sent once.
use Rattle.std.proofs.Common.{◌≡◌, ℕ, zero, suc, ◌+◌, ◌-◌, ◌*◌, ◌<◌, ◌≤◌, Bool, true, false, cond, ◌&&◌, ◌==◌, List, [], ◌∷◌, ◌++◌, length, slice_get, find, flat_map, count_by, Option, Some, None, is_some, refl, sym, ap, ◌∙◌, subst, arith, length-append, ⊎_elim}
use Rattle.std.specs.List.{range_with_len, sum_by}
use Rattle.std.proofs.lemmas.Bool.{cases_eq, eq-eqb, and_parts}
use Rattle.std.proofs.lemmas.List.{length-map}
use Rattle.std.proofs.lemmas.List.Sums.{sum_by-cons, count_by-le-length}
use Rattle.std.proofs.lemmas.List.FromFn.{length-range_with_len}
use Rattle.ring_model.specs.Messages.{Ring, Letter, Packet, Message, Request, PrePrepare, Prepare, Commit, Heart, Sealed, Mark, Party, Member, Client, members, same_party, to_members, to_clients}
use Rattle.ring_model.specs.Member.{endorsed, prepared, executed, executed_to, order_at, news, newly, hearts, answers, causes}
use Rattle.ring_model.specs.World.{World, Event, Submit, Resubmit, Deliver, Forge, Archive, asking, between, sends, came, turned, happens, world, IsParty, MayHappen, IsLegal}
use Rattle.ring_model.specs.Laws.{FewSent, adds}
use Rattle.ring_model.proofs.Stays.{order_stays, endorsed_stays, prepared_stays, executed_to_stays}
use Rattle.ring_model.proofs.Owed.{same_party_true}

abbrev pub owed_count : {Y : Type 0} → Ring → (ℕ → Option Y) → ℕ
owed_count g has = count_by (λ s. is_some (has s)) (range_with_len 1 g.slots)

news_count : {Y : Type 0} (k : ℕ) (o u : Option Y) (send : Y → List Packet) → ((y : Y) → length (send y) ≤ k) → ((y : Y) → o ≡ Some y → u ≡ Some y)
    → length (news o u send) + k * cond (is_some o) 1 0 ≤ k * cond (is_some u) 1 0
news_count k None None send f h = omega arith
news_count k None (Some y) send f h = omega (arith, f y)
news_count k (Some x) None send f h = absurd (cc (h x refl))
news_count k (Some x) (Some y) send f h = omega arith

slots_count : {Y : Type 0} (k : ℕ) (before after : ℕ → Option Y) (send : ℕ → Y → List Packet) → ((s : ℕ) (y : Y) → length (send s y) ≤ k) → ((s : ℕ) (y : Y) → before s ≡ Some y → after s ≡ Some y)
    → (ss : List ℕ) → length (flat_map (λ s. news (before s) (after s) (send s)) ss) + k * count_by (λ s. is_some (before s)) ss ≤ k * count_by (λ s. is_some (after s)) ss
slots_count k before after send f h [] = omega arith
slots_count k before after send f h (s ∷ ss) =
    let a = ap (λ n. k * n) (sum_by-cons (λ s. cond (is_some (before s)) 1 0) s ss) in
    let b = ap (λ n. k * n) (sum_by-cons (λ s. cond (is_some (after s)) 1 0) s ss) in
    omega (arith, a, b, length-append (news (before s) (after s) (send s)) (flat_map (λ s. news (before s) (after s) (send s)) ss), news_count k (before s) (after s) (send s) (f s) (h s), slots_count k before after send f h ss)

newly_count : {Y : Type 0} (g : Ring) (k : ℕ) (before after : ℕ → Option Y) (send : ℕ → Y → List Packet) → ((s : ℕ) (y : Y) → length (send s y) ≤ k) → ((s : ℕ) (y : Y) → before s ≡ Some y → after s ≡ Some y)
    → length (newly g before after send) + k * owed_count g before ≤ k * owed_count g after
newly_count g k before after send f h = slots_count k before after send f h (range_with_len 1 g.slots)

members_long : (g : Ring) (from : Party) (m : Message) → length (to_members g from m) ≡ 3 * g.f + 1
members_long g from m = length-map (members g) (λ j. record { from = from; to = Member j; message = m }) ∙ length-range_with_len 0 (3 * g.f + 1)

clients_long : (g : Ring) (from : Party) (m : Message) → length (to_clients g from m) ≡ g.clients
clients_long g from m = length-map (range_with_len 0 g.clients) (λ c. record { from = from; to = Client c; message = m }) ∙ length-range_with_len 0 g.clients

answers_long : (g : Ring) (i : ℕ) (xs : List (List ℕ)) → length (answers g i xs) ≤ 1 + g.clients
answers_long g i xs =
    elim (slice_get xs (length xs - 1)) as (λ o. slice_get xs (length xs - 1) ≡ o → length (answers g i xs) ≤ 1 + g.clients) [
      | None ↦ λ n. rw n (omega arith)
      | Some r ↦ λ n. rw n (omega (arith, hearts_long (g.heart xs)))
    ] refl
  where
    hearts_long : (o : Option Mark) → length (hearts g i o) ≤ g.clients
    hearts_long None = omega arith
    hearts_long (Some m) = omega (arith, clients_long g (Member i) (Heart m.object m.version m.name))

-- how much a member has sent by now, at most
abbrev pub weight : Ring → List Letter → ℕ
weight g got =
    (3 * g.f + 1) * owed_count g (order_at g got) + (3 * g.f + 1) * owed_count g (endorsed g got) + (3 * g.f + 1) * owed_count g (prepared g got) + (1 + g.clients) * owed_count g (executed_to g got)

shorter : (b : Bool) (xs : List Packet) → (length (cond b xs []) ≤ length xs) × (length (cond b [] xs) ≤ length xs)
shorter true xs = (omega arith, omega arith)
shorter false xs = (omega arith, omega arith)

weighs : (g : Ring) (i : ℕ) (l : Letter) (older : List Letter) → length (causes g i older (l ∷ older)) + weight g older ≤ weight g (l ∷ older)
weighs g i l older =
    let got = l ∷ older in
    let A = newly g (order_at g older) (order_at g got) (λ k r. to_members g (Member i) (PrePrepare k r)) in
    let B = newly g (endorsed g older) (endorsed g got) (λ s r. to_members g (Member i) (Prepare s (g.h r))) in
    let C = newly g (prepared g older) (prepared g got) (λ s r. to_members g (Member i) (Commit s (g.h r))) in
    let D = newly g (executed_to g older) (executed_to g got) (λ s xs. answers g i xs) in
    let a = newly_count g (3 * g.f + 1) (order_at g older) (order_at g got) (λ k r. to_members g (Member i) (PrePrepare k r)) (λ k r. omega (arith, members_long g (Member i) (PrePrepare k r))) (order_stays g l older) in
    let b = newly_count g (3 * g.f + 1) (endorsed g older) (endorsed g got) (λ s r. to_members g (Member i) (Prepare s (g.h r))) (λ s r. omega (arith, members_long g (Member i) (Prepare s (g.h r)))) (endorsed_stays g l older) in
    let c = newly_count g (3 * g.f + 1) (prepared g older) (prepared g got) (λ s r. to_members g (Member i) (Commit s (g.h r))) (λ s r. omega (arith, members_long g (Member i) (Commit s (g.h r)))) (prepared_stays g l older) in
    let d = newly_count g (1 + g.clients) (executed_to g older) (executed_to g got) (λ s xs. answers g i xs) (λ s xs. answers_long g i xs) (executed_to_stays g l older) in
    let first : length (cond (i == 0) A []) ≤ length A = (shorter (i == 0) A).0 in
    omega (arith, length-append (cond (i == 0) A [] ++ B ++ C) D, length-append (cond (i == 0) A [] ++ B) C, length-append (cond (i == 0) A []) B, first, a, b, c, d)

count_most : {Y : Type 0} (g : Ring) (has : ℕ → Option Y) → owed_count g has ≤ g.slots
count_most g has = omega (arith, count_by-le-length (λ s. is_some (has s)) (range_with_len 1 g.slots), length-range_with_len 1 g.slots)

times : (k a b : ℕ) → a ≤ b → k * a ≤ k * b
times k a b h = grind arith

weight_most : (g : Ring) (got : List Letter) → weight g got ≤ g.slots * (3 * (3 * g.f + 1) + (1 + g.clients))
weight_most g got =
    omega (
      arith,
      times (3 * g.f + 1) (owed_count g (order_at g got)) g.slots (count_most g (order_at g got)),
      times (3 * g.f + 1) (owed_count g (endorsed g got)) g.slots (count_most g (endorsed g got)),
      times (3 * g.f + 1) (owed_count g (prepared g got)) g.slots (count_most g (prepared g got)),
      times (1 + g.clients) (owed_count g (executed_to g got)) g.slots (count_most g (executed_to g got)),
    )

-- ---- over the members

sum_more : (F G : ℕ → ℕ) → ((j : ℕ) → F j ≤ G j) → (xs : List ℕ) → sum_by F xs ≤ sum_by G xs
sum_more F G f [] = omega arith
sum_more F G f (x ∷ xs) = omega (arith, sum_by-cons F x xs, sum_by-cons G x xs, f x, sum_more F G f xs)

sum_raise : (F G : ℕ → ℕ) (d i : ℕ) → ((j : ℕ) → F j ≤ G j) → F i + d ≤ G i → (n a : ℕ) → a ≤ i → i < a + n → sum_by F (range_with_len a n) + d ≤ sum_by G (range_with_len a n)
sum_raise F G d i f at zero a low high = absurd (omega arith)
sum_raise F G d i f at (suc n) a low high =
    ⊎_elim
    (λ same. let here : F a + d ≤ G a = subst (λ k. F k + d ≤ G k) (sym same) at in
    omega (arith, sum_by-cons F a (range_with_len (a + 1) n), sum_by-cons G a (range_with_len (a + 1) n), here, sum_more F G f (range_with_len (a + 1) n)))
    (λ other. omega (arith, sum_by-cons F a (range_with_len (a + 1) n), sum_by-cons G a (range_with_len (a + 1) n), f a, sum_raise F G d i f at n (a + 1) (omega arith) (omega arith)))
    (cases_eq a i)

abbrev total : Ring → (Party → List Letter) → ℕ
total g got = sum_by (λ i. weight g (got (Member i))) (members g)

came_few : (g : Ring) (w : World) (p q : Party) (o : Option Packet) → ((x : Packet) → o ≡ Some x → IsParty g x.to) → length (came g w o).sent + total g w.got ≤ length w.sent + total g (came g w o).got
came_few g w p q None f = omega arith
came_few g w p q (Some x) f = at x.to refl (f x refl)
  where
    l : Letter
    l = record { from = x.from; message = x.message }

    now : ℕ → ℕ
    now j = weight g (cond (same_party x.to (Member j)) (l ∷ w.got (Member j)) (w.got (Member j)))

    grows : (j : ℕ) → weight g (w.got (Member j)) ≤ weight g (cond (same_party x.to (Member j)) (l ∷ w.got (Member j)) (w.got (Member j)))
    grows j = elim (same_party x.to (Member j)) as (λ b. weight g (w.got (Member j)) ≤ weight g (cond b (l ∷ w.got (Member j)) (w.got (Member j)))) [
      | true ↦ omega (arith, weighs g j l (w.got (Member j)))
      | false ↦ omega arith
    ]

    at : (to : Party) → x.to ≡ to → IsParty g to → length (w.sent ++ sends g x.to (w.got x.to) (l ∷ w.got x.to)) + total g w.got ≤ length w.sent + total g (came g w (Some x)).got
    at (Client c) e party =
        let none : length (sends g x.to (w.got x.to) (l ∷ w.got x.to)) ≡ 0 = ap (λ p. length (sends g p (w.got p) (l ∷ w.got p))) e in
        omega (arith, length-append w.sent (sends g x.to (w.got x.to) (l ∷ w.got x.to)), none, sum_more (λ j. weight g (w.got (Member j))) (λ j. weight g (cond (same_party x.to (Member j)) (l ∷ w.got (Member j)) (w.got (Member j)))) grows (members g))
    at (Member i) e party =
        let mine : sends g x.to (w.got x.to) (l ∷ w.got x.to) ≡ cond (g.is_faulty i) [] (causes g i (w.got (Member i)) (l ∷ w.got (Member i))) = ap (λ p. sends g p (w.got p) (l ∷ w.got p)) e in
        let few : length (cond (g.is_faulty i) [] (causes g i (w.got (Member i)) (l ∷ w.got (Member i)))) ≤ length (causes g i (w.got (Member i)) (l ∷ w.got (Member i))) = (shorter (g.is_faulty i) (causes g i (w.got (Member i)) (l ∷ w.got (Member i)))).1 in
        let here : weight g (w.got (Member i)) + length (causes g i (w.got (Member i)) (l ∷ w.got (Member i))) ≤ weight g (cond (same_party x.to (Member i)) (l ∷ w.got (Member i)) (w.got (Member i)))
        = rw (ap (λ p. same_party p (Member i)) e ∙ eq-eqb i i refl) (omega (arith, weighs g i l (w.got (Member i)))) in
        omega (
          arith,
          length-append w.sent (sends g x.to (w.got x.to) (l ∷ w.got x.to)),
          ap length mine,
          few,
          sum_raise (λ j. weight g (w.got (Member j))) (λ j. weight g (cond (same_party x.to (Member j)) (l ∷ w.got (Member j)) (w.got (Member j)))) (length (causes g i (w.got (Member i)) (l ∷ w.got (Member i)))) i grows here (3 * g.f + 1) 0 (omega arith) (omega (arith, party)),
        )

between_to : (g : Ring) (p q : Party) (sent : List Packet) (k : ℕ) (x : Packet) → IsParty g q → slice_get (between p q sent) k ≡ Some x → IsParty g x.to
between_to g p q [] k x party e = absurd (cc e)
between_to g p q (y ∷ sent) k x party e =
    elim (same_party y.from p && same_party y.to q) as (λ b. (same_party y.from p && same_party y.to q) ≡ b → (k : ℕ) → slice_get (cond b (y ∷ between p q sent) (between p q sent)) k ≡ Some x → IsParty g x.to) [
      | true ↦ λ passes k. first passes k (λ j. between_to g p q sent j x party)
      | false ↦ λ _ k h. between_to g p q sent k x party h
    ] refl k e
  where
    first : (same_party y.from p && same_party y.to q) ≡ true → (k : ℕ) → ((j : ℕ) → slice_get (between p q sent) j ≡ Some x → IsParty g x.to) → slice_get (y ∷ between p q sent) k ≡ Some x → IsParty g x.to
    first passes zero rest h =
        let same : y ≡ x = cc h in
        subst (λ (z : Packet). IsParty g z.to) same (subst (IsParty g) (sym (same_party_true y.to q (and_parts (same_party y.from p) (same_party y.to q) passes).1)) party)
    first passes (suc k) rest h = rest k h

asking_few : (g : Ring) (o : Option (List ℕ)) → length (asking g o) ≤ 3 * g.f + 1
asking_few g None = omega arith
asking_few g (Some r) = omega (arith, members_long g (Client (g.owner r)) (Request r))

turned_few : (g : Ring) (w : World) (i : ℕ) (o : Option Mark) → length (turned g w i o).sent + total g w.got ≤ length w.sent + g.clients + total g (turned g w i o).got
turned_few g w i None = omega arith
turned_few g w i (Some m) = omega (arith, length-append w.sent (to_clients g (Member i) (Sealed m.object m.version m.name)), clients_long g (Member i) (Sealed m.object m.version m.name))

happens_few : (g : Ring) (w : World) (e : Event) → MayHappen g w e → length (happens g w e).sent + total g w.got ≤ length w.sent + adds g e + total g (happens g w e).got
happens_few g w (Submit r) may = omega (arith, length-append w.sent (asking g (Some r)), asking_few g (Some r))
happens_few g w (Resubmit c n) may = let o = find (λ r. g.owner r == c && g.number r == n) w.submits in omega (arith, length-append w.sent (asking g o), asking_few g o)
happens_few g w (Deliver p q k) may = omega (arith, came_few g w p q (slice_get (between p q w.sent) k) (λ x e. between_to g p q w.sent k x may.1 e))
happens_few g w (Forge i q m) may = omega (arith, length-append w.sent (record { from = Member i; to = q; message = m } ∷ []))
happens_few g w (Archive i) may = omega (arith, turned_few g w i (slice_get (g.seals (executed g (w.got (Member i)))) (w.archived i)))

grown : (g : Ring) (events : List Event) → IsLegal g events → length (world g events).sent ≤ sum_by (adds g) events + total g (world g events).got
grown g [] legal = omega arith
grown g (e ∷ events) legal = omega (arith, sum_by-cons (adds g) e events, happens_few g (world g events) e legal.0, grown g events legal.1)

sum_most : (F : ℕ → ℕ) (m : ℕ) → ((j : ℕ) → F j ≤ m) → (xs : List ℕ) → sum_by F xs ≤ length xs * m
sum_most F m f [] = omega arith
sum_most F m f (x ∷ xs) = omega (arith, sum_by-cons F x xs, f x, sum_most F m f xs)

pub few_sent : FewSent
few_sent g events legal =
    let got = (world g events).got in
    let most = sum_most (λ i. weight g (got (Member i))) (g.slots * (3 * (3 * g.f + 1) + (1 + g.clients))) (λ j. weight_most g (got (Member j))) (members g) in
    let long = ap (λ n. n * (g.slots * (3 * (3 * g.f + 1) + (1 + g.clients)))) (length-range_with_len 0 (3 * g.f + 1)) in
    omega (arith, grown g events legal, most, long)
