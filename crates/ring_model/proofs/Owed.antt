-- Whatever happens, correct parties send what they owe.
use Rattle.std.proofs.Common.{◌≡◌, ℕ, suc, ◌-◌, Bool, true, false, cond, ◌&&◌, ◌==◌, List, [], ◌∷◌, ◌++◌, length, map, slice_get, filter, find, flat_map, Contains, Option, Some, None, refl, sym, ap, subst, arith}
use Rattle.std.specs.List.{range_with_len, AllByRecursion as Each}
use Rattle.std.proofs.lemmas.Bool.{eqb-true, eq-eqb}
use Rattle.std.proofs.lemmas.List.Elements.{Contains-append_left, Contains-push}
use Rattle.ring_model.specs.Messages.{Ring, Letter, Packet, Message, Request, PrePrepare, Prepare, Commit, Heart, Sealed, Mark, Party, Member, Client, members, same_party, to_members, to_clients}
use Rattle.ring_model.specs.Member.{endorsed, prepared, executed, executed_to, order_at, news, newly, hearts, answers, causes}
use Rattle.ring_model.specs.World.{World, Event, Submit, Resubmit, Deliver, Forge, Archive, asking, between, sends, came, turned, happens, world, MayHappen}
use Rattle.ring_model.specs.Laws.{Owes, Right, IsSound, AllOwed}
use Rattle.ring_model.proofs.History.{same_some, Each-weaker, Each-append, Each-at}
use Rattle.ring_model.proofs.Stays.{Owes-stays}

-- ---- lists of messages

pub Each-map : {X Y : Type 0} (P : Y → Type 0) (f : X → Y) (xs : List X) → ((x : X) → P (f x)) → Each P (map f xs)
Each-map P f [] h = tt
Each-map P f (x ∷ xs) h = (h x, Each-map P f xs h)

pub Each-flat : {X Y : Type 0} (P : Y → Type 0) (f : X → List Y) (xs : List X) → ((x : X) → Each P (f x)) → Each P (flat_map f xs)
Each-flat P f [] h = tt
Each-flat P f (x ∷ xs) h = Each-append P (f x) (flat_map f xs) (h x) (Each-flat P f xs h)

pub Each-filter : {X : Type 0} (P : X → Type 0) (t : X → Bool) (xs : List X) → Each P xs → Each P (filter t xs)
Each-filter P t [] h = tt
Each-filter P t (x ∷ xs) h =
    elim (t x) as (λ b. Each P (cond b (x ∷ filter t xs) (filter t xs))) [
      | true ↦ (h.0, Each-filter P t xs h.1)
      | false ↦ Each-filter P t xs h.1
    ]

pub Each-cond : {X : Type 0} (P : X → Type 0) (b : Bool) (xs : List X) → (b ≡ true → Each P xs) → Each P (cond b xs [])
Each-cond P true xs h = h refl
Each-cond P false xs h = tt

Each-news : {Y : Type 0} (P : Packet → Type 0) (o u : Option Y) (send : Y → List Packet) → ((y : Y) → u ≡ Some y → Each P (send y)) → Each P (news o u send)
Each-news P None None send h = tt
Each-news P None (Some y) send h = h y refl
Each-news P (Some x) u send h = tt

pub Each-newly : {Y : Type 0} (g : Ring) (P : Packet → Type 0) (before after : ℕ → Option Y) (send : ℕ → Y → List Packet)
    → ((s : ℕ) (y : Y) → after s ≡ Some y → Each P (send s y)) → Each P (newly g before after send)
Each-newly g P before after send h =
    Each-flat P (λ s. news (before s) (after s) (send s)) (range_with_len 1 g.slots) (λ s. Each-news P (before s) (after s) (send s) (h s))

-- ---- what a delivery causes

abbrev Sends : Ring → ℕ → List Letter → Packet → Type 0
Sends g i got x = (x.from ≡ Member i) × Owes g i got x.to x.message

all_members : (g : Ring) (i : ℕ) (got : List Letter) (m : Message) → ((to : Party) → Owes g i got to m) → Each (Sends g i got) (to_members g (Member i) m)
all_members g i got m h = Each-map (Sends g i got) (λ j. record { from = Member i; to = Member j; message = m }) (members g) (λ j. (refl, h (Member j)))

all_clients : (g : Ring) (i : ℕ) (got : List Letter) (m : Message) → ((to : Party) → Owes g i got to m) → Each (Sends g i got) (to_clients g (Member i) m)
all_clients g i got m h = Each-map (Sends g i got) (λ c. record { from = Member i; to = Client c; message = m }) (range_with_len 0 g.clients) (λ c. (refl, h (Client c)))

hearts_owed : (g : Ring) (i : ℕ) (got : List Letter) (s : ℕ) (xs : List (List ℕ)) → executed_to g got s ≡ Some xs → (o : Option Mark) → g.heart xs ≡ o → Each (Sends g i got) (hearts g i o)
hearts_owed g i got s xs e None h = tt
hearts_owed g i got s xs e (Some m) h = all_clients g i got (Heart m.object m.version m.name) (λ to. (s, xs, e, h))

answers_owed : (g : Ring) (i : ℕ) (got : List Letter) (s : ℕ) (xs : List (List ℕ)) → executed_to g got s ≡ Some xs → Each (Sends g i got) (answers g i xs)
answers_owed g i got s xs e =
    elim (slice_get xs (length xs - 1)) as (λ o. slice_get xs (length xs - 1) ≡ o → Each (Sends g i got) (answers g i xs)) [
      | None ↦ λ n. rw n tt
      | Some r ↦ λ n. rw n ((refl, (s, xs, r, e, n, refl, refl, refl)), hearts_owed g i got s xs e (g.heart xs) refl)
    ] refl

pub causes_owed : (g : Ring) (i : ℕ) (older got : List Letter) → Each (Sends g i got) (causes g i older got)
causes_owed g i older got =
    let P = Sends g i got in
    let a = Each-cond P (i == 0) (newly g (order_at g older) (order_at g got) (λ k r. to_members g (Member i) (PrePrepare k r)))
    (λ z. Each-newly g P (order_at g older) (order_at g got) (λ k r. to_members g (Member i) (PrePrepare k r)) (λ k r e. all_members g i got (PrePrepare k r) (λ to. (eqb-true i 0 z, e)))) in
    let b = Each-newly g P (endorsed g older) (endorsed g got) (λ s r. to_members g (Member i) (Prepare s (g.h r))) (λ s r e. all_members g i got (Prepare s (g.h r)) (λ to. (r, e, refl))) in
    let c = Each-newly g P (prepared g older) (prepared g got) (λ s r. to_members g (Member i) (Commit s (g.h r))) (λ s r e. all_members g i got (Commit s (g.h r)) (λ to. (r, e, refl))) in
    let d = Each-newly g P (executed_to g older) (executed_to g got) (λ s xs. answers g i xs) (λ s xs e. answers_owed g i got s xs e) in
    Each-append P _ _ (Each-append P _ _ (Each-append P _ _ a b) c) d

-- ---- one event

-- what is right stays right where submits and letters only grow
Right-grows : (g : Ring) (w v : World) → ((r : List ℕ) → Contains w.submits r → Contains v.submits r)
    → ((i : ℕ) (to : Party) (m : Message) → Owes g i (w.got (Member i)) to m → Owes g i (v.got (Member i)) to m)
    → (p to : Party) (m : Message) → Right g w p to m → Right g v p to m
Right-grows g w v sub owe (Member i) to m h = λ correct. owe i to m (h correct)
Right-grows g w v sub owe (Client c) to (Request r) h = (sub r h.0, h.1)
Right-grows g w v sub owe (Client c) to _ h = h

-- an event after which the letters are as they were
same_letters : (g : Ring) (w v : World) → IsSound g w → v.got ≡ w.got → ((r : List ℕ) → Contains w.submits r → Contains v.submits r)
    → (more : List Packet) → v.sent ≡ w.sent ++ more → Each (λ x. Right g v x.from x.to x.message) more → IsSound g v
same_letters g w v sound same sub more sent new =
    let keep : (p to : Party) (m : Message) → Right g w p to m → Right g v p to m
    = Right-grows g w v sub (λ i to m h. subst (λ (got : Party → List Letter). Owes g i (got (Member i)) to m) (sym same) h) in
    record {
      sent = subst (Each (λ x. Right g v x.from x.to x.message)) (sym sent)
          (Each-append (λ x. Right g v x.from x.to x.message) w.sent more (Each-weaker (λ x. Right g w x.from x.to x.message) (λ x. Right g v x.from x.to x.message) (λ x h. keep x.from x.to x.message h) w.sent sound.sent) new);
      got = λ p. subst (λ (got : Party → List Letter). Each (λ l. Right g v l.from p l.message) (got p)) (sym same)
          (Each-weaker (λ l. Right g w l.from p l.message) (λ l. Right g v l.from p l.message) (λ l h. keep l.from p l.message h) (w.got p) (sound.got p));
    }

asking_right : (g : Ring) (v : World) (o : Option (List ℕ)) → ((r : List ℕ) → o ≡ Some r → Contains v.submits r) → Each (λ x. Right g v x.from x.to x.message) (asking g o)
asking_right g v None h = tt
asking_right g v (Some r) h =
    Each-map (λ x. Right g v x.from x.to x.message) (λ j. record { from = Client (g.owner r); to = Member j; message = Request r }) (members g) (λ j. (h r refl, refl))

-- what a search finds stands in the list
pub found_there : {X : Type 0} (t : X → Bool) (xs : List X) (x : X) → find t xs ≡ Some x → Contains xs x
found_there t [] x e = absurd (cc e)
found_there {X} t (y ∷ xs) x e =
    elim (t y) as (λ b. cond b (Some y) (find t xs) ≡ Some x → Contains (y ∷ xs) x) [
      | true ↦ λ h. (0, omega arith, same_some y x h)
      | false ↦ λ h. let c = found_there t xs x h in (suc c.0, omega arith, c.2)
    ] e

pub same_party_true : (p q : Party) → same_party p q ≡ true → p ≡ q
same_party_true (Member i) (Member j) e = ap Member (eqb-true i j e)
same_party_true (Client i) (Client j) e = ap Client (eqb-true i j e)
same_party_true (Member i) (Client j) e = absurd (cc e)
same_party_true (Client i) (Member j) e = absurd (cc e)

pub same_party_refl : (p : Party) → same_party p p ≡ true
same_party_refl (Member i) = eq-eqb i i refl
same_party_refl (Client i) = eq-eqb i i refl

came_sound : (g : Ring) (w : World) (o : Option Packet) → IsSound g w → ((x : Packet) → o ≡ Some x → Right g w x.from x.to x.message) → IsSound g (came g w o)
came_sound g w None sound h = sound
came_sound g w (Some x) sound h =
    record {
      sent = Each-append (λ y. Right g v y.from y.to y.message) w.sent (sends g x.to (w.got x.to) (l ∷ w.got x.to))
          (Each-weaker (λ y. Right g w y.from y.to y.message) (λ y. Right g v y.from y.to y.message) (λ y k. keep y.from y.to y.message k) w.sent sound.sent)
          (sends_right x.to refl);
      got = λ p. letters p (same_party x.to p) refl;
    }
  where
    l : Letter
    l = record { from = x.from; message = x.message }

    v : World
    v = came g w (Some x)

    owe : (i : ℕ) (to : Party) (m : Message) → Owes g i (w.got (Member i)) to m → Owes g i (v.got (Member i)) to m
    owe i to m k =
        elim (same_party x.to (Member i)) as (λ b. Owes g i (cond b (l ∷ w.got (Member i)) (w.got (Member i))) to m) [
          | true ↦ Owes-stays g i l (w.got (Member i)) to m k
          | false ↦ k
        ]

    keep : (p to : Party) (m : Message) → Right g w p to m → Right g v p to m
    keep = Right-grows g w v (λ r c. c) owe

    letters : (p : Party) (b : Bool) → same_party x.to p ≡ b → Each (λ y. Right g v y.from p y.message) (v.got p)
    letters p b e =
        let old = Each-weaker (λ y. Right g w y.from p y.message) (λ y. Right g v y.from p y.message) (λ y k. keep y.from p y.message k) (w.got p) (sound.got p) in
        elim (same_party x.to p) as (λ b. same_party x.to p ≡ b → Each (λ y. Right g v y.from p y.message) (cond b (l ∷ w.got p) (w.got p))) [
          | true ↦ λ same. (subst (λ q. Right g v x.from q x.message) (same_party_true x.to p same) (keep x.from x.to x.message (h x refl)), old)
          | false ↦ λ _. old
        ] refl

    sends_right : (q : Party) → x.to ≡ q → Each (λ y. Right g v y.from y.to y.message) (sends g q (w.got q) (l ∷ w.got q))
    sends_right (Client c) e = tt
    sends_right (Member i) e =
        let now : v.got (Member i) ≡ l ∷ w.got (Member i) = ap (λ b. cond b (l ∷ w.got (Member i)) (w.got (Member i))) (subst (λ p. same_party p (Member i) ≡ true) (sym e) (same_party_refl (Member i))) in
        elim (g.is_faulty i) as (λ b. Each (λ y. Right g v y.from y.to y.message) (cond b [] (causes g i (w.got (Member i)) (l ∷ w.got (Member i))))) [
          | true ↦ tt
          | false ↦ Each-weaker (Sends g i (l ∷ w.got (Member i))) (λ y. Right g v y.from y.to y.message)
              (λ y k. subst (λ p. Right g v p y.to y.message) (sym k.0) (λ _. subst (λ got. Owes g i got y.to y.message) (sym now) k.1))
              (causes g i (w.got (Member i)) (l ∷ w.got (Member i))) (causes_owed g i (w.got (Member i)) (l ∷ w.got (Member i)))
        ]

turned_sound : (g : Ring) (w : World) (i : ℕ) (o : Option Mark) → IsSound g w → slice_get (g.seals (executed g (w.got (Member i)))) (w.archived i) ≡ o → IsSound g (turned g w i o)
turned_sound g w i None sound e = sound
turned_sound g w i (Some m) sound e =
    same_letters g w (turned g w i (Some m)) sound refl (λ r c. c) (to_clients g (Member i) (Sealed m.object m.version m.name)) refl
    (Each-map (λ x. Right g (turned g w i (Some m)) x.from x.to x.message) (λ c. record { from = Member i; to = Client c; message = Sealed m.object m.version m.name }) (range_with_len 0 g.clients) (λ c _. (w.archived i, e)))

happens_sound : (g : Ring) (w : World) (e : Event) → MayHappen g w e → IsSound g w → IsSound g (happens g w e)
happens_sound g w (Submit r) may sound =
    same_letters g w (happens g w (Submit r)) sound refl (λ t c. Contains-append_left w.submits (r ∷ []) t c) (asking g (Some r)) refl
    (asking_right g (happens g w (Submit r)) (Some r) (λ t e. subst (Contains (w.submits ++ r ∷ [])) (same_some r t e) (Contains-push w.submits r)))
happens_sound g w (Resubmit c n) may sound =
    let o = find (λ r. g.owner r == c && g.number r == n) w.submits in
    same_letters g w (happens g w (Resubmit c n)) sound refl (λ t k. k) (asking g o) refl
    (asking_right g (happens g w (Resubmit c n)) o (λ r e. found_there (λ r. g.owner r == c && g.number r == n) w.submits r e))
happens_sound g w (Deliver p q k) may sound =
    came_sound g w (slice_get (between p q w.sent) k) sound
    (λ x e. Each-at (λ y. Right g w y.from y.to y.message) (between p q w.sent) k x (Each-filter (λ y. Right g w y.from y.to y.message) (λ y. same_party y.from p && same_party y.to q) w.sent sound.sent) e)
happens_sound g w (Forge i q m) may sound =
    same_letters g w (happens g w (Forge i q m)) sound refl (λ t k. k) (record { from = Member i; to = q; message = m } ∷ []) refl
    ((λ correct. absurd (cc (may.0, correct))), tt)
happens_sound g w (Archive i) may sound = turned_sound g w i (slice_get (g.seals (executed g (w.got (Member i)))) (w.archived i)) sound refl

pub all_owed : AllOwed
all_owed g [] legal = record { sent = tt; got = λ p. tt }
all_owed g (e ∷ events) legal = happens_sound g (world g events) e legal.0 (all_owed g events legal.1)
