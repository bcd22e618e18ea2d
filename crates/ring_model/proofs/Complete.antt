-- What is owed was sent.
use Rattle.std.proofs.Common.{◌≡◌, ℕ, zero, suc, ◌+◌, ◌*◌, ◌<◌, ◌≤◌, true, false, cond, ◌&&◌, ◌==◌, List, [], ◌∷◌, ◌++◌, slice_get, find, Contains, Option, Some, None, ⊎_elim, refl, sym, ap, ◌∙◌, subst, arith, length}
use Rattle.std.specs.List.{range_with_len}
use Rattle.std.proofs.lemmas.List.Elements.{Contains-append_left, Contains-append_right, Contains-push_cases}
use Rattle.ring_model.specs.Messages.{Ring, Letter, Packet, Message, Request, PrePrepare, Prepare, Commit, Sealed, Mark, Party, Member, Client, members, same_party, to_members, to_clients}
use Rattle.ring_model.specs.Member.{endorsed, prepared, committed, executed, executed_to, order_at, news, newly, answers, causes}
use Rattle.ring_model.specs.World.{World, Event, Submit, Resubmit, Deliver, Forge, Archive, asking, between, sends, came, turned, happens, world}
use Rattle.ring_model.proofs.History.{same_some, first_of_parts}
use Rattle.ring_model.proofs.Stays.{order_stays, endorsed_stays, prepared_stays, executed_to_stays}
use Rattle.ring_model.proofs.Owed.{same_party_true}
use Rattle.ring_model.proofs.Lists.{there_map, there_flat, there_range, run_none}

-- what each item of a kind is to be sent as was sent
abbrev pub Told : {Y : Type 0} → Ring → (List Letter → ℕ → Option Y) → (ℕ → Y → List Packet) → List Letter → List Packet → Type 0
Told {Y} g has send got sent = (s : ℕ) (y : Y) → 1 ≤ s → s ≤ g.slots → has got s ≡ Some y → (x : Packet) → Contains (send s y) x → Contains sent x

pub record IsComplete (g : Ring) (w : World) : Type 0 where
  pub asked : (r : List ℕ) → Contains w.submits r → (j : ℕ) → j < 3 * g.f + 1 → Contains w.sent (record { from = Client (g.owner r); to = Member j; message = Request r })
  pub orders : g.is_faulty 0 ≡ false → Told g (order_at g) (λ k r. to_members g (Member 0) (PrePrepare k r)) (w.got (Member 0)) w.sent
  pub prepares : (i : ℕ) → g.is_faulty i ≡ false → Told g (endorsed g) (λ s r. to_members g (Member i) (Prepare s (g.h r))) (w.got (Member i)) w.sent
  pub commits : (i : ℕ) → g.is_faulty i ≡ false → Told g (prepared g) (λ s r. to_members g (Member i) (Commit s (g.h r))) (w.got (Member i)) w.sent
  pub answered : (i : ℕ) → g.is_faulty i ≡ false → Told g (executed_to g) (λ s xs. answers g i xs) (w.got (Member i)) w.sent

pub to_all : (g : Ring) (from : Party) (m : Message) (j : ℕ) → j < 3 * g.f + 1 → Contains (to_members g from m) (record { from = from; to = Member j; message = m })
to_all g from m j h = there_map (λ j. record { from = from; to = Member j; message = m }) (members g) j (there_range (3 * g.f + 1) 0 j (omega arith) (omega arith))

newly_there : {Y : Type 0} (g : Ring) (before after : ℕ → Option Y) (send : ℕ → Y → List Packet) (s : ℕ) (y : Y) (x : Packet) → 1 ≤ s → s ≤ g.slots
    → before s ≡ None → after s ≡ Some y → Contains (send s y) x → Contains (newly g before after send) x
newly_there {Y} g before after send s y x low high none now c =
    there_flat (λ s. news (before s) (after s) (send s)) (range_with_len 1 g.slots) s x (there_range g.slots 1 s low (omega arith))
    (subst (λ (o : Option Y). Contains (news o (after s) (send s)) x) (sym none) (subst (λ (o : Option Y). Contains (news None o (send s)) x) (sym now) c))

-- one letter more: what was owed was sent, and what is new is among what is sent now
told_more : {Y : Type 0} (g : Ring) (has : List Letter → ℕ → Option Y) (send : ℕ → Y → List Packet) (l : Letter) (older : List Letter) (sent more : List Packet)
    → ((s : ℕ) (y : Y) → has older s ≡ Some y → has (l ∷ older) s ≡ Some y)
    → ((x : Packet) → Contains (newly g (has older) (has (l ∷ older)) send) x → Contains more x)
    → Told g has send older sent → Told g has send (l ∷ older) (sent ++ more)
told_more {Y} g has send l older sent more stays among told s y low high e x c =
    elim (has older s) as (λ (o : Option Y). has older s ≡ o → Contains (sent ++ more) x) [
      | Some z ↦ λ old.
          let same : z ≡ y = same_some z y (sym (stays s z old) ∙ e) in
          Contains-append_left sent more x (told s y low high (old ∙ ap Some same) x c)
      | None ↦ λ none. Contains-append_right sent more x (among x (newly_there g (has older) (has (l ∷ older)) send s y x low high none e c))
    ] refl

-- letters stay, more is sent
told_kept : {Y : Type 0} (g : Ring) (w v : World) (more : List Packet) → v.got ≡ w.got → v.sent ≡ w.sent ++ more
    → (has : List Letter → ℕ → Option Y) (send : ℕ → Y → List Packet) (i : ℕ) → Told g has send (w.got (Member i)) w.sent → Told g has send (v.got (Member i)) v.sent
told_kept {Y} g w v more same sent has send i t =
    subst (λ (got : Party → List Letter). Told g has send (got (Member i)) v.sent) (sym same)
    (λ s y low high e x c. subst (λ xs. Contains xs x) (sym sent) (Contains-append_left w.sent more x (t s y low high e x c)))

complete_more : (g : Ring) (w v : World) (more : List Packet) → IsComplete g w → v.got ≡ w.got → v.sent ≡ w.sent ++ more
    → ((r : List ℕ) → Contains v.submits r → (j : ℕ) → j < 3 * g.f + 1 → Contains v.sent (record { from = Client (g.owner r); to = Member j; message = Request r })) → IsComplete g v
complete_more g w v more full same sent asks =
    record {
      asked = asks;
      orders = λ ok. told_kept g w v more same sent (order_at g) (λ k r. to_members g (Member 0) (PrePrepare k r)) 0 (full.orders ok);
      prepares = λ i ok. told_kept g w v more same sent (endorsed g) (λ s r. to_members g (Member i) (Prepare s (g.h r))) i (full.prepares i ok);
      commits = λ i ok. told_kept g w v more same sent (prepared g) (λ s r. to_members g (Member i) (Commit s (g.h r))) i (full.commits i ok);
      answered = λ i ok. told_kept g w v more same sent (executed_to g) (λ s xs. answers g i xs) i (full.answered i ok);
    }

asked_more : (g : Ring) (w v : World) (more : List Packet) → IsComplete g w → v.submits ≡ w.submits → v.sent ≡ w.sent ++ more
    → (r : List ℕ) → Contains v.submits r → (j : ℕ) → j < 3 * g.f + 1 → Contains v.sent (record { from = Client (g.owner r); to = Member j; message = Request r })
asked_more g w v more full subs sent r c j jn =
    subst (λ xs. Contains xs (record { from = Client (g.owner r); to = Member j; message = Request r })) (sym sent)
    (Contains-append_left w.sent more (record { from = Client (g.owner r); to = Member j; message = Request r }) (full.asked r (subst (λ xs. Contains xs r) subs c) j jn))

-- what a member sends has each kind in it
parts : (g : Ring) (i : ℕ) (older got : List Letter) (x : Packet)
    → (Contains (newly g (endorsed g older) (endorsed g got) (λ s r. to_members g (Member i) (Prepare s (g.h r)))) x → Contains (causes g i older got) x)
    × (Contains (newly g (prepared g older) (prepared g got) (λ s r. to_members g (Member i) (Commit s (g.h r)))) x → Contains (causes g i older got) x)
    × (Contains (newly g (executed_to g older) (executed_to g got) (λ s xs. answers g i xs)) x → Contains (causes g i older got) x)
    × (Contains (cond (i == 0) (newly g (order_at g older) (order_at g got) (λ k r. to_members g (Member i) (PrePrepare k r))) []) x → Contains (causes g i older got) x)
parts g i older got x =
    let A = cond (i == 0) (newly g (order_at g older) (order_at g got) (λ k r. to_members g (Member i) (PrePrepare k r))) [] in
    let B = newly g (endorsed g older) (endorsed g got) (λ s r. to_members g (Member i) (Prepare s (g.h r))) in
    let C = newly g (prepared g older) (prepared g got) (λ s r. to_members g (Member i) (Commit s (g.h r))) in
    let D = newly g (executed_to g older) (executed_to g got) (λ s xs. answers g i xs) in (
      λ c. Contains-append_left (A ++ B ++ C) D x (Contains-append_left (A ++ B) C x (Contains-append_right A B x c)),
      λ c. Contains-append_left (A ++ B ++ C) D x (Contains-append_right (A ++ B) C x c),
      λ c. Contains-append_right (A ++ B ++ C) D x c,
      λ c. Contains-append_left (A ++ B ++ C) D x (Contains-append_left (A ++ B) C x (Contains-append_left A B x c)),
    )

came_complete : (g : Ring) (w : World) (o : Option Packet) → IsComplete g w → IsComplete g (came g w o)
came_complete g w None full = full
came_complete g w (Some x) full =
    record {
      asked = asked_more g w (came g w (Some x)) (sends g x.to (w.got x.to) (l ∷ w.got x.to)) full refl refl;
      orders = λ ok. told 0 ok (order_at g) (λ k r. to_members g (Member 0) (PrePrepare k r)) (order_stays g l (w.got (Member 0))) (λ y c. (parts g 0 (w.got (Member 0)) (l ∷ w.got (Member 0)) y).3 c) (full.orders ok);
      prepares = λ i ok. told i ok (endorsed g) (λ s r. to_members g (Member i) (Prepare s (g.h r))) (endorsed_stays g l (w.got (Member i))) (λ y c. (parts g i (w.got (Member i)) (l ∷ w.got (Member i)) y).0 c) (full.prepares i ok);
      commits = λ i ok. told i ok (prepared g) (λ s r. to_members g (Member i) (Commit s (g.h r))) (prepared_stays g l (w.got (Member i))) (λ y c. (parts g i (w.got (Member i)) (l ∷ w.got (Member i)) y).1 c) (full.commits i ok);
      answered = λ i ok. told i ok (executed_to g) (λ s xs. answers g i xs) (executed_to_stays g l (w.got (Member i))) (λ y c. (parts g i (w.got (Member i)) (l ∷ w.got (Member i)) y).2 c) (full.answered i ok);
    }
  where
    l : Letter
    l = record { from = x.from; message = x.message }

    told : {Y : Type 0} (i : ℕ) → g.is_faulty i ≡ false → (has : List Letter → ℕ → Option Y) (send : ℕ → Y → List Packet)
        → ((s : ℕ) (y : Y) → has (w.got (Member i)) s ≡ Some y → has (l ∷ w.got (Member i)) s ≡ Some y)
        → ((y : Packet) → Contains (newly g (has (w.got (Member i))) (has (l ∷ w.got (Member i))) send) y → Contains (causes g i (w.got (Member i)) (l ∷ w.got (Member i))) y)
        → Told g has send (w.got (Member i)) w.sent
        → Told g has send (cond (same_party x.to (Member i)) (l ∷ w.got (Member i)) (w.got (Member i))) (w.sent ++ sends g x.to (w.got x.to) (l ∷ w.got x.to))
    told {Y} i ok has send stays among t =
        elim (same_party x.to (Member i)) as (λ b. same_party x.to (Member i) ≡ b → Told g has send (cond b (l ∷ w.got (Member i)) (w.got (Member i))) (w.sent ++ sends g x.to (w.got x.to) (l ∷ w.got x.to))) [
          | true ↦ λ same.
              let to : x.to ≡ Member i = same_party_true x.to (Member i) same in
              let mine : sends g x.to (w.got x.to) (l ∷ w.got x.to) ≡ causes g i (w.got (Member i)) (l ∷ w.got (Member i))
              = ap (λ p. sends g p (w.got p) (l ∷ w.got p)) to ∙ ap (λ b. cond b [] (causes g i (w.got (Member i)) (l ∷ w.got (Member i)))) ok in
              told_more g has send l (w.got (Member i)) w.sent (sends g x.to (w.got x.to) (l ∷ w.got x.to)) stays (λ y c. subst (λ ys. Contains ys y) (sym mine) (among y c)) t
          | false ↦ λ _ s y low high e z c. Contains-append_left w.sent (sends g x.to (w.got x.to) (l ∷ w.got x.to)) z (t s y low high e z c)
        ] refl

turned_complete : (g : Ring) (w : World) (i : ℕ) (o : Option Mark) → IsComplete g w → IsComplete g (turned g w i o)
turned_complete g w i None full = full
turned_complete g w i (Some m) full =
    let more = to_clients g (Member i) (Sealed m.object m.version m.name) in
    complete_more g w (turned g w i (Some m)) more full refl refl (asked_more g w (turned g w i (Some m)) more full refl refl)

happens_complete : (g : Ring) (w : World) (e : Event) → IsComplete g w → IsComplete g (happens g w e)
happens_complete g w (Submit r) full =
    complete_more g w (happens g w (Submit r)) (asking g (Some r)) full refl refl
    (λ t c j jn. ⊎_elim
    (λ old. Contains-append_left w.sent (asking g (Some r)) (record { from = Client (g.owner t); to = Member j; message = Request t }) (full.asked t old j jn))
    (λ same. Contains-append_right w.sent (asking g (Some r)) (record { from = Client (g.owner t); to = Member j; message = Request t })
    (subst (λ u. Contains (asking g (Some r)) (record { from = Client (g.owner u); to = Member j; message = Request u })) same (to_all g (Client (g.owner r)) (Request r) j jn)))
    (Contains-push_cases w.submits r t c))
happens_complete g w (Resubmit c n) full =
    let more = asking g (find (λ r. g.owner r == c && g.number r == n) w.submits) in
    complete_more g w (happens g w (Resubmit c n)) more full refl refl (asked_more g w (happens g w (Resubmit c n)) more full refl refl)
happens_complete g w (Deliver p q k) full = came_complete g w (slice_get (between p q w.sent) k) full
happens_complete g w (Forge i q m) full =
    let more = record { from = Member i; to = q; message = m } ∷ [] in
    complete_more g w (happens g w (Forge i q m)) more full refl refl (asked_more g w (happens g w (Forge i q m)) more full refl refl)
happens_complete g w (Archive i) full = turned_complete g w i (slice_get (g.seals (executed g (w.got (Member i)))) (w.archived i)) full

pub all_complete : (g : Ring) (events : List Event) → IsComplete g (world g events)
all_complete g [] =
    record {
      asked = λ r c. absurd (omega (arith, c.1));
      orders = λ ok s r low high e. absurd (none s e);
      prepares = λ i ok s r low high e. absurd (cc e);
      commits = λ i ok s r low high e. absurd (cc e);
      answered = λ i ok s xs low high e. absurd (omega (arith, low, (first_of_parts s (executed g []) xs e).1, ap length (run_none (committed g []) g.slots 1 refl)));
    }
  where
    none : (s : ℕ) {r : List ℕ} → order_at g [] s ≡ Some r → ⊥
    none zero e = cc e
    none (suc s) e = cc e
all_complete g (e ∷ events) = happens_complete g (world g events) e (all_complete g events)
