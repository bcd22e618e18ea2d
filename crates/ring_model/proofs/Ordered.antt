-- What clients submit, and in which order member 0 takes it.
use Rattle.std.proofs.Common.{◌≡◌, ℕ, ◌+◌, ◌-◌, ◌<◌, ◌≤◌, Bool, true, false, cond, ◌&&◌, ◌==◌, List, [], ◌∷◌, ◌++◌, length, slice_get, filter, count_by, Contains, Option, Some, None, ◌⊎◌, inl, inr, ⊎_elim, refl, sym, ap, ap₂, ◌∙◌, subst, subst₂, arith, append-nil}
use Rattle.std.specs.List.{AllByRecursion as Each}
use Rattle.std.specs.Option.{option_or}
use Rattle.std.proofs.lemmas.Bool.{eqb-true, eq-eqb, ne_eqb, cases_eq, and_parts, cases_lt}
use Rattle.std.proofs.lemmas.List.{length_push}
use Rattle.std.proofs.lemmas.List.Sums.{sum_by_push, length-filter}
use Rattle.std.proofs.lemmas.List.Elements.{Contains-append_left, Contains-push, Contains-push_cases, filter-append}
use Rattle.ring_model.specs.Messages.{Ring, Letter, Packet, Message, Request, Mark, Party, Member, Client, same_party}
use Rattle.ring_model.specs.History.{said_by, first_word, run_of}
use Rattle.ring_model.specs.Member.{numbered, chain, ordered_by, orders, executed}
use Rattle.ring_model.specs.World.{World, Event, Submit, Resubmit, Deliver, Forge, Archive, between, came, turned, happens, world, MayHappen, IsLegal}
use Rattle.ring_model.specs.Laws.{IsPrefix}
use Rattle.ring_model.proofs.History.{same_some, said_holds, said_stays, run_grows, run_holds, Each-append}
use Rattle.ring_model.proofs.Agreement.{said_by_parts}
use Rattle.ring_model.proofs.Lists.{there_none, run_split, run_same, run_none, run_at, filter_twice}

abbrev pub of_client : Ring → ℕ → List ℕ → Bool
of_client g c t = g.owner t == c

-- ---- the submits of a client are numbered 1, 2, and so on

pub record IsNumbered (g : Ring) (submits : List (List ℕ)) : Type 0 where
  pub few : length submits ≤ g.slots
  pub owners : Each (λ r. g.owner r < g.clients) submits
  pub number : (r : List ℕ) → Contains submits r → (1 ≤ g.number r) × (g.number r ≤ count_by (of_client g (g.owner r)) submits)
  pub each : (c m : ℕ) → 1 ≤ m → m ≤ count_by (of_client g c) submits → (t : List ℕ) × Contains submits t × (g.owner t ≡ c) × (g.number t ≡ m)
  pub unique : (r t : List ℕ) → Contains submits r → Contains submits t → g.owner r ≡ g.owner t → g.number r ≡ g.number t → r ≡ t

count_push : (g : Ring) (c : ℕ) (xs : List (List ℕ)) (r : List ℕ) → count_by (of_client g c) (xs ++ r ∷ []) ≡ count_by (of_client g c) xs + cond (g.owner r == c) 1 0
count_push g c xs r = sum_by_push (λ t. cond (g.owner t == c) 1 0) xs r

mine : (k c : ℕ) → k ≡ c → ◌≡◌ {A = ℕ} (cond (k == c) 1 0) 1
mine k c e = ap {B = ℕ} (λ b. cond b 1 0) (eq-eqb k c e)

yours : (k c : ℕ) → (k ≡ c → ⊥) → ◌≡◌ {A = ℕ} (cond (k == c) 1 0) 0
yours k c e = ap {B = ℕ} (λ b. cond b 1 0) (ne_eqb k c e)

one_more_submit : (g : Ring) (xs : List (List ℕ)) (r : List ℕ) → IsNumbered g xs → length xs < g.slots → g.owner r < g.clients → g.number r ≡ count_by (of_client g (g.owner r)) xs + 1 → IsNumbered g (xs ++ r ∷ [])
one_more_submit g xs r old room owner next =
    record {
      few = omega (arith, length_push xs r, room);
      owners = Each-append (λ r. g.owner r < g.clients) xs (r ∷ []) old.owners (owner, tt);
      number = λ t c. ⊎_elim
          (λ was. let h = old.number t was in (h.0, omega (arith, h.1, count_push g (g.owner t) xs r)))
          (λ same. subst (λ t. (1 ≤ g.number t) × (g.number t ≤ count_by (of_client g (g.owner t)) (xs ++ r ∷ []))) same
          (omega (arith, next), omega (arith, next, count_push g (g.owner r) xs r, mine (g.owner r) (g.owner r) refl)))
          (Contains-push_cases xs r t c);
      each = λ c m low high. pick c m low high (cases_eq (g.owner r) c);
      unique = λ a b ca cb o n. ⊎_elim
          (λ wasa. ⊎_elim
          (λ wasb. old.unique a b wasa wasb o n)
          (λ isb. absurd (late a wasa (o ∙ ap g.owner (sym isb)) (n ∙ ap g.number (sym isb))))
          (Contains-push_cases xs r b cb))
          (λ isa. ⊎_elim
          (λ wasb. absurd (late b wasb (sym o ∙ ap g.owner (sym isa)) (sym n ∙ ap g.number (sym isa))))
          (λ isb. sym isa ∙ isb)
          (Contains-push_cases xs r b cb))
          (Contains-push_cases xs r a ca);
    }
  where
    late : (t : List ℕ) → Contains xs t → g.owner t ≡ g.owner r → g.number t ≡ g.number r → ⊥
    late t c o n = let h = (old.number t c).1 in let same = ap (λ k. count_by (of_client g k) xs) o in omega (arith, h, same, n, next)

    pick : (c m : ℕ) → 1 ≤ m → m ≤ count_by (of_client g c) (xs ++ r ∷ []) → (g.owner r ≡ c) ⊎ (g.owner r ≡ c → ⊥) → (t : List ℕ) × Contains (xs ++ r ∷ []) t × (g.owner t ≡ c) × (g.number t ≡ m)
    pick c m low high (inr apart) =
        let t = old.each c m low (omega (arith, high, count_push g c xs r, yours (g.owner r) c apart)) in
        (t.0, Contains-append_left xs (r ∷ []) t.0 t.1, t.2, t.3)
    pick c m low high (inl same) =
        ⊎_elim
        (λ e. (r, Contains-push xs r, same, next ∙ ap (λ k. count_by (of_client g k) xs + 1) same ∙ sym e))
        (λ other. let t = old.each c m low (omega (arith, high, count_push g c xs r, mine (g.owner r) c same, other)) in (t.0, Contains-append_left xs (r ∷ []) t.0 t.1, t.2, t.3))
        (cases_eq m (count_by (of_client g c) xs + 1))

came_submits : (g : Ring) (w : World) (o : Option Packet) → (came g w o).submits ≡ w.submits
came_submits g w None = refl
came_submits g w (Some x) = refl

turned_submits : (g : Ring) (w : World) (i : ℕ) (o : Option Mark) → (turned g w i o).submits ≡ w.submits
turned_submits g w i None = refl
turned_submits g w i (Some m) = refl

pub all_numbered : (g : Ring) (events : List Event) → IsLegal g events → IsNumbered g (world g events).submits
all_numbered g [] legal = record { few = omega arith; owners = tt; number = λ r c. absurd (there_none r c); each = λ c m low high. absurd (omega arith); unique = λ r t c. absurd (there_none r c) }
all_numbered g (e ∷ events) legal = step e legal.0 (all_numbered g events legal.1)
  where
    w : World
    w = world g events

    step : (e : Event) → MayHappen g (world g events) e → IsNumbered g (world g events).submits → IsNumbered g (happens g (world g events) e).submits
    step (Submit r) may old = one_more_submit g (world g events).submits r old may.0 may.1 may.2
    step (Resubmit c n) may old = old
    step (Deliver p q k) may old = subst (IsNumbered g) (sym (came_submits g (world g events) (slice_get (between p q (world g events).sent) k))) old
    step (Forge i q m) may old = old
    step (Archive i) may old = subst (IsNumbered g) (sym (turned_submits g (world g events) i (slice_get (g.seals (executed g ((world g events).got (Member i)))) ((world g events).archived i)))) old

-- ---- the orders of one client

abbrev pub from_client : Ring → ℕ → List Letter → ℕ → Option (List ℕ)
from_client g c got n = first_word (Client c) (numbered g c n) got

pub numbered_is : (g : Ring) (c n : ℕ) (m : Message) (r : List ℕ) → numbered g c n m ≡ Some r → (m ≡ Request r) × (g.owner r ≡ c) × (g.number r ≡ n)
numbered_is g c n (Request t) r e =
    elim (g.owner t == c && g.number t == n) as (λ b. (g.owner t == c && g.number t == n) ≡ b → cond b (Some t) None ≡ Some r → (Request t ≡ Request r) × (g.owner r ≡ c) × (g.number r ≡ n)) [
      | true ↦ λ yes now.
          let parts = and_parts (g.owner t == c) (g.number t == n) yes in
          let same = same_some t r now in
          (ap Request same, ap g.owner (sym same) ∙ eqb-true (g.owner t) c parts.0, ap g.number (sym same) ∙ eqb-true (g.number t) n parts.1)
      | false ↦ λ _ now. absurd (cc now)
    ] refl e
numbered_is g c n _ r e = absurd (cc e)

or_cond : {Y : Type 0} (o : Option Y) (b : Bool) (x : Option Y) → (b ≡ true → x ≡ None) → option_or o (cond b x None) ≡ o
or_cond None true x f = f refl
or_cond (Some y) true x f = refl
or_cond None false x f = refl
or_cond (Some y) false x f = refl

-- a letter that is no request of the client from itself changes nothing of it
deaf : (g : Ring) (c : ℕ) (l : Letter) (older : List Letter) → (same_party l.from (Client c) ≡ true → (n : ℕ) → numbered g c n l.message ≡ None) → (n : ℕ) → from_client g c (l ∷ older) n ≡ from_client g c older n
deaf g c l older f n = or_cond (from_client g c older n) (same_party l.from (Client c)) (numbered g c n l.message) (λ e. f e n)

filter_all : {X : Type 0} (t : X → Bool) (xs : List X) → Each (λ x. t x ≡ true) xs → filter t xs ≡ xs
filter_all t [] h = refl
filter_all t (x ∷ xs) h = ap (λ b. cond b (x ∷ filter t xs) (filter t xs)) h.0 ∙ ap (λ ys. x ∷ ys) (filter_all t xs h.1)

filter_none : {X : Type 0} (t : X → Bool) (xs : List X) → Each (λ x. t x ≡ false) xs → filter t xs ≡ []
filter_none t [] h = refl
filter_none t (x ∷ xs) h = ap (λ b. cond b (x ∷ filter t xs) (filter t xs)) h.0 ∙ filter_none t xs h.1

any_letter : (xs : List Letter) → Each (λ l. Unit {0}) xs
any_letter [] = tt
any_letter (x ∷ xs) = (tt, any_letter xs)

-- what a client's word of a number is
pub from_is : (g : Ring) (c n : ℕ) (got : List Letter) (r : List ℕ) → from_client g c got n ≡ Some r → (g.owner r ≡ c) × (g.number r ≡ n)
from_is g c n got r e =
    said_holds (said_by (Client c) (numbered g c n)) (λ l. Unit {0}) (λ r. (g.owner r ≡ c) × (g.number r ≡ n))
    (λ l y _ says. let parts = said_by_parts (Client c) (numbered g c n) l y says in let is = numbered_is g c n l.message y parts.1 in (is.1, is.2)) got r (any_letter got) e

pub client_orders : (g : Ring) (c : ℕ) (got : List Letter) → filter (of_client g c) (orders g got) ≡ run_of (from_client g c got) g.slots 1
client_orders g c [] = sym (run_none (from_client g c []) g.slots 1 refl)
client_orders g c (l ∷ older) =
    filter-append (of_client g c) (orders g older) (ordered_by g (l ∷ older) (orders g older) l.from l.message)
    ∙ ap (λ xs. xs ++ filter (of_client g c) (ordered_by g (l ∷ older) (orders g older) l.from l.message)) (client_orders g c older)
    ∙ grow l.from l.message refl refl (client_orders g c older)
  where
    R : List Letter → List (List ℕ)
    R got = run_of (from_client g c got) g.slots 1

    still : (p : Party) (m : Message) → l.from ≡ p → l.message ≡ m → ordered_by g (l ∷ older) (orders g older) p m ≡ [] → (same_party p (Client c) ≡ true → (n : ℕ) → numbered g c n m ≡ None)
        → run_of (from_client g c older) g.slots 1 ++ filter (of_client g c) (ordered_by g (l ∷ older) (orders g older) p m) ≡ run_of (from_client g c (l ∷ older)) g.slots 1
    still p m ep em none quiet =
        ap (λ ys. run_of (from_client g c older) g.slots 1 ++ filter (of_client g c) ys) none ∙ append-nil (run_of (from_client g c older) g.slots 1)
        ∙ run_same (from_client g c older) (from_client g c (l ∷ older)) (λ n. sym (deaf g c l older (subst₂ (λ f x. same_party f (Client c) ≡ true → (n : ℕ) → numbered g c n x ≡ None) (sym ep) (sym em) quiet) n)) g.slots 1

    grow : (p : Party) (m : Message) → l.from ≡ p → l.message ≡ m → filter (of_client g c) (orders g older) ≡ run_of (from_client g c older) g.slots 1
        → run_of (from_client g c older) g.slots 1 ++ filter (of_client g c) (ordered_by g (l ∷ older) (orders g older) p m) ≡ run_of (from_client g c (l ∷ older)) g.slots 1
    grow (Member i) m ep em ih = still (Member i) m ep em refl (λ e. absurd (cc e))
    grow (Client d) (Request r) ep em ih = ⊎_elim own strange (cases_eq (g.owner r) d)
      where
        goal : Type 0
        goal = run_of (from_client g c older) g.slots 1 ++ filter (of_client g c) (ordered_by g (l ∷ older) (orders g older) (Client d) (Request r)) ≡ run_of (from_client g c (l ∷ older)) g.slots 1

        strange : (g.owner r ≡ d → ⊥) → run_of (from_client g c older) g.slots 1 ++ filter (of_client g c) (ordered_by g (l ∷ older) (orders g older) (Client d) (Request r)) ≡ run_of (from_client g c (l ∷ older)) g.slots 1
        strange apart = still (Client d) (Request r) ep em (ap (λ b. cond b (chain g d (l ∷ older) (count_by (λ t. g.owner t == d) (orders g older))) []) (ne_eqb (g.owner r) d apart))
            (λ same n. let here = eqb-true d c same in ap (λ b. cond (b && g.number r == n) (Some r) None) (ne_eqb (g.owner r) c (λ e. apart (e ∙ sym here))))

        own : g.owner r ≡ d → run_of (from_client g c older) g.slots 1 ++ filter (of_client g c) (ordered_by g (l ∷ older) (orders g older) (Client d) (Request r)) ≡ run_of (from_client g c (l ∷ older)) g.slots 1
        own is =
            let new : ordered_by g (l ∷ older) (orders g older) (Client d) (Request r) ≡ chain g d (l ∷ older) (count_by (λ t. g.owner t == d) (orders g older))
            = ap (λ b. cond b (chain g d (l ∷ older) (count_by (λ t. g.owner t == d) (orders g older))) []) (eq-eqb (g.owner r) d is) in
            ap (λ ys. run_of (from_client g c older) g.slots 1 ++ filter (of_client g c) ys) new
            ∙ ⊎_elim
            (λ same.
            let count : count_by (λ t. g.owner t == d) (orders g older) ≡ length (run_of (from_client g c older) g.slots 1)
            = ap (λ k. count_by (λ t. g.owner t == k) (orders g older)) same ∙ sym (length-filter (of_client g c) (orders g older)) ∙ ap length ih in
            let prefix : IsPrefix (run_of (from_client g c older) g.slots 1) (run_of (from_client g c (l ∷ older)) g.slots 1)
            = run_grows (from_client g c older) (from_client g c (l ∷ older)) (λ n y e. said_stays (said_by (Client c) (numbered g c n)) l older y e) g.slots 1 in
            ap (λ ys. run_of (from_client g c older) g.slots 1 ++ ys)
            (filter_all (of_client g c) (chain g d (l ∷ older) (count_by (λ t. g.owner t == d) (orders g older)))
            (run_holds (from_client g d (l ∷ older)) (λ t. of_client g c t ≡ true) (λ n y e. eq-eqb (g.owner y) c ((from_is g d n (l ∷ older) y e).0 ∙ same)) (g.slots - count_by (λ t. g.owner t == d) (orders g older)) (1 + count_by (λ t. g.owner t == d) (orders g older)))
            ∙ ap₂ (λ k n. run_of (from_client g k (l ∷ older)) (g.slots - n) (1 + n)) same count)
            ∙ sym (run_split (from_client g c (l ∷ older)) (run_of (from_client g c older) g.slots 1) g.slots 1 prefix))
            (λ apart.
            ap (λ ys. run_of (from_client g c older) g.slots 1 ++ ys)
            (filter_none (of_client g c) (chain g d (l ∷ older) (count_by (λ t. g.owner t == d) (orders g older)))
            (run_holds (from_client g d (l ∷ older)) (λ t. of_client g c t ≡ false) (λ n y e. ne_eqb (g.owner y) c (λ k. apart (sym (from_is g d n (l ∷ older) y e).0 ∙ k))) (g.slots - count_by (λ t. g.owner t == d) (orders g older)) (1 + count_by (λ t. g.owner t == d) (orders g older))))
            ∙ append-nil (run_of (from_client g c older) g.slots 1)
            ∙ run_same (from_client g c older) (from_client g c (l ∷ older))
            (λ n. sym (deaf g c l older (λ e k. absurd (apart (eqb-true d c (subst (λ p. same_party p (Client c) ≡ true) ep e)))) n)) g.slots 1)
            (cases_eq d c)
    grow (Client d) m ep em ih = still (Client d) m ep em refl (λ _ n. refl)

-- no request is ordered twice
pub orders_once : (g : Ring) (got : List Letter) (a b : ℕ) (r : List ℕ) → slice_get (orders g got) a ≡ Some r → slice_get (orders g got) b ≡ Some r → a ≡ b
orders_once g got a b r ea eb =
    ⊎_elim (λ h. absurd (never a b h ea eb)) (λ above. ⊎_elim (λ h. absurd (never b a h eb ea)) (λ below. omega arith) (cases_lt b a)) (cases_lt a b)
  where
    place : (k : ℕ) → slice_get (filter (of_client g (g.owner r)) (orders g got)) k ≡ Some r → g.number r ≡ 1 + k
    place k e = (from_is g (g.owner r) (1 + k) got r (run_at (from_client g (g.owner r) got) g.slots 1 k r (subst (λ xs. slice_get xs k ≡ Some r) (client_orders g (g.owner r) got) e))).1

    never : (i j : ℕ) → i < j → slice_get (orders g got) i ≡ Some r → slice_get (orders g got) j ≡ Some r → ⊥
    never i j h ei ej =
        let t = filter_twice (of_client g (g.owner r)) (orders g got) i j r h ei ej (eq-eqb (g.owner r) (g.owner r) refl) in
        omega (arith, t.2, place t.0 t.3, place t.1 t.4)
