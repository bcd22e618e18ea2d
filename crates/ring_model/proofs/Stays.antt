-- What is owed stays owed as letters come.
use Rattle.std.proofs.Common.{◌≡◌, ℕ, zero, suc, ◌+◌, ◌*◌, nat_le, List, [], ◌∷◌, ◌++◌, length, take, slice_get, Some, sym, ap, ◌∙◌, subst, arith, length-append}
use Rattle.std.specs.List.{list_any}
use Rattle.std.proofs.lemmas.List.{take-append-le}
use Rattle.std.proofs.lemmas.Bool.{or_right}
use Rattle.ring_model.specs.Messages.{Ring, Letter, Message, Request, PrePrepare, Prepare, Commit, Reply, Heart, Sealed, Foreign, Mark, Party, Member}
use Rattle.ring_model.specs.History.{said_by, first_word, voters}
use Rattle.ring_model.specs.Member.{asks, pre_prepares, prepares, commits, endorsed, prepared, committed, executed, first_of, executed_to, orders, ordered_by, order_at}
use Rattle.ring_model.specs.Laws.{IsPrefix, Owes}
use Rattle.ring_model.proofs.History.{said_stays, passing_stays, voters_grow, enough_grows, run_grows, first_of_parts, first_of_from}

pub endorsed_stays : (g : Ring) (l : Letter) (older : List Letter) (s : ℕ) (r : List ℕ) → endorsed g older s ≡ Some r → endorsed g (l ∷ older) s ≡ Some r
endorsed_stays g l older s r e =
    passing_stays (λ t. list_any (asks g t) older) (λ t. list_any (asks g t) (l ∷ older)) (first_word (Member 0) (pre_prepares s) older) (first_word (Member 0) (pre_prepares s) (l ∷ older)) r
    (said_stays (said_by (Member 0) (pre_prepares s)) l older r)
    (or_right (asks g r l) (list_any (asks g r) older)) e

pub prepared_stays : (g : Ring) (l : Letter) (older : List Letter) (s : ℕ) (r : List ℕ) → prepared g older s ≡ Some r → prepared g (l ∷ older) s ≡ Some r
prepared_stays g l older s r e =
    passing_stays (λ t. nat_le (2 * g.f + 1) (voters g (prepares s) (g.h t) older)) (λ t. nat_le (2 * g.f + 1) (voters g (prepares s) (g.h t) (l ∷ older))) (endorsed g older s) (endorsed g (l ∷ older) s) r
    (endorsed_stays g l older s r)
    (enough_grows (2 * g.f + 1) (voters g (prepares s) (g.h r) older) (voters g (prepares s) (g.h r) (l ∷ older)) (voters_grow g (prepares s) (g.h r) l older)) e

pub committed_stays : (g : Ring) (l : Letter) (older : List Letter) (s : ℕ) (r : List ℕ) → committed g older s ≡ Some r → committed g (l ∷ older) s ≡ Some r
committed_stays g l older s r e =
    passing_stays (λ t. nat_le (2 * g.f + 1) (voters g (commits s) (g.h t) older)) (λ t. nat_le (2 * g.f + 1) (voters g (commits s) (g.h t) (l ∷ older))) (prepared g older s) (prepared g (l ∷ older) s) r
    (prepared_stays g l older s r)
    (enough_grows (2 * g.f + 1) (voters g (commits s) (g.h r) older) (voters g (commits s) (g.h r) (l ∷ older)) (voters_grow g (commits s) (g.h r) l older)) e

pub executed_grows : (g : Ring) (l : Letter) (older : List Letter) → IsPrefix (executed g older) (executed g (l ∷ older))
executed_grows g l older = run_grows (committed g older) (committed g (l ∷ older)) (committed_stays g l older) g.slots 1

pub at_stays : {Y : Type 0} (xs ys : List Y) (k : ℕ) (y : Y) → slice_get xs k ≡ Some y → slice_get (xs ++ ys) k ≡ Some y
at_stays [] ys k y e = absurd (cc e)
at_stays (x ∷ xs) ys zero y e = e
at_stays (x ∷ xs) ys (suc k) y e = at_stays xs ys k y e

pub order_stays : (g : Ring) (l : Letter) (older : List Letter) (k : ℕ) (r : List ℕ) → order_at g older k ≡ Some r → order_at g (l ∷ older) k ≡ Some r
order_stays g l older zero r e = absurd (cc e)
order_stays g l older (suc k) r e = at_stays (orders g older) (ordered_by g (l ∷ older) (orders g older) l.from l.message) k r e

-- a prefix cut at a place within it
taken_stays : {Y : Type 0} (s : ℕ) (xs ys zs : List Y) → IsPrefix xs ys → first_of s xs ≡ Some zs → first_of s ys ≡ Some zs
taken_stays s xs ys zs h e =
    let p = first_of_parts s xs zs e in
    first_of_from s ys p.0 (omega (arith, length-append xs h.0, ap length h.1, p.1)) ∙ ap Some (ap (take s) (sym h.1) ∙ take-append-le s xs h.0 p.1 ∙ p.2)

pub executed_to_stays : (g : Ring) (l : Letter) (older : List Letter) (s : ℕ) (xs : List (List ℕ)) → executed_to g older s ≡ Some xs → executed_to g (l ∷ older) s ≡ Some xs
executed_to_stays g l older s xs e = taken_stays s (executed g older) (executed g (l ∷ older)) xs (executed_grows g l older) e

seal_stays : (g : Ring) (xs ys : List (List ℕ)) (k : ℕ) (m : Mark) → IsPrefix xs ys → slice_get (g.seals xs) k ≡ Some m → slice_get (g.seals ys) k ≡ Some m
seal_stays g xs ys k m h e =
    let more = g.seals_stay xs h.0 in
    subst (λ zs. slice_get (g.seals zs) k ≡ Some m) h.1 (subst (λ us. slice_get us k ≡ Some m) more.1 (at_stays (g.seals xs) more.0 k m e))

pub Owes-stays : (g : Ring) (i : ℕ) (l : Letter) (older : List Letter) (to : Party) (m : Message) → Owes g i older to m → Owes g i (l ∷ older) to m
Owes-stays g i l older to (Request r) h = h
Owes-stays g i l older to (PrePrepare k r) h = (h.0, order_stays g l older k r h.1)
Owes-stays g i l older to (Prepare s d) h = (h.0, endorsed_stays g l older s h.0 h.1, h.2)
Owes-stays g i l older to (Commit s d) h = (h.0, prepared_stays g l older s h.0 h.1, h.2)
Owes-stays g i l older to (Reply n o) h = (h.0, h.1, h.2, executed_to_stays g l older h.0 h.1 h.3, h.4, h.5, h.6, h.7)
Owes-stays g i l older to (Heart o v n) h = (h.0, h.1, executed_to_stays g l older h.0 h.1 h.2, h.3)
Owes-stays g i l older to (Sealed o v n) h = (h.0, seal_stays g (executed g older) (executed g (l ∷ older)) h.0 (record { object = o; version = v; name = n }) (executed_grows g l older) h.1)
Owes-stays g i l older to Foreign h = h
