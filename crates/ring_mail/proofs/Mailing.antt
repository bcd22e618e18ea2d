-- The whole mail, as messages come, are delivered and are lost.
use Rattle.std.proofs.Common.{◌≡◌, ℕ, ◌<◌, Bool, true, false, not, ◌&&◌, ◌||◌, ◌==◌, List, [], ◌∷◌, ◌++◌, length, slice_get, get_or, option_map, Option, Some, None, Vec, ⊎_elim, refl, sym, ap, ap₂, ◌∙◌, subst, arith}
use Rattle.std.specs.List.{AllByRecursion as Each}
use Rattle.std.specs.BTreeSet.{BTreeSet}
use Rattle.std.specs.declared.alloc.Global.{Global}
use Rattle.std.proofs.lemmas.Option.{slice_get-map, slice_get_cases, slice_get_past}
use Rattle.ring_model.specs.Messages.{Party as Who, Packet as Sent}
use Rattle.ring_model.specs.World.{between}
use Rattle.ring_mail.specs.declared.kept.Kept.{Kept}
use Rattle.ring_mail.specs.declared.kept.Mail.{Mail}
use Rattle.ring_mail.specs.declared.kept.Note.{Note}
use Rattle.ring_mail.specs.declared.kept.Queue.{Queue}
use Rattle.ring_model.specs.Seats.{IsSeat, is_seat}
use Rattle.ring_mail.specs.Places.{link_of, packet_of}
use Rattle.ring_model.specs.Places.{Place, places, is_done, same_place, delivery}
use Rattle.ring_mail.specs.Queues.{has, waits, is_some_of, IsQueue}
use Rattle.ring_mail.specs.Skips.{has_lost}
use Rattle.ring_mail.specs.Mails.{is_marked, number_of, is_open, IsLink, AreKept, AreWaiting, IsMail}
use Rattle.ring_mail.proofs.Keeping.{link_size, link-low, length-placed, places_more, link_found}
use Rattle.ring_mail.proofs.Passing.{seat_yes}
use Rattle.ring_mail.proofs.Queueing.{none_wait}
use Rattle.ring_mail.proofs.Waiting.{added, taken, absent, placed_apart, done_more}

-- ---- a message is delivered or lost

link_none : (kept : List Kept) (p q : Who) (k : ℕ) (sent : List Sent) (done : List Place) → number_of (slice_get kept k) ≡ None → IsLink kept p q sent done → slice_get (between p q sent) k ≡ None
link_none kept p q k sent done none h =
    sym (ap (λ xs. slice_get xs k) h.messages) ∙ slice_get-map (λ (e : Kept). packet_of p q e.bytes) kept k
    ∙ elim (slice_get kept k) as (λ o. number_of o ≡ None → option_map (λ (e : Kept). packet_of p q e.bytes) o ≡ None) [ None ↦ λ e. refl | Some x ↦ λ e. absurd (cc e) ] none

pub passed : (m : Mail) (n k : ℕ) (d : Vec Kept Global) (v : Vec Kept Global) (p q : Who) (number : Option ℕ) (new lost : List (BTreeSet ℕ)) (sent : List Sent) (done after : List Place)
    → IsSeat p → IsSeat q → n ≡ link_of p q → v ≡ get_or m.links.items n d → number ≡ number_of (slice_get v.items k)
    → ((l i : ℕ) → waits new l i ≡ (waits m.queue.waiting.items l i && not (l == n && is_some_of number i)))
    → ((i : ℕ) (a : Place) → slice_get (places sent) i ≡ Some a
    → (is_done after a || has_lost lost a) ≡ ((is_done done a || has_lost m.lost.items a) || same_place (record { from = p; to = q; place = k }) a))
    → IsMail m sent done → AreWaiting new lost sent after
passed m n k d v p q number new lost sent done after s t at is num gone more h =
    taken (places sent) (record { from = p; to = q; place = k }) (λ a. is_done done a || has_lost m.lost.items a) (λ a. is_done after a || has_lost lost a) n number m.queue.waiting.items new at
    (λ i e. link.numbers k i (sym num ∙ e)) (λ e. absent sent (record { from = p; to = q; place = k }) (link_none v.items p q k sent done (sym num ∙ e) link)) (placed_apart [] sent) more gone h.waiting
  where
    link : IsLink v.items p q sent done
    link = link_found m n v d p q sent done s t at is h

or_swap : (d s l : Bool) → ((d || s) || l) ≡ ((d || l) || s)
or_swap true s l = refl
or_swap false true true = refl
or_swap false true false = refl
or_swap false false true = refl
or_swap false false false = refl

pub or_last : (d l s : Bool) → (d || (l || s)) ≡ ((d || l) || s)
or_last true l s = refl
or_last false l s = refl

pub delivered_more : (lost : List (BTreeSet ℕ)) (sent : List Sent) (done : List Place) (b : Place) (i : ℕ) (a : Place) → slice_get (places sent) i ≡ Some a
    → (is_done (done ++ delivery sent b) a || has_lost lost a) ≡ ((is_done done a || has_lost lost a) || same_place b a)
delivered_more lost sent done b i a e = ap (λ x. x || has_lost lost a) (done_more sent done b i a e) ∙ or_swap (is_done done a) (same_place b a) (has_lost lost a)

-- ---- a message more

-- a place that has no message yet was not delivered
fresh : (m : Mail) (p q : Who) (sent : List Sent) (done : List Place) → IsSeat p → IsSeat q → IsMail m sent done → is_done done (record { from = p; to = q; place = length (between p q sent) }) ≡ false
fresh m p q sent done s t h =
    ⊎_elim
    (λ (x : (v : Vec Kept Global) × (link_of p q < length m.links.items) × (slice_get m.links.items (link_of p q) ≡ Some v) × (get_or m.links.items (link_of p q) v ≡ v)).
    let link = h.kept.links_are p q x.0 s t in
    let size = link_size (get_or m.links.items (link_of p q) x.0).items p q sent done link in
    sym (link.marks (length (between p q sent))) ∙ ap is_marked (slice_get_past (get_or m.links.items (link_of p q) x.0).items (length (between p q sent)) (omega (arith, size))))
    (λ past. let low = link-low p q s t in absurd (omega (arith, low, past.0, h.kept.count)))
    (slice_get_cases m.links.items (link_of p q)).1

-- a message was kept, and waits
pub pushed : (m k w : Mail) (p q : Who) (bytes : List ℕ) (link place number : ℕ) (sent : List Sent) (done : List Place) → IsSeat p → IsSeat q → link ≡ link_of p q → place ≡ length (between p q sent) → number ≡ length sent
    → AreKept k.links.items k.order.items k.front (sent ++ packet_of p q bytes ∷ []) done → k.lost ≡ m.lost → k.queue ≡ m.queue
    → ((l n : ℕ) → waits w.queue.waiting.items l n ≡ (waits k.queue.waiting.items l n || (not (has (slice_get k.lost.items link) place) && (l == link && n == number))))
    → (IsQueue k.queue → IsQueue w.queue) → w.links ≡ k.links → w.order ≡ k.order → w.front ≡ k.front → w.lost ≡ k.lost → IsMail m sent done → IsMail w (sent ++ packet_of p q bytes ∷ []) done
pushed m k w p q bytes link place number sent done s t at here last kept lost queue is heads links order front same h =
    record {
      kept =
          subst (λ (v : Vec (Vec Kept Global) Global). AreKept v.items w.order.items w.front (sent ++ packet_of p q bytes ∷ []) done) (sym links)
          (subst (λ (v : Vec Note Global). AreKept k.links.items v.items w.front (sent ++ packet_of p q bytes ∷ []) done) (sym order)
          (subst (λ f. AreKept k.links.items k.order.items f (sent ++ packet_of p q bytes ∷ []) done) (sym front) kept));
      waiting = waiting;
      heads_are = heads (subst (λ (q : Queue). IsQueue q) (sym queue) h.heads_are);
    }
  where
    b : Place
    b = record { from = p; to = q; place = length (between p q sent) }

    before : (l n : ℕ) → waits k.queue.waiting.items l n ≡ is_open (λ a. is_done done a || has_lost m.lost.items a) l (slice_get (places sent) n)
    before l n = ap (λ (q : Queue). waits q.waiting.items l n) queue ∙ h.waiting l n

    gone : has (slice_get k.lost.items link) place ≡ (is_done done b || has_lost m.lost.items b)
    gone =
        ap₂ (λ (v : Vec (BTreeSet ℕ) Global) l. has (slice_get v.items l) place) lost at ∙ ap (has (slice_get m.lost.items (link_of p q))) here
        ∙ sym (ap (λ x. x || has_lost m.lost.items b) (fresh m p q sent done s t h) ∙ ap₂ (λ x y. (x && y) && has (slice_get m.lost.items (link_of p q)) (length (between p q sent))) (seat_yes p s) (seat_yes q t))

    more : (l n : ℕ) → waits w.queue.waiting.items l n ≡ is_open (λ a. is_done done a || has_lost m.lost.items a) l (slice_get (places sent ++ b ∷ []) n)
    more l n =
        added (places sent) b (λ a. is_done done a || has_lost m.lost.items a) link number k.queue.waiting.items w.queue.waiting.items at (last ∙ sym (length-placed [] sent))
        (λ l n. is l n ∙ ap (λ x. waits k.queue.waiting.items l n || (not x && (l == link && n == number))) gone) before l n

    waiting : AreWaiting w.queue.waiting.items w.lost.items (sent ++ packet_of p q bytes ∷ []) done
    waiting l n =
        more l n
        ∙ ap (λ ps. is_open (λ a. is_done done a || has_lost m.lost.items a) l (slice_get ps n)) (sym (places_more sent (packet_of p q bytes)))
        ∙ ap (λ (v : Vec (BTreeSet ℕ) Global). is_open (λ a. is_done done a || has_lost v.items a) l (slice_get (places (sent ++ packet_of p q bytes ∷ [])) n)) (sym (same ∙ lost))

-- ---- the beginning

pub none_lost : (lost : List (BTreeSet ℕ)) (a : Place) → Each (λ (one : BTreeSet ℕ). one.keys ≡ []) lost → has_lost lost a ≡ false
none_lost lost a h = ap (λ x. (is_seat a.from && is_seat a.to) && x) (none_wait lost (link_of a.from a.to) a.place h) ∙ and_no (is_seat a.from && is_seat a.to)
  where
    and_no : (b : Bool) → (b && false) ≡ false
    and_no true = refl
    and_no false = refl
