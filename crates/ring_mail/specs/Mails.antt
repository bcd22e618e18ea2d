-- What was sent and delivered, as it is kept by links.
use Rattle.std.specs.Prelude.{◌≡◌, ℕ, ◌==◌, ◌&&◌, ◌||◌, not, Bool, true, false, List, length, option_map, map, take, slice_get, slice_index_or, Vec, Option, Some, None}
use Rattle.std.specs.List.{AllByRecursion}
use Rattle.std.specs.BTreeSet.{BTreeSet}
use Rattle.std.specs.declared.alloc.Global.{Global}
use Rattle.ring_model.specs.Messages.{Party, Packet}
use Rattle.ring_model.specs.World.{between}
use Rattle.ring_model.specs.Seats.{IsSeat}
use Rattle.ring_mail.specs.declared.kept.Kept.{Kept}
use Rattle.ring_mail.specs.declared.kept.Mail.{Mail}
use Rattle.ring_mail.specs.declared.kept.Note.{Note}
use Rattle.ring_mail.specs.Places.{link_of, place_of, packet_of}
use Rattle.ring_model.specs.Places.{Place, places, is_done}
use Rattle.ring_mail.specs.Queues.{waits, AreHeads}
use Rattle.ring_mail.specs.Skips.{has_lost}

-- whether there is a message, and it was delivered
abbrev pub is_marked : Option Kept → Bool
is_marked None = false
is_marked (Some e) = e.delivered

-- the number of a message, if there is one
abbrev pub number_of : Option Kept → Option ℕ
number_of o = option_map (λ e. e.number) o

-- the messages of a link are those that were sent on it, each with whether it was delivered, and with its number
pub record IsLink (kept : List Kept) (p q : Party) (sent : List Packet) (done : List Place) : Type 0 where
  pub messages : map (λ e. packet_of p q e.bytes) kept ≡ between p q sent
  pub marks : (k : ℕ) → is_marked (slice_get kept k) ≡ is_done done (record { from = p; to = q; place = k })
  pub numbers : (k n : ℕ) → number_of (slice_get kept k) ≡ Some n → slice_get (places sent) n ≡ Some (record { from = p; to = q; place = k })

-- each link has its messages, the notes are the places of all messages, and the first ones of them were delivered
pub record AreKept (links : List (Vec Kept Global)) (order : List Note) (front : ℕ) (sent : List Packet) (done : List Place) : Type 0 where
  pub count : length links ≡ 676
  pub links_are : (p q : Party) (d : Vec Kept Global) → IsSeat p → IsSeat q → IsLink (slice_index_or links (link_of p q) d).items p q sent done
  pub order_is : map place_of order ≡ places sent
  pub seats : AllByRecursion (λ x. IsSeat x.from × IsSeat x.to) sent
  pub front_done : AllByRecursion (λ a. is_done done a ≡ true) (take front (places sent))

-- whether there is a place, and it is on this link and not passed
abbrev pub is_open : (Place → Bool) → ℕ → Option Place → Bool
is_open passed link None = false
is_open passed link (Some a) = link_of a.from a.to == link && not (passed a)

-- a message waits on its link until it was delivered or lost
abbrev pub AreWaiting : List (BTreeSet ℕ) → List (BTreeSet ℕ) → List Packet → List Place → Type 0
AreWaiting sets lost sent done = (link n : ℕ) → waits sets link n ≡ is_open (λ a. is_done done a || has_lost lost a) link (slice_get (places sent) n)

-- what was sent is kept, and what waits has its heads
pub record IsKept (links : List (Vec Kept Global)) (order : List Note) (front : ℕ) (lost sets : List (BTreeSet ℕ)) (heads : BTreeSet ℕ) (muted : List Bool) (sent : List Packet) (done : List Place) : Type 0 where
  pub kept : AreKept links order front sent done
  pub waiting : AreWaiting sets lost sent done
  pub heads_are : AreHeads sets heads muted

-- These messages were sent, and these places were delivered.
abbrev pub IsMail : Mail → List Packet → List Place → Type 0
IsMail m sent done = IsKept m.links.items m.order.items m.front m.lost.items m.queue.waiting.items m.queue.heads m.queue.muted.items sent done
