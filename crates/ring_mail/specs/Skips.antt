-- What is passed over.
use Rattle.std.specs.Prelude.{ℕ, Bool, false, ◌&&◌, ◌||◌, List, slice_get, slice_index_or}
use Rattle.std.specs.BTreeSet.{BTreeSet}
use Rattle.ring_model.specs.Messages.{Party}
use Rattle.ring_mail.specs.declared.kept.Mail.{Mail}
use Rattle.ring_mail.specs.Places.{seat, link_of}
use Rattle.ring_model.specs.Places.{Place}
use Rattle.ring_mail.specs.Queues.{has}
use Rattle.ring_model.specs.Seats.{is_seat}

-- which parties are muted, and which messages were lost
pub record Skips : Type 0 where
  pub muted : Party → Bool
  pub lost : Place → Bool

-- messages from and to a muted party, and the lost ones
abbrev pub is_skipped : Skips → Place → Bool
is_skipped skips a = skips.muted a.from || skips.muted a.to || skips.lost a

-- whether the seat of a party is muted
abbrev pub has_muted : List Bool → Party → Bool
has_muted muted p = is_seat p && slice_index_or muted (seat p) false

-- whether a place is among the lost ones of its link
abbrev pub has_lost : List (BTreeSet ℕ) → Place → Bool
has_lost lost a = is_seat a.from && is_seat a.to && has (slice_get lost (link_of a.from a.to)) a.place

-- what a mail passes over
abbrev pub skips : Mail → Skips
skips m = record { muted = has_muted m.queue.muted.items; lost = has_lost m.lost.items }
