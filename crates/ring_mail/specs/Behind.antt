-- Messages that come behind others of their link.
use Rattle.std.specs.Prelude.{◌≡◌, ℕ, ◌<◌, true, List, slice_get}
use Rattle.std.specs.BTreeSet.{BTreeSet}
use Rattle.ring_mail.specs.Queues.{is_first}

-- a message of a lower number is the first that waits on the link
abbrev pub IsBehind : List (BTreeSet ℕ) → ℕ → ℕ → Type 0
IsBehind sets link number = (first : ℕ) × (first < number) × (is_first (slice_get sets link) first ≡ true)
