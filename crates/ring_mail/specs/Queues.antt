-- The messages that wait, and the first of each link.
use Rattle.std.specs.Prelude.{◌≡◌, ℕ, ◌/◌, ◌%◌, Bool, false, ◌==◌, ◌&&◌, ◌||◌, not, List, slice_get, slice_index_or, Option, Some, None}
use Rattle.std.specs.BTreeSet.{BTreeSet, contains, IsOrdered}
use Rattle.std.specs.Ordering.{nat_cmp}
use Rattle.ring_mail.specs.declared.kept.Queue.{Queue}

-- whether there is a set, and it has the number
abbrev pub has : Option (BTreeSet ℕ) → ℕ → Bool
has None n = false
has (Some set) n = contains nat_cmp set n

-- whether the message of this number waits on a link
abbrev pub waits : List (BTreeSet ℕ) → ℕ → ℕ → Bool
waits sets link number = has (slice_get sets link) number

-- whether the sender's or the receiver's seat of a link is muted
abbrev pub is_quiet : List Bool → ℕ → Bool
is_quiet muted link = slice_index_or muted (link / 26) false || slice_index_or muted (link % 26) false

abbrev pub is_some_of : Option ℕ → ℕ → Bool
is_some_of None n = false
is_some_of (Some k) n = k == n

-- whether there is a set, and the number is its first
abbrev pub is_first : Option (BTreeSet ℕ) → ℕ → Bool
is_first None n = false
is_first (Some set) n = is_some_of (slice_get set.keys 0) n

-- whether these are a link and the number of the first message that waits on it
abbrev pub is_lead : List (BTreeSet ℕ) → ℕ → ℕ → Bool
is_lead sets link head = head % 676 == link && is_first (slice_get sets link) (head / 676)

-- there is no set, or its numbers rise
abbrev pub Rises : Option (BTreeSet ℕ) → Type 0
Rises None = Unit {0}
Rises (Some set) = IsOrdered nat_cmp set

-- the heads are the first messages of the links that no muted seat touches
pub record AreHeads (sets : List (BTreeSet ℕ)) (heads : BTreeSet ℕ) (muted : List Bool) : Type 0 where
  pub rise : (link : ℕ) → Rises (slice_get sets link)
  pub heads_are : (head : ℕ) → contains nat_cmp heads head ≡ (not (is_quiet muted (head % 676)) && is_first (slice_get sets (head % 676)) (head / 676))

-- the first message of each link whose parties are not muted stands in the order
abbrev pub IsQueue : Queue → Type 0
IsQueue queue = AreHeads queue.waiting.items queue.heads queue.muted.items
