-- What is offered under each name, and how much there is, after each change of a store.
use Rattle.std.specs.Prelude.{◌≡◌, ℕ, ◌+◌, List, length, Some, None, if◌then◌else◌}
use Rattle.std.specs.Option.{is_some, option_map}
use Rattle.std.specs.Str.{bytes_eq}
use Rattle.fragment_store.specs.Pairs.{Pairs, AreOrdered, offered, replaced, placed, spoiled, spoil_all}

-- what stood under a name stands there still; where nothing stood, the placed string stands under its name, and nothing under any other
abbrev pub PlacedOffers : Type 0
PlacedOffers = (pairs : Pairs) (name bytes other : List ℕ)
    → offered (placed pairs name bytes) other ≡ (if is_some (offered pairs other) then offered pairs other else if bytes_eq other name then Some bytes else None)

-- one string more, where nothing stood under the name
abbrev pub PlacedCounts : Type 0
PlacedCounts = (pairs : Pairs) (name bytes : List ℕ) → length (placed pairs name bytes) ≡ (if is_some (offered pairs name) then length pairs else length pairs + 1)

-- the new string stands under its name, and under any other name what stood there
abbrev pub ReplacedOffers : Type 0
ReplacedOffers = (pairs : Pairs) (name bytes other : List ℕ) → offered (replaced pairs name bytes) other ≡ (if bytes_eq other name then Some bytes else offered pairs other)

-- to put a string where it stands already changes nothing
abbrev pub ReplacedAgain : Type 0
ReplacedAgain = (pairs : Pairs) (name bytes : List ℕ) → AreOrdered pairs → offered pairs name ≡ Some bytes → replaced pairs name bytes ≡ pairs

-- under each name the spoiled string of the one that stood there
abbrev pub SpoiledOffers : Type 0
SpoiledOffers = (pairs : Pairs) (name : List ℕ) → offered (spoil_all pairs) name ≡ option_map spoiled (offered pairs name)

-- as many strings
abbrev pub SpoiledCounts : Type 0
SpoiledCounts = (pairs : Pairs) → length (spoil_all pairs) ≡ length pairs
