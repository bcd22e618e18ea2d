-- The greatest version of an object that has an accepted value among entries.
use Rattle.std.specs.Prelude.{ℕ, cond, List, [], ◌∷◌, Option, None, bytes_eq}
use Rattle.pond_base.specs.declared.numbers.Version.{Version}
use Rattle.heartbeat.specs.declared.entry.Entry.{Entry}
use Rattle.heartbeat.specs.Votes.{later_value}
use Rattle.heartbeat.specs.Boards.{Key}

-- the later of what was found before and what an entry has accepted for the object
abbrev pub later_of : List ℕ → Option (Version × List ℕ) → Key × Entry → Option (Version × List ℕ)
later_of object before e = later_value before e.0.1 (cond (bytes_eq e.0.0 object) e.1.accepted None)

-- the latest of what was found before and what entries have accepted for the object
abbrev pub newest_among : List ℕ → Option (Version × List ℕ) → List (Key × Entry) → Option (Version × List ℕ)
newest_among object before [] = before
newest_among object before (e ∷ es) = newest_among object (later_of object before e) es
