-- Sources and sinks in memory, and what a take does to them.
use Rattle.std.specs.Prelude.{ℕ, ◌≡◌, ◌+◌, ◌-◌, ◌^◌, ◌⊎◌, ◌↔◌, min, List, [], length, Result, IsErr, IfOk, Contains}

-- a source in memory: the bytes left, how many a take gives at most, the numbers of the takes that
-- fail, and how many takes and faults there were
pub record MemoryRead : Type 0 where
  pub left : List ℕ
  pub most : ℕ
  pub fails : List ℕ
  pub takes : ℕ
  pub faults : ℕ

-- a sink in memory: the bytes taken, how many it has room for, and the rest as of a source
pub record MemoryWritten : Type 0 where
  pub taken : List ℕ
  pub room : ℕ
  pub most : ℕ
  pub fails : List ℕ
  pub takes : ℕ
  pub faults : ℕ

-- the number of the next take: the greatest number that a count can hold stays
abbrev pub next_take : ℕ → ℕ
next_take takes = min (takes + 1) (2 ^ 64 - 1)

-- a source of so many bytes a take, before its first take
abbrev pub unread : List ℕ → ℕ → List ℕ → MemoryRead
unread bytes most fails = record { left = bytes; most = most; fails = fails; takes = 0; faults = 0 }

-- a sink with so much room, before its first take
abbrev pub unwritten : ℕ → ℕ → List ℕ → MemoryWritten
unwritten room most fails = record { taken = []; room = room; most = most; fails = fails; takes = 0; faults = 0 }

-- a take of a source fails exactly where its number is listed
abbrev pub FailsAsListed : {T E : Type 0} → MemoryRead → Result T E → Type 0
FailsAsListed source result = IsErr result ↔ Contains source.fails (next_take source.takes)

-- else it gives as many bytes as its room, the most of a take and what is left allow
abbrev pub GivesMost : {E : Type 0} → MemoryRead → ℕ → Result ℕ E → Type 0
GivesMost source room result = IfOk result (λ count. count ≡ min (min source.most room) (length source.left))

-- the next take has the next number, and how the source was set up stays
pub record GoesOnReading (old new : MemoryRead) : Type 0 where
  pub counted : new.takes ≡ next_take old.takes
  pub most : new.most ≡ old.most
  pub fails : new.fails ≡ old.fails

-- a take of a sink fails exactly where its number is listed or no room is left
abbrev pub FailsAsListedOrFull : {T E : Type 0} → MemoryWritten → Result T E → Type 0
FailsAsListedOrFull sink result = IsErr result ↔ (Contains sink.fails (next_take sink.takes) ⊎ (length sink.taken ≡ sink.room))

-- else it takes as many bytes as its piece, the most of a take and the room left allow
abbrev pub TakesMost : {E : Type 0} → MemoryWritten → ℕ → Result ℕ E → Type 0
TakesMost sink piece result = IfOk result (λ count. count ≡ min (min sink.most piece) (sink.room - length sink.taken))

pub record GoesOnWriting (old new : MemoryWritten) : Type 0 where
  pub counted : new.takes ≡ next_take old.takes
  pub room : new.room ≡ old.room
  pub most : new.most ≡ old.most
  pub fails : new.fails ≡ old.fails
