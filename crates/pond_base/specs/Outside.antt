-- What a call to the outside says of its count of faults.
use Rattle.std.specs.Prelude.{ℕ, ◌<◌, ◌+◌, ◌-◌, ◌^◌, ◌≡◌, min, Result, Option, List, take, Ok, Err, OnErr, OnOk, IfOk}
use Rattle.std.specs.Io.KnownBytes.{Appends}
use Rattle.pond_base.specs.declared.reading.Unread.{Unread}
use Rattle.pond_base.specs.declared.reading.Unread.TheVariants.{Failed, TooLarge, Memory}

-- a count of faults after one fault more: the greatest number that it can hold stays
abbrev pub after_fault : ℕ → ℕ
after_fault count = min (count + 1) (2 ^ 64 - 1)

-- a call that fails counts one fault, and no other call does
pub record CountsFaults {T E : Type 0} (before now : ℕ) (result : Result T E) : Type 0 where
  pub failed : OnErr result (now ≡ after_fault before)
  pub kept : OnOk result (now ≡ before)

-- a sink's take counts one fault where it fails or takes nothing, and none where it takes something
pub record CountsTakes {E : Type 0} (before now : ℕ) (result : Result ℕ E) : Type 0 where
  pub failed : OnErr result (now ≡ after_fault before)
  pub nothing : IfOk result (λ count. count ≡ 0 → now ≡ after_fault before)
  pub kept : IfOk result (λ count. 0 < count → now ≡ before)

-- a source that is read counts one fault where a take failed, and none where reading ended otherwise
abbrev pub CountsReads : {T : Type 0} → ℕ → ℕ → Result T Unread → Type 0
CountsReads before now (Ok bytes) = now ≡ before
CountsReads before now (Err Failed) = now ≡ after_fault before
CountsReads before now (Err TooLarge) = now ≡ before
CountsReads before now (Err Memory) = now ≡ before

-- the bytes taken, where they are known, grew by a prefix of a text
abbrev pub AppendsPrefix : Option (List ℕ) → Option (List ℕ) → List ℕ → Type 0
AppendsPrefix old new text = (count : ℕ) × Appends old new (take count text)

-- what a call saw of a source or a sink: the bytes left in it or taken by it, where it tells them, and
-- its count of faults, as the call began and as it ended
pub record Seen : Type 0 where
  pub before : Option (List ℕ)
  pub after : Option (List ℕ)
  pub faults_before : ℕ
  pub faults_after : ℕ

-- no byte moved, and no fault was counted
pub record IsUnused (seen : Seen) : Type 0 where
  pub same : seen.after ≡ seen.before
  pub faults : seen.faults_after ≡ seen.faults_before

-- a call failed, and none after it
abbrev pub Fails : Seen → Type 0
Fails seen = seen.faults_after ≡ after_fault seen.faults_before

-- no call failed
abbrev pub IsSound : Seen → Type 0
IsSound seen = seen.faults_after ≡ seen.faults_before
