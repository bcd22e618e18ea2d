-- What an update comes to, by the length of the newest version.
use Rattle.std.specs.Prelude.{ℕ, ◌+◌, ◌-◌, length, nat_le, List, [], ◌∷◌, Bool, false, Option, Some, None, Result, Ok, Err, if◌then◌else◌}
use Rattle.std.specs.Str.{bytes_eq}
use Rattle.std.specs.List.{list_all}
use Rattle.guarded_update.specs.declared.update.Clause.{Clause}
use Rattle.guarded_update.specs.declared.update.Action.{Action}
use Rattle.guarded_update.specs.declared.update.Action.TheVariants.{Replace, Append, Truncate, Splice}
use Rattle.object_model.specs.Updates.{holds, largest, Refusal, NoClause, OutOfRange, TooLong}
use Rattle.object_fold.specs.declared.fate.Refused.{Refused}
use Rattle.object_fold.specs.declared.fate.Refused.TheVariants as code

-- why an update is refused, as a definition has it
abbrev pub refusal_of : Refused → Refusal
refusal_of code.NoClause = NoClause
refusal_of code.OutOfRange = OutOfRange
refusal_of code.TooLong = TooLong

-- a length, or why there is none
abbrev pub length_told : Result ℕ Refused → Result ℕ Refusal
length_told (Ok count) = Ok count
length_told (Err refused) = Err (refusal_of refused)

-- the actions of the first clause whose guards all hold
abbrev pub chosen : (List ℕ → List ℕ) → ℕ → List Clause → List (List ℕ) → Option (List Action)
chosen h block [] versions = None
chosen h block (clause ∷ clauses) versions =
    if list_all (holds h block versions) clause.guards then Some clause.actions else chosen h block clauses versions

-- a name was found, and it is this one
abbrev pub is_this : Option (List ℕ) → List ℕ → Bool
is_this None name = false
is_this (Some found) name = bytes_eq found name

-- the length that an action leaves of bytes of a length
abbrev pub length_after : Action → ℕ → Result ℕ Refusal
length_after (Replace offset content) count = if nat_le (offset + length content) count then Ok count else Err OutOfRange
length_after (Append content) count = if nat_le (count + length content) largest then Ok (count + length content) else Err TooLong
length_after (Truncate kept) count = if nat_le kept count then Ok kept else Err OutOfRange
length_after (Splice offset remove content) count =
    if nat_le (offset + remove) count
    then (if nat_le (count - remove + length content) largest then Ok (count - remove + length content) else Err TooLong)
    else Err OutOfRange

-- the length that actions leave, one after the other
abbrev pub length_after_all : List Action → ℕ → Result ℕ Refusal
length_after_all [] count = Ok count
length_after_all (action ∷ actions) count =
    elim (length_after action count) [ Ok left ↦ length_after_all actions left | Err refusal ↦ Err refusal ]

-- the length of changed bytes
abbrev pub measured : Result (List ℕ) Refusal → Result ℕ Refusal
measured (Ok bytes) = Ok (length bytes)
measured (Err refusal) = Err refusal
