-- What an update makes of an object. Its versions are a list of byte strings, the newest first.
use Rattle.std.specs.Prelude.{ℕ, ◌+◌, ◌-◌, ◌*◌, Bool, ◌&&◌, List, [], ◌∷◌, ◌++◌, length, take, drop, nat_le, nat_lt, ◌==◌, if◌then◌else◌, Result, Ok, Err}
use Rattle.std.specs.List.{list_all}
use Rattle.std.specs.Str.{bytes_eq}
use Rattle.std.specs.Fork.{slice_chunk}
use Rattle.guarded_update.specs.declared.update.Action.{Action}
use Rattle.guarded_update.specs.declared.update.Action.TheVariants.{Replace, Append, Truncate, Splice}
use Rattle.guarded_update.specs.declared.update.Guard.{Guard}
use Rattle.guarded_update.specs.declared.update.Guard.TheVariants.{VersionIs, SizeIs, BlockIs}
use Rattle.guarded_update.specs.declared.update.Clause.{Clause}
use Rattle.tree_format.specs.Strings.{leaf_string}

-- why an update makes no version
pub data Refusal : Type 0 where
  NoClause : Refusal
  OutOfRange : Refusal
  TooLong : Refusal

-- the bytes of the newest version
abbrev pub newest : List (List ℕ) → List ℕ
newest [] = []
newest (content ∷ older) = content

-- a guard holds: the newest version has the number, the size, or a leaf of that name at the place
abbrev pub holds : (List ℕ → List ℕ) → ℕ → List (List ℕ) → Guard → Bool
holds h block versions (VersionIs version) = length versions == version.0 + 1
holds h block versions (SizeIs size) = length (newest versions) == size
holds h block versions (BlockIs place name) =
    nat_lt (place * block) (length (newest versions)) && bytes_eq (h (leaf_string (slice_chunk (newest versions) block place))) name

-- the most bytes of a version
abbrev pub largest : ℕ
largest = 1048576

-- bytes with so many taken out at an offset, and a content put there
abbrev pub spliced : ℕ → ℕ → List ℕ → List ℕ → List ℕ
spliced offset remove content bytes = take offset bytes ++ content ++ drop (offset + remove) bytes

-- the bytes after an action, or why there are none
abbrev pub act : Action → List ℕ → Result (List ℕ) Refusal
act (Replace offset content) bytes =
    if nat_le (offset + length content) (length bytes) then Ok (spliced offset (length content) content bytes) else Err OutOfRange
act (Append content) bytes = if nat_le (length bytes + length content) largest then Ok (bytes ++ content) else Err TooLong
act (Truncate kept) bytes = if nat_le kept (length bytes) then Ok (take kept bytes) else Err OutOfRange
act (Splice offset remove content) bytes =
    if nat_le (offset + remove) (length bytes)
    then (if nat_le (length bytes - remove + length content) largest then Ok (spliced offset remove content bytes) else Err TooLong)
    else Err OutOfRange

-- what is done next with a result, unless it is a refusal
abbrev pub and_then : Result (List ℕ) Refusal → (List ℕ → Result (List ℕ) Refusal) → Result (List ℕ) Refusal
and_then (Ok bytes) next = next bytes
and_then (Err refusal) next = Err refusal

-- the bytes after actions, one after the other, or why the first that fails does
abbrev pub act_all : List Action → List ℕ → Result (List ℕ) Refusal
act_all [] bytes = Ok bytes
act_all (action ∷ actions) bytes = and_then (act action bytes) (act_all actions)

-- the outcome of an update: the first clause whose guards all hold acts on the newest version
abbrev pub outcome : (List ℕ → List ℕ) → ℕ → List Clause → List (List ℕ) → Result (List ℕ) Refusal
outcome h block [] versions = Err NoClause
outcome h block (clause ∷ clauses) versions =
    if list_all (holds h block versions) clause.guards then act_all clause.actions (newest versions) else outcome h block clauses versions
