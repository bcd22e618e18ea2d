-- The bytes that spell a request. Numbers are big-endian, of four bytes, where nothing else is said.
use Rattle.std.specs.Prelude.{ℕ, Bool, true, false, List, ◌∷◌, ◌++◌, length, if◌then◌else◌}
use Rattle.std.specs.List.{flat_map, list_any}
use Rattle.std.specs.Int.{w32, to_be_bytes}
use Rattle.guarded_update.specs.declared.update.Action.{Action}
use Rattle.guarded_update.specs.declared.update.Action.TheVariants.{Replace, Append, Truncate, Splice}
use Rattle.guarded_update.specs.declared.update.Guard.{Guard}
use Rattle.guarded_update.specs.declared.update.Guard.TheVariants.{VersionIs, SizeIs, BlockIs}
use Rattle.guarded_update.specs.declared.update.Clause.{Clause}
use Rattle.guarded_update.specs.declared.request.Request.{Request}

abbrev pub number : ℕ → List ℕ
number n = to_be_bytes w32 n

-- a content behind its length
abbrev pub counted : List ℕ → List ℕ
counted content = number (length content) ++ content

-- a guard: its kind and its fields
abbrev pub guard_string : Guard → List ℕ
guard_string (VersionIs version) = 1 ∷ number version.0
guard_string (SizeIs size) = 2 ∷ number size
guard_string (BlockIs place name) = 3 ∷ number place ++ name

-- an action: its kind and its fields
abbrev pub action_string : Action → List ℕ
action_string (Replace offset content) = 1 ∷ number offset ++ counted content
action_string (Append content) = 2 ∷ counted content
action_string (Truncate length) = 3 ∷ number length
action_string (Splice offset remove content) = 4 ∷ number offset ++ number remove ++ counted content

-- a clause: a byte that counts its guards, the guards, a byte that counts its actions, the actions
abbrev pub clause_string : Clause → List ℕ
clause_string c = length c.guards ∷ flat_map guard_string c.guards ++ length c.actions ∷ flat_map action_string c.actions

abbrev pub is_splice : Action → Bool
is_splice (Replace offset content) = false
is_splice (Append content) = false
is_splice (Truncate length) = false
is_splice (Splice offset remove content) = true

abbrev pub has_splice : Clause → Bool
has_splice c = list_any is_splice c.actions

-- the kind of a request: 8 where an action of its update is a splice, and 6 otherwise
abbrev pub kind_of : List Clause → ℕ
kind_of clauses = if list_any has_splice clauses then 8 else 6

-- a label behind a byte with its length
abbrev pub label_field : List ℕ → List ℕ
label_field label = length label ∷ label

-- the clauses of an update behind a byte that counts them
abbrev pub update_field : List Clause → List ℕ
update_field clauses = length clauses ∷ flat_map clause_string clauses

-- the fields of a request: its client in one byte, its number, its label, its update
abbrev pub request_fields : Request → List ℕ
request_fields r = r.client.0 ∷ number r.number ++ label_field r.label ++ update_field r.update.clauses

-- a request: its kind and its fields
abbrev pub request_string : Request → List ℕ
request_string r = kind_of r.update.clauses ∷ request_fields r
