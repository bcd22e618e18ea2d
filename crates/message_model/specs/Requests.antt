-- The request that bytes spell, if they spell one: its fields are taken where they would stand, and then its spelling is compared.
use Rattle.std.specs.Prelude.{ℕ, zero, suc, ◌^◌, Bool, cond, ◌==◌, ◌&&◌, nat_lt, List, [], ◌∷◌, length, take, drop, Option, Some, None, bytes_eq}
use Rattle.std.specs.List.{list_all}
use Rattle.std.specs.Int.{w32, from_be_bytes}
use Rattle.pond_base.specs.Label.{is_label}
use Rattle.guarded_update.specs.declared.update.Action.{Action}
use Rattle.guarded_update.specs.declared.update.Action.TheVariants.{Replace, Append, Truncate, Splice}
use Rattle.guarded_update.specs.declared.update.Guard.{Guard}
use Rattle.guarded_update.specs.declared.update.Guard.TheVariants.{VersionIs, SizeIs, BlockIs}
use Rattle.guarded_update.specs.declared.update.Clause.{Clause}
use Rattle.guarded_update.specs.declared.request.Request.{Request}
use Rattle.guarded_update.specs.Fitting.{request_fits}
use Rattle.guarded_update.specs.Spelling.{request_string}

-- the first byte, and those behind it
abbrev pub byte_at : List ℕ → ℕ
byte_at [] = 0
byte_at (byte ∷ bytes) = byte

abbrev pub behind : List ℕ → List ℕ
behind [] = []
behind (byte ∷ bytes) = bytes

-- the number in the first four bytes
abbrev pub number_at : List ℕ → ℕ
number_at bytes = from_be_bytes w32 (take 4 bytes)

-- the name in the first 20 bytes
abbrev pub name_at : List ℕ → List ℕ
name_at bytes = take 20 bytes

-- a content behind its length, and what stands behind it
abbrev pub content_at : List ℕ → List ℕ × List ℕ
content_at bytes = (take (number_at bytes) (drop 4 bytes), drop (number_at bytes) (drop 4 bytes))

-- so many values, one behind the other, and what stands behind them
abbrev pub several : {X : Type 0} → (List ℕ → X × List ℕ) → ℕ → List ℕ → List X × List ℕ
several one zero bytes = ([], bytes)
several one (suc n) bytes = let first = one bytes in let more = several one n first.1 in (first.0 ∷ more.0, more.1)

-- values behind a byte that counts them, and what stands behind them
abbrev pub counted_at : {X : Type 0} → (List ℕ → X × List ℕ) → List ℕ → List X × List ℕ
counted_at one bytes = several one (byte_at bytes) (behind bytes)

-- the guard of a kind, by its fields, and what stands behind them
abbrev pub guard_of : ℕ → List ℕ → Guard × List ℕ
guard_of kind bytes =
    cond (kind == 1) (VersionIs (record { 0 = number_at bytes }), drop 4 bytes)
    (cond (kind == 2) (SizeIs (number_at bytes), drop 4 bytes)
    (BlockIs (number_at bytes) (name_at (drop 4 bytes)), drop 20 (drop 4 bytes)))

abbrev pub guard_at : List ℕ → Guard × List ℕ
guard_at bytes = guard_of (byte_at bytes) (behind bytes)

-- the action of a kind, by its fields, and what stands behind them
abbrev pub action_of : ℕ → List ℕ → Action × List ℕ
action_of kind bytes =
    cond (kind == 1) (Replace (number_at bytes) (content_at (drop 4 bytes)).0, (content_at (drop 4 bytes)).1)
    (cond (kind == 2) (Append (content_at bytes).0, (content_at bytes).1)
    (cond (kind == 3) (Truncate (number_at bytes), drop 4 bytes)
    (Splice (number_at bytes) (number_at (drop 4 bytes)) (content_at (drop 4 (drop 4 bytes))).0, (content_at (drop 4 (drop 4 bytes))).1)))

abbrev pub action_at : List ℕ → Action × List ℕ
action_at bytes = action_of (byte_at bytes) (behind bytes)

-- a clause: its guards and its actions
abbrev pub clause_at : List ℕ → Clause × List ℕ
clause_at bytes =
    let guards = counted_at guard_at bytes in
    let actions = counted_at action_at guards.1 in
    (record { guards = guards.0; actions = actions.0 }, actions.1)

-- a request, by its fields behind its kind: its client, its number, its label and its clauses
abbrev pub request_of : List ℕ → Request
request_of bytes =
    let labelled = drop 4 (behind bytes) in
    let count = byte_at labelled in
    record {
      client = record { 0 = byte_at bytes };
      number = number_at (behind bytes);
      label = take count (behind labelled);
      update = record { clauses = (counted_at clause_at (drop count (behind labelled))).0 };
    }

abbrev pub request_at : List ℕ → Request
request_at bytes = request_of (behind bytes)

-- whether the numbers of a guard have four bytes, and its name 20
abbrev pub guard_has_places : Guard → Bool
guard_has_places (VersionIs version) = nat_lt version.0 (2 ^ 32)
guard_has_places (SizeIs size) = nat_lt size (2 ^ 32)
guard_has_places (BlockIs place name) = nat_lt place (2 ^ 32) && length name == 20

-- whether the numbers of an action have four bytes
abbrev pub action_has_places : Action → Bool
action_has_places (Replace offset content) = nat_lt offset (2 ^ 32) && nat_lt (length content) (2 ^ 32)
action_has_places (Append content) = nat_lt (length content) (2 ^ 32)
action_has_places (Truncate kept) = nat_lt kept (2 ^ 32)
action_has_places (Splice offset remove content) = nat_lt offset (2 ^ 32) && nat_lt remove (2 ^ 32) && nat_lt (length content) (2 ^ 32)

-- whether the counts of a clause have one byte, and its guards and actions fit into their places
abbrev pub clause_has_places : Clause → Bool
clause_has_places c = nat_lt (length c.guards) 256 && nat_lt (length c.actions) 256 && list_all guard_has_places c.guards && list_all action_has_places c.actions

-- whether the number and the counts of a request, and its clauses, fit into their places, and its label is one
abbrev pub has_places : Request → Bool
has_places r = nat_lt r.number (2 ^ 32) && is_label r.label && nat_lt (length r.update.clauses) 256 && list_all clause_has_places r.update.clauses

-- whether a request is in the grammar and these bytes spell it
abbrev pub spells : Request → List ℕ → Bool
spells r bytes = request_fits r && has_places r && bytes_eq (request_string r) bytes

-- whether the bytes spell a request
abbrev pub is_request_string : List ℕ → Bool
is_request_string bytes = spells (request_at bytes) bytes

-- the request that the bytes spell
abbrev pub request_read : List ℕ → Option Request
request_read bytes = cond (is_request_string bytes) (Some (request_at bytes)) None
