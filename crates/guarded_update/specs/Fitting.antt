-- Which requests have a spelling.
use Rattle.std.specs.Prelude.{◌≡◌, ℕ, ◌^◌, ◌<◌, Bool, true, ◌&&◌, ◌||◌, List, length, nat_le, nat_lt, map, sum, IsTrue}
use Rattle.std.specs.List.{list_all, AllByRecursion}
use Rattle.pond_base.specs.Label.{is_label}
use Rattle.guarded_update.specs.declared.update.Action.{Action}
use Rattle.guarded_update.specs.declared.update.Action.TheVariants.{Replace, Append, Truncate, Splice}
use Rattle.guarded_update.specs.declared.update.Guard.{Guard}
use Rattle.guarded_update.specs.declared.update.Guard.TheVariants.{VersionIs, SizeIs, BlockIs}
use Rattle.guarded_update.specs.declared.update.Clause.{Clause}
use Rattle.guarded_update.specs.declared.update.Update.{Update}
use Rattle.guarded_update.specs.declared.request.Request.{Request}

-- how many bytes of content an action has
abbrev pub content_length : Action → ℕ
content_length (Replace offset content) = length content
content_length (Append content) = length content
content_length (Truncate kept) = 0
content_length (Splice offset remove content) = length content

-- an action has content, but a truncate has none and a splice that removes bytes need have none
abbrev pub action_fits : Action → Bool
action_fits (Replace offset content) = nat_le 1 (length content)
action_fits (Append content) = nat_le 1 (length content)
action_fits (Truncate kept) = true
action_fits (Splice offset remove content) = nat_le 1 remove || nat_le 1 (length content)

-- a clause has an action
abbrev pub clause_fits : Clause → Bool
clause_fits c = nat_le 1 (length c.actions) && list_all action_fits c.actions

abbrev pub guards_in : List Clause → ℕ
guards_in clauses = sum (map (λ (c : Clause). length c.guards) clauses)

abbrev pub actions_in : List Clause → ℕ
actions_in clauses = sum (map (λ (c : Clause). length c.actions) clauses)

abbrev pub content_of : List Action → ℕ
content_of actions = sum (map content_length actions)

abbrev pub content_in : List Clause → ℕ
content_in clauses = sum (map (λ (c : Clause). content_of c.actions) clauses)

-- at most 16 guards, 16 actions and 65,536 bytes of content in all clauses together
abbrev pub sizes_fit : List Clause → Bool
sizes_fit clauses = nat_le (guards_in clauses) 16 && nat_le (actions_in clauses) 16 && nat_le (content_in clauses) 65536

-- 1 to 16 clauses that fit, alone and together
abbrev pub update_fits : Update → Bool
update_fits u = nat_le 1 (length u.clauses) && nat_le (length u.clauses) 16 && list_all clause_fits u.clauses && sizes_fit u.clauses

-- a client below 16, a number from 1 on, and an update that fits
abbrev pub request_fits : Request → Bool
request_fits r = nat_lt r.client.0 16 && nat_le 1 r.number && update_fits r.update

-- a guard has a spelling in any case
abbrev pub guard_is_short : Guard → Bool
guard_is_short guard = true

-- the content of an action is within the limit of an update
abbrev pub action_is_short : Action → Bool
action_is_short action = nat_le (content_length action) 65536

-- the guards, actions and content of a clause are within the limits of an update
abbrev pub clause_is_short : Clause → Bool
clause_is_short c = nat_le (length c.guards) 16 && nat_le (length c.actions) 16 && nat_le (content_of c.actions) 65536

-- the numbers of a guard have four bytes, and its name 20
abbrev pub IsGuard : Guard → Type 0
IsGuard (VersionIs version) = version.0 < 2 ^ 32
IsGuard (SizeIs size) = size < 2 ^ 32
IsGuard (BlockIs place name) = (place < 2 ^ 32) × (length name ≡ 20)

-- the numbers of an action have four bytes
abbrev pub IsAction : Action → Type 0
IsAction (Replace offset content) = (offset < 2 ^ 32) × (length content < 2 ^ 32)
IsAction (Append content) = length content < 2 ^ 32
IsAction (Truncate kept) = kept < 2 ^ 32
IsAction (Splice offset remove content) = (offset < 2 ^ 32) × (remove < 2 ^ 32) × (length content < 2 ^ 32)

-- the counts of a clause have one byte, and its guards and actions fit into their places
pub record IsClause (c : Clause) : Type 0 where
  pub few_guards : length c.guards < 256
  pub few_actions : length c.actions < 256
  pub guards : AllByRecursion IsGuard c.guards
  pub actions : AllByRecursion IsAction c.actions

-- the numbers and counts of a request, and its clauses, fit into their places, and its label is one
pub record HasPlaces (r : Request) : Type 0 where
  pub number : r.number < 2 ^ 32
  pub label : IsTrue (is_label r.label)
  pub few : length r.update.clauses < 256
  pub clauses : AllByRecursion IsClause r.update.clauses

-- a request that has a spelling
pub record IsRequest (r : Request) : Type 0 where
  pub fits : IsTrue (request_fits r)
  pub places : HasPlaces r
