-- The requests that the lines of a script submit. Lines have their numbers beside
-- them. A list of lines that came has the newest first, and so has a list of requests. Throughout, h names byte strings.
use Rattle.std.specs.Prelude.{ℕ, ◌+◌, List, [], ◌∷◌, map, count_by, ◌==◌}
use Rattle.pond_base.specs.declared.numbers.ClientId.{ClientId}
use Rattle.guarded_update.specs.declared.request.Request.{Request}
use Rattle.guarded_update.specs.declared.update.Clause.{Clause}
use Rattle.guarded_update.specs.declared.update.Guard.{Guard}
use Rattle.guarded_update.specs.declared.update.Guard.TheVariants as guards
use Rattle.script_terms.specs.declared.line.Line.{Line}
use Rattle.script_terms.specs.declared.line.Line.TheVariants.{Submit}
use Rattle.script_terms.specs.declared.line.LineClause.{LineClause}
use Rattle.script_terms.specs.declared.line.LineGuard.{LineGuard}
use Rattle.script_terms.specs.declared.line.LineGuard.TheVariants.{VersionIs, SizeIs, BlockIs}
use Rattle.tree_format.specs.Strings.{leaf_string}

-- an event with the number of its line
abbrev pub Numbered : Type 0
Numbered = ℕ × Line

-- the guard of a line: the name of a leaf string stands in it in place of the content
abbrev pub guard_of : (List ℕ → List ℕ) → LineGuard → Guard
guard_of h (VersionIs version) = guards.VersionIs version
guard_of h (SizeIs size) = guards.SizeIs size
guard_of h (BlockIs place content) = guards.BlockIs place (h (leaf_string content))

abbrev pub clause_of : (List ℕ → List ℕ) → LineClause → Clause
clause_of h c = record { guards = map (guard_of h) c.guards; actions = c.actions }

-- how many requests are of a client
abbrev pub count_of : ClientId → List Request → ℕ
count_of client requests = count_by (λ (r : Request). r.client.0 == client.0) requests

-- the request that a client sends after earlier ones: each client counts its requests from 1
abbrev pub next_request : (List ℕ → List ℕ) → List Request → ClientId → List ℕ → List LineClause → Request
next_request h earlier client label clauses = record {
  client = client;
  number = count_of client earlier + 1;
  label = label;
  update = record { clauses = map (clause_of h) clauses };
}

-- the requests after a line
abbrev pub with_line : (List ℕ → List ℕ) → List Request → Line → List Request
with_line h earlier (Submit client label clauses) = next_request h earlier client label clauses ∷ earlier
with_line h earlier line = earlier

-- the requests that lines submit
abbrev pub submitted : (List ℕ → List ℕ) → List Numbered → List Request
submitted h [] = []
submitted h (line ∷ earlier) = with_line h (submitted h earlier) line.1
