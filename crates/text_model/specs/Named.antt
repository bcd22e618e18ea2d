-- The strings that the lines of a script name.
use Rattle.std.specs.Prelude.{ℕ, List, [], ◌∷◌, ◌++◌, map}
use Rattle.std.specs.List.{flat_map}
use Rattle.guarded_update.specs.declared.request.Request.{Request}
use Rattle.guarded_update.specs.Spelling.{request_string}
use Rattle.object_model.specs.Folds.{Effect, Makes, Refuses, Repeats, effect, made_by, versions_after}
use Rattle.object_model.specs.Trees.{version_strings}
use Rattle.script_terms.specs.declared.line.Line.{Line}
use Rattle.script_terms.specs.declared.line.Line.TheVariants.{Submit, Deliver, Settle}
use Rattle.script_terms.specs.declared.line.LineClause.{LineClause}
use Rattle.script_terms.specs.declared.line.LineGuard.{LineGuard}
use Rattle.script_terms.specs.declared.line.LineGuard.TheVariants.{VersionIs, SizeIs, BlockIs}
use Rattle.script_terms.specs.declared.script.Script.{Script}
use Rattle.text_model.specs.Requests.{Numbered, next_request, submitted}
use Rattle.text_model.specs.Executed.{committed_requests}
use Rattle.text_model.specs.Labels.{labels_in}
use Rattle.tree_format.specs.Strings.{leaf_string, label_string}

-- the label strings of an event
abbrev pub label_strings : Numbered → List (List ℕ)
label_strings line = map label_string (labels_in line.1)

-- the strings that are named at the start, as line 0: the root of the empty version, and the label strings of all events
abbrev pub start_strings : (List ℕ → List ℕ) → Script → List (List ℕ)
start_strings h script = version_strings h script.setup.block [] [] ++ flat_map label_strings script.lines

-- the leaf string that a guard names
abbrev pub guard_strings : LineGuard → List (List ℕ)
guard_strings (VersionIs version) = []
guard_strings (SizeIs size) = []
guard_strings (BlockIs place content) = leaf_string content ∷ []

abbrev pub clause_strings : LineClause → List (List ℕ)
clause_strings c = flat_map guard_strings c.guards

-- the strings that a request names after earlier ones: those of the version that it makes
abbrev pub effect_strings : (List ℕ → List ℕ) → ℕ → List (List ℕ) → Effect → List (List ℕ)
effect_strings h block older (Makes content) = version_strings h block content older
effect_strings h block older (Refuses refusal) = []
effect_strings h block older Repeats = []

abbrev pub made_strings : (List ℕ → List ℕ) → ℕ → Request → List Request → List (List ℕ)
made_strings h block request earlier =
    effect_strings h block (versions_after h block request.label earlier) (effect h block request earlier (made_by h block earlier))

-- the strings of all versions that requests make, one request after the other
abbrev pub executed_strings : (List ℕ → List ℕ) → ℕ → List Request → List (List ℕ)
executed_strings h block [] = []
executed_strings h block (request ∷ earlier) = executed_strings h block earlier ++ made_strings h block request earlier

-- the strings of all versions that the committed list has made after some lines; what was made before was named before
abbrev pub committed_strings : (List ℕ → List ℕ) → Script → List Numbered → List (List ℕ)
committed_strings h script lines = executed_strings h script.setup.block (committed_requests h script lines)

-- what an event names after earlier lines: a submit the leaf strings of its guards and its request string; a delivery and a
-- settle the strings of the versions that are made
abbrev pub line_strings : (List ℕ → List ℕ) → Script → List Numbered → Numbered → List (List ℕ)
line_strings h script earlier line = by line.1
  where
    by : Line → List (List ℕ)
    by (Submit client label clauses) = flat_map clause_strings clauses ++ request_string (next_request h (submitted h earlier) client label clauses) ∷ []
    by (Deliver sender to place) = committed_strings h script (line ∷ earlier)
    by Settle = committed_strings h script (line ∷ earlier)
    by other = []

-- all strings that a script names up to some lines
abbrev pub named : (List ℕ → List ℕ) → Script → List Numbered → List (List ℕ)
named h script [] = start_strings h script
named h script (line ∷ earlier) = named h script earlier ++ line_strings h script earlier line
