-- Worked texts beside what they are.
use Rattle.std.specs.Prelude.{◌≡◌, ℕ, List, [], ◌∷◌, ◌++◌, Ok, Err}
use Rattle.std.specs.List.{flat_map}
use Rattle.script_terms.specs.declared.cause.Cause.{Cause}
use Rattle.script_terms.specs.declared.script.Script.{Script}
use Rattle.script_grammar.specs.Script.{script_of}

-- lines with a line feed behind each
abbrev pub joined_lines : List (List ℕ) → List ℕ
joined_lines lines = flat_map (λ line. line ++ (10 ∷ [])) lines

-- the text of some lines is refused at a line, with a cause
abbrev pub IsRefused : ℕ → Cause → List (List ℕ) → Type 0
IsRefused line cause lines = script_of (joined_lines lines) ≡ Err (record { line = line; cause = cause })

-- the text of some lines is a script
abbrev pub IsScript : Script → List (List ℕ) → Type 0
IsScript script lines = script_of (joined_lines lines) ≡ Ok script
