-- Worked scripts beside their texts.
use Rattle.std.specs.Prelude.{◌≡◌, ℕ, true, false, List, [], map, reverse, ◌==◌, if◌then◌else◌, Result, Ok, Err}
use Rattle.std.specs.List.{filter}
use Rattle.script_grammar.specs.Script.{script_of, Refusal}
use Rattle.script_grammar.specs.Worked.{joined_lines}
use Rattle.script_terms.specs.declared.line.Spot.{Spot}
use Rattle.script_terms.specs.declared.line.Spot.TheVariants.{Member}
use Rattle.text_model.specs.Outside.{cut}
use Rattle.text_model.specs.Text.{text_of}

-- a result, with its value changed
abbrev pub printed : (List ℕ → List ℕ) → List ℕ → Result (List ℕ) Refusal
printed h script = elim (script_of script) [ Ok read ↦ Ok (text_of h read) | Err refusal ↦ Err refusal ]

-- lines are a script, and with these names it prints other lines
abbrev pub Prints : (List ℕ → List ℕ) → List (List ℕ) → List (List ℕ) → Type 0
Prints h script text = printed h (joined_lines script) ≡ Ok (joined_lines text)

-- the members that are cut, by their numbers
abbrev pub numbers : List Spot → List ℕ
numbers spots = map (λ spot. elim spot [ Member member ↦ member.0 ]) spots

-- lines are a script, and leave these members cut
abbrev pub Leaves : List (List ℕ) → List ℕ → Type 0
Leaves script members = elim (script_of (joined_lines script)) [ Ok read ↦ numbers (cut (reverse read.lines)) ≡ members | Err refusal ↦ ⊥ ]

-- each string is its own name
abbrev pub itself : List ℕ → List ℕ
itself string = string

-- the name of a string is the string without its bytes ee
abbrev pub folded : List ℕ → List ℕ
folded string = filter (λ byte. if byte == 238 then false else true) string

-- all strings have one name
abbrev pub one_name : List ℕ → List ℕ
one_name string = []
