-- The line on standard error that tells a status.
use Rattle.std.specs.Prelude.{ℕ, List, [], ◌∷◌, ◌++◌, codes, Bool, true, false}
use Rattle.std.specs.Fmt.{decimal}
use Rattle.script_terms.specs.Causes.{word_of}
use Rattle.pond_program.specs.declared.status.Status.{Status}
use Rattle.pond_program.specs.declared.status.Status.TheVariants.{Done, Usage, Refused, ReadFault, WriteFault, Clash, Memory, TooLarge}

-- the line without its end, and nothing for a status that has none
abbrev pub line_of : Status → List ℕ
line_of Done = []
line_of Usage = codes "pond: usage: pond run"
line_of (Refused line cause) = codes "pond: line " ++ decimal line ++ codes ": " ++ word_of cause
line_of ReadFault = codes "pond: read fault"
line_of WriteFault = []
line_of (Clash line old new) = []
line_of Memory = []
line_of TooLarge = codes "pond: script too large"

-- some byte stands there
abbrev pub has_bytes : List ℕ → Bool
has_bytes [] = false
has_bytes (byte ∷ bytes) = true

-- whether a status has a line; else the text or the exit status alone tells it
abbrev pub has_line : Status → Bool
has_line status = has_bytes (line_of status)
