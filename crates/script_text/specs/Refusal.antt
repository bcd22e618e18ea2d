-- What a reader of texts answers.
use Rattle.std.specs.Prelude.{◌≡◌, ℕ, Result, Ok, Err}
use Rattle.script_terms.specs.declared.fault.LineFault.{LineFault}
use Rattle.script_terms.specs.declared.fault.LineFault.TheVariants as faults
use Rattle.script_terms.specs.declared.script.Script.{Script}
use Rattle.script_grammar.specs.Script.{Refusal}
use Rattle.script_text.specs.declared.fault.ParseFault.{ParseFault}
use Rattle.script_text.specs.declared.fault.ParseFault.TheVariants.{Refused, Memory}

-- the fault of a text that has a line with a fault
abbrev pub refusal_of : ℕ → LineFault → ParseFault
refusal_of line (faults.Refused cause) = Refused line cause
refusal_of line faults.Memory = Memory

-- a fault is the refusal that is given, or want of memory
abbrev pub IsFault : ParseFault → Result Script Refusal → Type 0
IsFault (Refused line cause) given = given ≡ Err (record { line = line; cause = cause })
IsFault Memory given = Unit {0}

-- an answer is exactly the script or the refusal that is given, unless memory ran out
abbrev pub Reads : Result Script ParseFault → Result Script Refusal → Type 0
Reads (Ok script) given = given ≡ Ok script
Reads (Err fault) given = IsFault fault given
