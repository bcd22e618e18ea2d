-- The exit status of the program.
use Rattle.std.specs.Prelude.{ℕ}
use Rattle.pond_program.specs.declared.status.Status.{Status}
use Rattle.pond_program.specs.declared.status.Status.TheVariants.{Done, Usage, Refused, ReadFault, WriteFault, Clash, Memory, TooLarge}

abbrev pub exit_of : Status → ℕ
exit_of Done = 0
exit_of Usage = 2
exit_of (Refused line cause) = 3
exit_of ReadFault = 4
exit_of WriteFault = 5
exit_of (Clash line old new) = 6
exit_of Memory = 7
exit_of TooLarge = 8
