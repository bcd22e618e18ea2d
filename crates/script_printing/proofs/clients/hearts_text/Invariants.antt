use Rattle.std.proofs.Common.{◌≡◌, ◌++◌, List, string_bytes}
use Rattle.ring_model.specs.Messages.{Ring, Letter}
use Rattle.client_core.specs.Beliefs.{HeartsBelieved}
use Rattle.script_printing.proofs.Believed.{heart_lines}
use Rattle.script_printing.proofs.clients.hearts_text.Given as goal

-- what is printed and the lines that are left are all lines
abbrev pub invariant-loop-label : goal.invariant-loop-label
invariant-loop-label l = (g : Ring) (got : List Letter) → HeartsBelieved l.hearts g got → string_bytes l.text ++ heart_lines g got l.label-iterator ≡ heart_lines g got l.labels.entries
