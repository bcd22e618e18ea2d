use Rattle.std.proofs.Common.{◌≡◌, length, string_bytes}
use Rattle.fold_model.specs.Folds.{requests_of}
use Rattle.script_printing.specs.Executed.{ForExecuted}
use Rattle.script_printing.proofs.Slots.{with_lines, lines_before}
use Rattle.script_printing.proofs.members.member_text.Given as goal

abbrev pub invariant-loop-place : goal.invariant-loop-place
invariant-loop-place l = ForExecuted l.node (λ h block strings. string_bytes l.text ≡ with_lines l.number (length (requests_of strings)) (lines_before h block strings l.place))
