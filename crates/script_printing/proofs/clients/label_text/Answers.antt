use Rattle.std.proofs.Common.{◌∙◌, ap}
use Rattle.pond_base.specs.Label.{is_label}
use Rattle.script_printing.proofs.LabelBytes.{is_text}
use Rattle.script_printing.proofs.clients.label_text.Goals as goal

pub unreachable-requires : goal.unreachable-requires
unreachable-requires c = c.in-Err.ensures.cases.0 (is_text c.bytes.result.now (ap is_label c.bytes.ensures.value ∙ c.bytes.ensures.label))
