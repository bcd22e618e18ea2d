use Rattle.script_printing.proofs.Believed.{heart_line_is}
use Rattle.script_printing.proofs.clients.heart_line.Goals as goal

pub returns : goal.returns
returns c = λ object.
    heart_line_is c.args.label.now c.label_text-label.result.now object c.args.heart (c.in-Some.version, c.in-Some.field-0-1) _ c.in-Some.is c.label_text-label.ensures c.in_ok-format.ensures.ok
