use Rattle.std.proofs.Common.{string_bytes, ◌∙◌, ap, ap₂}
use Rattle.script_printing.proofs.Believed.{with_lines, lines_are}
use Rattle.script_printing.proofs.clients.client_text.Goals as goal

pub returns : goal.returns
returns c = λ g k submits got h names stands are.
    let requests = string_bytes c.in_ok-requests.requests in
    let hearts = string_bytes c.in_ok-hearts.hearts in
    lines_are c.args.id.0 c.submitted-count.result requests hearts _ c.in_ok-format.ensures.ok
    ∙ ap (λ count. with_lines c.args.id.0 count requests hearts) (c.submitted-count.ensures.submits g k submits got stands)
    ∙ ap₂ (with_lines c.args.id.0 _) (c.in_ok-requests.ensures g k submits got stands) (c.in_ok-hearts.ensures g got h names (c.hearts.ensures g k submits got stands) are)
