use Rattle.std.proofs.Common.{◌≡◌, ◌∙◌, length, arith}
use Rattle.script_printing.proofs.Versions.{shape_line_is}
use Rattle.script_printing.proofs.shapes.shape_line.Goals as goal

pub returns : goal.returns
returns c = λ h block content older stands just.
    let counted : c.len-count.result ≡ length c.in_ok-strings.field-0.items = omega (arith, c.len-count.ensures, c.in_ok-strings.field-0.ok.0) in
    c.in_ok-format.ensures.ok
    ∙ shape_line_is h block content older c.args.tree.now c.root-root.result.now c.in_ok-strings.field-0.items c.len-count.result c.args.fresh c.root-root.ensures.value stands
    (c.in_ok-strings.ensures h block content older stands) counted just
