use Rattle.std.proofs.Common.{◌∙◌, sym}
use Rattle.pond_base.proofs.Rooms.{is_padded}
use Rattle.pond_base.proofs.label.Label.read.Goals as goal

pub invariant_of-result : goal.invariant_of-result
invariant_of-result c =
    rw c.copy_from_slice.ensures.after (is_padded c.args.bytes.now (sym c.is_label.ensures ∙ c.if-not-is_label.false))
