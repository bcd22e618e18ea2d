use Rattle.std.proofs.Common.{◌+◌, ◌≤◌, length, subst, arith}
use Rattle.tree_format.specs.declared.root.Root.{Root}
use Rattle.tree_speed.proofs.Edits.{replace_fits}
use Rattle.tree_speed.proofs.editing.put_byte.Goals as goal

pub apply-requires-clause-edits : goal.apply-requires-clause-edits
apply-requires-clause-edits g c =
    replace_fits g.H.Hash160.naming c.args.book.now.held c.args.tree.now c.args.place c.in_ok-content.content c.requires
    (subst (λ (r : Root). c.args.place + length c.in_ok-content.content ≤ r.length) c.root-2.ensures.value (omega (arith, c.len.ensures.value, c.if-place-len.false)))
