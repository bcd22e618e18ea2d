use Rattle.std.proofs.Common.{◌+◌, ◌≤◌, length, subst, arith}
use Rattle.tree_format.specs.declared.root.Root.{Root}
use Rattle.object_model.specs.Updates.{largest}
use Rattle.tree_speed.proofs.Edits.{append_fits}
use Rattle.tree_speed.proofs.editing.append.Goals as goal

pub apply-requires-clause-edits : goal.apply-requires-clause-edits
apply-requires-clause-edits g c =
    append_fits g.H.Hash160.naming c.args.book.now.held c.args.tree.now c.in_ok-content.content c.requires
    (subst (λ (r : Root). r.length + length c.in_ok-content.content ≤ largest) c.root-2.ensures.value (omega (arith, c.len.ensures.value, c.if-root-len-gt-MOST_OBJECT_BYTES.false)))
