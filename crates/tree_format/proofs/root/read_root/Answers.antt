use Rattle.std.proofs.Common.{◌∙◌, sym, subst}
use Rattle.tree_format.specs.Grammar.{IsRoot}
use Rattle.tree_format.proofs.Roots.{root_string-injective, widths_of}
use Rattle.tree_format.proofs.root.read_root.Goals as goal

pub returns-then-is_root-clause-spelled : goal.returns-then-is_root-clause-spelled
returns-then-is_root-clause-spelled c = λ root is e.
    root_string-injective c.root_at-root.result root c.root_at-root.ensures.widths (widths_of root is) (c.root_at-root.ensures.string ∙ e)

pub returns-else-is_root-clause-spelled : goal.returns-else-is_root-clause-spelled
returns-else-is_root-clause-spelled c = λ root is e.
    let same = root_string-injective c.root_at-root.result root c.root_at-root.ensures.widths (widths_of root is) (c.root_at-root.ensures.string ∙ e) in
    let yes = c.is_root.ensures.1 (subst IsRoot (sym same) is) in cc
