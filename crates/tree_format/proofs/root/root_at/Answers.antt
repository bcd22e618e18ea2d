use Rattle.tree_format.proofs.RootParts.{parts}
use Rattle.tree_format.proofs.root.root_at.Goals as goal

pub returns-clause-string : goal.returns-clause-string
returns-clause-string c = parts c.args.bytes.now _ _ _ _ _ c.requires.whole c.requires.kind c.number_at.ensures c.number_at-2.ensures c.number_at-3.ensures c.name_at.ensures c.name_at-2.ensures
