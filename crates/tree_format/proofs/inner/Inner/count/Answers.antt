use Rattle.std.proofs.Common.{◌∙◌, sym, ap, subst, length}
use Rattle.tree_format.specs.Grammar.{AreNames}
use Rattle.tree_format.proofs.Names.{length-names_in, whole_names}
use Rattle.tree_format.proofs.inner.Inner.count.Goals as goal

pub returns-clause-count : goal.returns-clause-count
returns-clause-count c = sym (length-names_in c.self.inside.count c.self.inside.names.now) ∙ ap length c.self.view_is

pub returns-clause-names : goal.returns-clause-names
returns-clause-names c = subst AreNames c.self.view_is (whole_names c.self.inside.count c.self.inside.names.now c.self.invariant)
