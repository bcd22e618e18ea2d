use Rattle.tree_format.proofs.Names.{spelled_whole, only_names, joined_string, whole_names}
use Rattle.tree_format.proofs.inner.read_inner.Goals as goal

pub returns-then-not-are_whole-clause-spelled : goal.returns-then-not-are_whole-clause-spelled
returns-then-not-are_whole-clause-spelled c = λ names is e.
    let yes = c.are_whole.ensures.1 (spelled_whole c.args.bytes.now _ _ c.in-Some.ensures names is e) in cc

pub returns-clause-read : goal.returns-clause-read
returns-clause-read c = let whole = c.are_whole.ensures.0 c.if-not-are_whole.false in
    (joined_string c.args.bytes.now _ _ c.in-Some.ensures whole, whole_names _ _ whole)

pub returns-clause-spelled : goal.returns-clause-spelled
returns-clause-spelled c = λ names is e. only_names c.args.bytes.now _ _ c.in-Some.ensures names is e
