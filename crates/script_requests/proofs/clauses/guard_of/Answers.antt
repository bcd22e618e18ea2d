use Rattle.std.proofs.Common.{rules}
use Rattle.tree_format.specs.Strings.{leaf_string}
use Rattle.script_requests.proofs.Holds.{all_named}
use Rattle.script_requests.proofs.clauses.guard_of.Goals as goal

pub returns-in_ok-name-in-BlockIs-clause-holds : goal.returns-in_ok-name-in-BlockIs-clause-holds
returns-in_ok-name-in-BlockIs-clause-holds g c =
    rw c.in-BlockIs.is (all_named g.H.Hash160.naming c.args.book.now.held c.name.new.self.held c.as_slice-in-BlockIs.result.now (leaf_string c.in-BlockIs.content)
    (search rules) c.in_ok-name-in-BlockIs.ensures.held)
