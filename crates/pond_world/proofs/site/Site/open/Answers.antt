use Rattle.std.proofs.Common.{[], Contains, subst}
use Rattle.block_names.specs.Clashes.{NoneClash, IsClashAmong}
use Rattle.object_model.specs.Trees.{version_strings}
use Rattle.pond_world.specs.Sites.{IsClashAfter}
use Rattle.pond_world.proofs.site.Site.open.Goals as goal

pub invariant_of-result : goal.invariant_of-result
invariant_of-result g c = λ going. c.in-Ok.ensures.known

pub returns-in-Err-clause-fault : goal.returns-in-Err-clause-fault
returns-in-Err-clause-fault g c =
    subst (λ held. IsClashAfter g.H.Hash160.naming held (Contains (version_strings g.H.Hash160.naming c.args.setup.now.block [] [])) c.in-Err.fault) c.new-book.ensures.held
    (c.open.new.book.held, c.in-Err.ensures.grew, c.in-Err.ensures.fault)

pub returns-in-Ok-clause-apart : goal.returns-in-Ok-clause-apart
returns-in-Ok-clause-apart g c = subst (λ held. NoneClash g.H.Hash160.naming held (Contains (version_strings g.H.Hash160.naming c.args.setup.now.block [] []))) c.new-book.ensures.held c.in-Ok.ensures.apart

pub returns-in-Err-clause-clash : goal.returns-in-Err-clause-clash
returns-in-Err-clause-clash g c = subst (λ held. IsClashAmong g.H.Hash160.naming held (Contains (version_strings g.H.Hash160.naming c.args.setup.now.block [] [])) c.in-Err.fault) c.new-book.ensures.held c.in-Err.ensures.clash
