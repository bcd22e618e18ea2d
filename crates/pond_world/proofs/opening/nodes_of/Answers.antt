use Rattle.std.proofs.Common.{◌≡◌, ◌+◌, ◌*◌, ◌<◌, [], length, Contains, arith}
use Rattle.object_model.specs.Trees.{version_strings}
use Rattle.pond_world.proofs.Faulty.{one_is_there}
use Rattle.pond_world.proofs.Made.{none_made, one_made, grew_on}
use Rattle.pond_world.proofs.opening.nodes_of.Goals as goal

pub loop-id-init : goal.loop-id-init
loop-id-init g c = none_made g.H.Hash160.naming c.args.setup.now c.args.faulty.now c.args.book.now.held c.new-nodes.result.items c.new-nodes.ensures.items

pub returns-in-Err-clause-grew : goal.returns-in-Err-clause-grew
returns-in-Err-clause-grew g c =
    grew_on g.H.Hash160.naming c.args.book.now.held c.loop-id.book.held c.node_of.new.book.held (Contains (version_strings g.H.Hash160.naming c.args.setup.now.block [] [])) c.loop-id.invariant.grew
    c.in-Err.ensures.grew

pub returns-in_default-clause-grew : goal.returns-in_default-clause-grew
returns-in_default-clause-grew g c =
    grew_on g.H.Hash160.naming c.args.book.now.held c.loop-id.book.held c.node_of.new.book.held (Contains (version_strings g.H.Hash160.naming c.args.setup.now.block [] [])) c.loop-id.invariant.grew
    c.in-Ok.ensures.grew

pub loop-id-preserved : goal.loop-id-preserved
loop-id-preserved g c =
    one_made g.H.Hash160.naming c.args.setup.now c.args.faulty.now c.args.book.now.held c.loop-id.book.held c.node_of.new.book.held c.loop-id.nodes.items c.push.new.self.items c.in-Ok.node c.loop-id.id
    (omega (arith, c.requires.setup.least)) c.loop-id.invariant c.in-Ok-push.ensures.items c.in-Ok.ensures.there c.in-Ok.ensures.stands c.in-Ok.ensures.known c.in-Ok.ensures.held c.in-Ok.ensures.all c.in-Ok.ensures.grew

pub returns-clause-count : goal.returns-clause-count
returns-clause-count g c = omega (arith, c.loop-id.invariant.size)

pub returns-clause-there : goal.returns-clause-there
returns-clause-there g c = c.loop-id.invariant.there

pub returns-clause-stand : goal.returns-clause-stand
returns-clause-stand g c = c.loop-id.invariant.stand

pub returns-clause-known : goal.returns-clause-known
returns-clause-known g c = c.loop-id.invariant.known

pub returns-clause-held : goal.returns-clause-held
returns-clause-held g c =
    let size : length c.loop-id.nodes.items ≡ 3 * c.args.setup.now.f + 1 = omega (arith, c.loop-id.invariant.size) in
    let few : length c.args.faulty.now < 3 * c.args.setup.now.f + 1 = omega (arith, c.requires.few) in
    c.loop-id.invariant.held (one_is_there c.args.faulty.now c.loop-id.nodes.items (3 * c.args.setup.now.f + 1) size few c.loop-id.invariant.there)

pub returns-clause-all : goal.returns-clause-all
returns-clause-all g c =
    let size : length c.loop-id.nodes.items ≡ 3 * c.args.setup.now.f + 1 = omega (arith, c.loop-id.invariant.size) in
    let few : length c.args.faulty.now < 3 * c.args.setup.now.f + 1 = omega (arith, c.requires.few) in
    c.loop-id.invariant.all (one_is_there c.args.faulty.now c.loop-id.nodes.items (3 * c.args.setup.now.f + 1) size few c.loop-id.invariant.there)

pub returns-clause-grew : goal.returns-clause-grew
returns-clause-grew g c = c.loop-id.invariant.grew
