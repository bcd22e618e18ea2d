use Rattle.std.proofs.Common.{[], not, length, IfSome, Contains, refl, ap, ◌∙◌, ◌+◌, ◌*◌, arith}
use Rattle.block_names.proofs.Clashed.{named_apart, clash_among}
use Rattle.object_model.specs.Trees.{version_strings}
use Rattle.pond_node.specs.Standing as node
use Rattle.pond_world.specs.Setups.{ring_by, is_among}
use Rattle.pond_world.proofs.Faulty.{one_is_there}
use Rattle.pond_world.proofs.Made.{each_at}
use Rattle.pond_world.proofs.opening.open.Goals as goal

pub nodes_of-requires-clause-few : goal.nodes_of-requires-clause-few
nodes_of-requires-clause-few g c = omega (arith, ap length c.as_slice-faulty.ensures, c.requires.few_faulty)

pub new-requires-clause-correct : goal.new-requires-clause-correct
new-requires-clause-correct g c =
    one_is_there c.as_slice-faulty.result.now c.in-Ok.nodes.items (3 * c.args.setup.now.f + 1) c.in-Ok.ensures.count (omega (arith, ap length c.as_slice-faulty.ensures, c.requires.few_faulty))
    c.in-Ok.ensures.there

pub returns-in-Ok-new-clause-stands : goal.returns-in-Ok-new-clause-stands
returns-in-Ok-new-clause-stands g c = λ archiving.
    let setup = c.args.setup.now in
    c.in-Ok-new.ensures.stands (ring_by g.H.Hash160.naming setup archiving)
    (record {
      small = record { few = c.requires.few; few_clients = c.requires.few_clients; slots = refl };
      count = c.in-Ok.ensures.count;
      there_are = λ i d low. c.in-Ok.ensures.there i d (omega (arith, low, c.in-Ok.ensures.count)) ∙ ap (λ members. not (is_among members i)) c.as_slice-faulty.ensures;
      nodes_stand = λ i d low. c.in-Ok.ensures.stand archiving i d (omega (arith, low, c.in-Ok.ensures.count));
      clients_are = refl;
    })

pub returns-in-Ok-new-clause-known : goal.returns-in-Ok-new-clause-known
returns-in-Ok-new-clause-known g c =
    c.in-Ok-new.ensures.known g.H.Hash160.naming c.nodes_of.new.book.held
    (each_at (λ one. IfSome one (node.IsKnown g.H.Hash160.naming c.nodes_of.new.book.held)) c.in-Ok.nodes.items c.in-Ok.ensures.known)

pub returns-in-Ok-new-clause-apart : goal.returns-in-Ok-new-clause-apart
returns-in-Ok-new-clause-apart g c =
    named_apart g.H.Hash160.naming c.args.book.now.held c.nodes_of.new.book.held (version_strings g.H.Hash160.naming c.args.setup.now.block [] []) c.nodes_of.ensures.grew c.in-Ok.ensures.all

pub returns-in-Err-clause-clash : goal.returns-in-Err-clause-clash
returns-in-Err-clause-clash g c =
    clash_among g.H.Hash160.naming c.args.book.now.held c.nodes_of.new.book.held (Contains (version_strings g.H.Hash160.naming c.args.setup.now.block [] [])) c.in-Err.fault c.nodes_of.ensures.grew c.in-Err.ensures.fault
