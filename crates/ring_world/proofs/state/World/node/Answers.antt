use Rattle.ring_model.specs.Messages.{Member as member}
use Rattle.ring_world.proofs.state.World.node.Goals as goal

pub returns-in_err-node-clause-submitted : goal.returns-in_err-node-clause-submitted
returns-in_err-node-clause-submitted g c = λ r events h. c.only_submitted.ensures r events h.legal (member c.args.i.0)

pub returns-in_err-node-clause-held : goal.returns-in_err-node-clause-held
returns-in_err-node-clause-held g c = λ r events h few clash s t e. c.held_by_many.ensures r few events h.legal clash (member c.args.i.0) s t e

pub returns-clause-submitted : goal.returns-clause-submitted
returns-clause-submitted g c = λ r events h. c.only_submitted.ensures r events h.legal (member c.args.i.0)

pub returns-clause-held : goal.returns-clause-held
returns-clause-held g c = λ r events h few clash s t e. c.held_by_many.ensures r few events h.legal clash (member c.args.i.0) s t e
