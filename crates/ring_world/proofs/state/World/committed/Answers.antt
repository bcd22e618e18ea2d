use Rattle.std.proofs.Common.{subst}
use Rattle.std.specs.Prelude.{Contains}
use Rattle.std.specs.List.{AllByRecursion}
use Rattle.ring_model.specs.Messages.{Member}
use Rattle.ring_model.specs.World.{world}
use Rattle.ring_world.proofs.state.World.committed.Goals as goal

pub returns-clause-chosen : goal.returns-clause-chosen
returns-clause-chosen g c = λ r events h. let best = c.longest.ensures.best r (world r events).got (world r events).archived h.is.members_are in (best.0, best.1, best.2, best.3.1)

pub returns-clause-submitted : goal.returns-clause-submitted
returns-clause-submitted g c = λ r events h.
    let best = c.longest.ensures.best r (world r events).got (world r events).archived h.is.members_are in
    subst (AllByRecursion (Contains (world r events).submits)) best.3.1 (c.only_submitted.ensures r events h.legal (Member best.0))

pub returns-clause-held : goal.returns-clause-held
returns-clause-held g c = λ r events h few clash k t e. c.chosen_is_held.ensures r few events h.legal clash k t e
