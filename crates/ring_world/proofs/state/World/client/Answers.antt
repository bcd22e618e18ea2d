use Rattle.std.proofs.Common.{◌≡◌, ◌-◌, ℕ, List, length, slice_get, Some, subst}
use Rattle.ring_model.specs.Messages.{Client as client}
use Rattle.ring_model.specs.Belief.{believed, replied}
use Rattle.ring_model.specs.World.{world, chosen}
use Rattle.ring_model.specs.Laws.{IsPrefix}
use Rattle.ring_world.proofs.state.World.client.Goals as goal

pub returns-clause-hearts : goal.returns-clause-hearts
returns-clause-hearts g c = λ r events h few clash o v n e. c.believed_heart.ensures r few events h.legal clash (client c.args.client.0) o v n e

pub returns-clause-seals : goal.returns-clause-seals
returns-clause-seals g c = λ r events h few clash o v n e. c.believed_seal.ensures r few events h.legal clash (client c.args.client.0) o v n e

pub returns-clause-answered : goal.returns-clause-answered
returns-clause-answered g c = λ r events h few right all text there owner.
    subst (λ k. (xs : List (List ℕ)) × IsPrefix xs (chosen r (world r events)) × (slice_get xs (length xs - 1) ≡ Some text) × (believed r (replied (r.number text)) ((world r events).got (client k)) ≡ Some (r.outcome xs))) owner
    (c.all_answered.ensures r few right events h.legal all text there)
