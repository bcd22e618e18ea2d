use Rattle.std.proofs.Common.{◌≡◌, List}
use Rattle.block_names.specs.Growth.{Keeps}
use Rattle.ring_model.specs.Messages.{Ring}
use Rattle.ring_model.specs.World.{Event}
use Rattle.message_model.specs.Reading.{IsRingOf}
use Rattle.ring_mail.specs.Skips.{is_skipped}
use Rattle.ring_world.specs.Skipping.{skips}
use Rattle.ring_model.specs.Deliveries.{settled}
use Rattle.ring_world.specs.Worlds.{WorldStands, IsKnown}
use Rattle.ring_world.specs.Settles.{Swept, HoldsMore}
use Rattle.ring_world.proofs.state.World.sweep.Given as goal

abbrev pub invariant-loop-count : goal.invariant-loop-count
invariant-loop-count g l = record {
  going : l.self.ended ≡ l.fn.self.ended;
  same : skips l.self ≡ skips l.fn.self;
  known : IsKnown g.N.Node.knows g.H.Hash160.naming l.book.held l.self;
  keeps : Keeps l.fn.book.held l.book.held;
  swept : (r : Ring) (events : List Event) → IsRingOf g.H.Hash160.naming r → WorldStands g.N.Node.stands r l.fn.self events → Swept g.N.Node.stands r (is_skipped (skips l.fn.self)) events l.self l.count;
  more : (r : Ring) (events : List Event) → IsRingOf g.H.Hash160.naming r → WorldStands g.N.Node.stands r l.fn.self events
      → HoldsMore g.H.Hash160.naming r events (settled r (is_skipped (skips l.fn.self)) events l.count) l.fn.book.held l.book.held;
}
