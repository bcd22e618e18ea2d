-- What a step asks of a world's values follows from the events so far.
use Rattle.std.proofs.Common.{◌≡◌, ℕ, ◌<◌, ◌==◌, List, length, count_by, get_or, arith}
use Rattle.std.proofs.lemmas.List.Sums.{length-filter}
use Rattle.ring_model.specs.Messages.{Ring, Party, Member as member, Client as client}
use Rattle.ring_model.specs.World as model
use Rattle.ring_model.specs.World.{world, IsParty}
use Rattle.message_model.specs.Meaning.{who}
use Rattle.ring_mail.proofs.Keeping.{filter-short}
use Rattle.ring_world.specs.declared.event.Event.{Event}
use Rattle.ring_world.specs.declared.event.Event.TheVariants.{Submit, Resubmit, Deliver, Forge}
use Rattle.ring_world.specs.declared.state.World.{World}
use Rattle.ring_model.specs.Deliveries.{deliveries}
use Rattle.ring_world.specs.Standing.{Standing}
use Rattle.ring_world.specs.Conditions.{MayStep}
use Rattle.ring_world.specs.Steps.{IsStep, IsClient, IsDeclared}
use Rattle.ring_world.specs.Worlds.{WorldStands}
use Rattle.ring_world.proofs.Requests.{numbered_next}

-- a declared client is one of the world
declared_client : {N : Type 0} (stands : Standing N) (g : Ring) (w : World N) (events : List model.Event) (c : ℕ) → WorldStands stands g w events → c < g.clients → IsClient w c
declared_client stands g w events c s low = (omega (arith, low, s.is.small.few_clients), omega (arith, low, s.is.client_count))

-- and a declared party
party_declared : {N : Type 0} (stands : Standing N) (g : Ring) (w : World N) (events : List model.Event) (p : Party) → WorldStands stands g w events → IsParty g p → IsDeclared w p
party_declared stands g w events (member i) s low = (omega (arith, low, s.is.small.few), omega (arith, low, s.is.members_are.count))
party_declared stands g w events (client c) s low = declared_client stands g w events c s low

pub step_fits : {N : Type 0} (stands : Standing N) (g : Ring) (w : World N) (events : List model.Event) (e : Event) → WorldStands stands g w events → MayStep g (world g events) e → IsStep w e
step_fits stands g w events (Submit c label update) s may =
    let known = declared_client stands g w events c.0 s may.0 in (
      known,
      λ d.
          let size : length (get_or w.clients.items c.0 d).requests.items ≡ count_by (λ r. g.owner r == c.0) (world g events).submits = numbered_next stands g w (world g events) (deliveries g events) c.0 d known.1 s.is in
          let all = length-filter (λ r. g.owner r == c.0) (world g events).submits in
          let short = filter-short (λ r. g.owner r == c.0) (world g events).submits in
          omega (arith, size, all, short, may.1),
      may.2,
    )
step_fits stands g w events (Resubmit c n) s may =
    let known = declared_client stands g w events c.0 s may.0 in (
      known,
      may.1,
      λ d.
          let size : length (get_or w.clients.items c.0 d).requests.items ≡ count_by (λ r. g.owner r == c.0) (world g events).submits = numbered_next stands g w (world g events) (deliveries g events) c.0 d known.1 s.is in
          omega (arith, size, may.2),
    )
step_fits stands g w events (Deliver p q k) s may = (party_declared stands g w events (who p) s may.0, party_declared stands g w events (who q) s may.1)
step_fits stands g w events (Forge i q bytes) s may = (party_declared stands g w events (member i.0) s may.0, party_declared stands g w events (who q) s may.1)
