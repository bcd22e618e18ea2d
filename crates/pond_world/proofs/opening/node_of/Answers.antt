use Rattle.std.proofs.Common.{refl}
use Rattle.fold_model.proofs.Joined.{ring_is_read}
use Rattle.pond_world.specs.Setups.{is_among}
use Rattle.pond_world.proofs.opening.node_of.Goals as goal

pub returns-in-Ok-clause-stands : goal.returns-in-Ok-clause-stands
returns-in-Ok-clause-stands g c = λ archiving.
    let setup = c.args.setup.now in
    c.in-Ok.ensures.stands _ (ring_is_read setup.f setup.clients (is_among setup.faulty) g.H.Hash160.naming setup.block archiving) refl refl refl
    (record { outcomes = λ strings. refl; hearts = λ strings. refl; named = λ strings. refl })
