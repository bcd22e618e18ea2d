-- What settles of a world pass over.
use Rattle.std.specs.Prelude.{◌≡◌, false}
use Rattle.ring_model.specs.Messages.{Party as Who}
use Rattle.ring_model.specs.Places.{Place}
use Rattle.ring_mail.specs.Skips as mail
use Rattle.ring_mail.specs.Skips.{Skips}
use Rattle.ring_world.specs.declared.state.World.{World}

-- what settles of a world pass over
abbrev pub skips : {N : Type 0} → World N → Skips
skips w = mail.skips w.mail

-- nothing is passed over
abbrev pub PassNothing : Skips → Type 0
PassNothing skips = ((p : Who) → skips.muted p ≡ false) × ((a : Place) → skips.lost a ≡ false)
