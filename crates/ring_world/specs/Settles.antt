-- What settling does.
use Rattle.std.specs.Prelude.{◌≡◌, ℕ, Bool, false, List, take, ◌++◌, length, None, Contains}
use Rattle.std.specs.List.{AllByRecursion as Each}
use Rattle.block_names.specs.Held.{Held}
use Rattle.block_names.specs.Growth.{keep_all, Grew}
use Rattle.block_names.specs.Clashes.{AreHeld}
use Rattle.ring_model.specs.Messages.{Ring}
use Rattle.ring_model.specs.World.{Event, world}
use Rattle.ring_model.specs.Places.{Place, places, is_due}
use Rattle.ring_world.specs.declared.state.World.{World}
use Rattle.ring_world.specs.Standing.{Standing}
use Rattle.ring_model.specs.Deliveries.{deliveries, pending, settled}
use Rattle.message_model.specs.Naming.{named_along}
use Rattle.ring_world.specs.Worlds.{WorldStands}

-- what is held was held at first, or was named by these deliveries, whose strings are all held
pub record HoldsMore (h : List ℕ → List ℕ) (g : Ring) (events late : List Event) (first now : Held) : Type 0 where
  pub held : now ≡ keep_all h (named_along g events late) first
  pub all : AreHeld h now (named_along g events late)
  pub grew : Grew h first (Contains (named_along g events late)) now

-- these deliveries were made, and as many of the first messages are not due
pub record SweptBy {N : Type 0} (stands : Standing N) (g : Ring) (skipped : Place → Bool) (events : List Event) (w : World N) (count : ℕ) (late : List Event) : Type 0 where
  pub is : WorldStands stands g w (late ++ events)
  pub passed : Each (λ a. is_due skipped (deliveries g (late ++ events)) a ≡ false) (take count (places (world g (late ++ events)).sent))
  pub size : length late ≡ count

abbrev pub Swept : {N : Type 0} → Standing N → Ring → (Place → Bool) → List Event → World N → ℕ → Type 0
Swept stands g skipped events w count = SweptBy stands g skipped events w count (settled g skipped events count)

-- n deliveries were made, each of what was pending then, and nothing is pending now
pub record Settles {N : Type 0} (stands : Standing N) (g : Ring) (skipped : Place → Bool) (events : List Event) (w : World N) (n : ℕ) : Type 0 where
  pub is : WorldStands stands g w (settled g skipped events n ++ events)
  pub count : length (settled g skipped events n) ≡ n
  pub all : pending g skipped (settled g skipped events n ++ events) ≡ None
