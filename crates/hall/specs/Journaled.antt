-- A machine beside its journal.
use Rattle.std.specs.Prelude.{List}

-- the events that were done, in order, and the state of the machine
pub record Journaled (Event State : Type 0) : Type 0 where
  pub journal : List Event
  pub state : State
