-- The ring of a setup.
use Rattle.std.specs.Prelude.{ℕ, ◌≤◌, ◌==◌, Bool, List, length}
use Rattle.std.specs.List.{list_any}
use Rattle.pond_base.specs.declared.numbers.MemberId.{MemberId}
use Rattle.guarded_update.specs.declared.setup.Setup.{Setup}
use Rattle.ring_model.specs.Messages.{Ring, FewFaulty}
use Rattle.message_model.specs.Reading.{IsRingOf}
use Rattle.fold_model.specs.Folds.{Archiving}
use Rattle.fold_model.specs.Rings.{ring_of}

-- a setup within the limits, which declares no more members faulty than the ring tolerates
pub record IsSetup (setup : Setup) : Type 0 where
  pub few : setup.f ≤ 3
  pub some_client : 1 ≤ setup.clients
  pub few_clients : setup.clients ≤ 16
  pub least : 64 ≤ setup.block
  pub most : setup.block ≤ 8192
  pub few_faulty : length setup.faulty ≤ setup.f

-- whether a member is in a list
abbrev pub is_among : List MemberId → ℕ → Bool
is_among members i = list_any (λ (member : MemberId). member.0 == i) members

-- the ring of a setup, whose members fold what they execute, and name strings by h
abbrev pub ring_by : (List ℕ → List ℕ) → Setup → Archiving → Ring
ring_by h setup archiving = ring_of setup.f setup.clients (is_among setup.faulty) h setup.block archiving

-- The ring of a setup reads requests as the grammar does, and few of its members are faulty.
abbrev pub RingIsSound : Type 0
RingIsSound = (h : List ℕ → List ℕ) (setup : Setup) (archiving : Archiving) → IsSetup setup → IsRingOf h (ring_by h setup archiving) × FewFaulty (ring_by h setup archiving)
