-- What a walk counts.
use Rattle.std.specs.Prelude.{◌≡◌, ◌+◌}
use Rattle.replica_model.specs.Walks.{Walk}
use Rattle.dissemination.specs.declared.walking.Counts.{Counts}

abbrev pub counts_of : Walk → Counts
counts_of walk = record { put = walk.put; missing = walk.missing }

-- both counts together
abbrev pub IsSum : Counts → Counts → Counts → Type 0
IsSum counts more all = all ≡ record { put = counts.put + more.put; missing = counts.missing + more.missing }
