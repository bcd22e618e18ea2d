use Rattle.std.proofs.Common.{◌≡◌, None}
use Rattle.heartbeat.specs.Newest.{newest_among}
use Rattle.heartbeat.proofs.Own.{newest_along}
use Rattle.heartbeat.proofs.entries.newest_in.Given as goal

-- what is found goes on to the newest of all
abbrev pub invariant-loop-key : goal.invariant-loop-key
invariant-loop-key l = newest_along l.object l.newest l.key-iterator ≡ newest_among l.fn.object None l.entries.entries
