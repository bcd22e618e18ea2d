use Rattle.std.proofs.Common.{◌≡◌, take}
use Rattle.dissemination.proofs.walking.inner_names.Given as goal

abbrev pub invariant-loop-place : goal.invariant-loop-place
invariant-loop-place l = l.names ≡ take l.place l.inner
