use Rattle.std.proofs.Common.{◌≡◌, ℕ, map}
use Rattle.client_core.specs.Sending.{sent, asks}
use Rattle.client_core.proofs.asking.to_each.Given as goal

-- so far one message for each number
abbrev pub invariant-loop-number : goal.invariant-loop-number
invariant-loop-number l = (c : ℕ) → map (sent c) l.outs.items ≡ asks l.number c l.message
