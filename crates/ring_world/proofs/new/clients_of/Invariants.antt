use Rattle.std.proofs.Common.{◌≡◌, ◌<◌, ℕ, [], length, get_or}
use Rattle.ring_model.specs.Messages.{Ring}
use Rattle.client_core.specs.declared.client.Client.{Client}
use Rattle.client_core.specs.Clients.{ClientStands}
use Rattle.ring_world.proofs.new.clients_of.Given as goal

-- so far one client for each number, which submitted nothing
abbrev pub invariant-loop-number : goal.invariant-loop-number
invariant-loop-number l =
    (length l.clients.items ≡ l.number)
    × ((g : Ring) → g.f ≡ l.f → (c : ℕ) (d : Client) → c < l.number → ClientStands (get_or l.clients.items c d) g c [] [])
    × ((c : ℕ) (d : Client) → c < l.number → length (get_or l.clients.items c d).requests.items ≡ 0)
