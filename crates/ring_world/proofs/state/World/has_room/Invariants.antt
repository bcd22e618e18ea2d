use Rattle.std.proofs.Common.{◌≡◌, ◌<◌, ◌+◌, take, length}
use Rattle.std.specs.List.{sum_by}
use Rattle.client_core.specs.declared.client.Client.{Client}
use Rattle.ring_world.proofs.state.World.has_room.Given as goal

abbrev pub invariant-loop-client : goal.invariant-loop-client
invariant-loop-client g l = record {
  some : 0 < l.left;
  all : l.left + sum_by (λ (c : Client). length c.requests.items) (take l.client-index l.self.clients.items) ≡ 65536;
}
