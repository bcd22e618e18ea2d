use Rattle.std.proofs.Common.{◌≡◌, ◌++◌, ℕ, map}
use Rattle.std.specs.List.{range_with_len}
use Rattle.ring_model.specs.Messages.{Member, Client}
use Rattle.message_model.specs.Meaning.{packet, meaning}
use Rattle.pond_node.specs.Answers.{AreSeated}
use Rattle.pond_node.proofs.answering.send_to_clients.Given as goal

abbrev pub invariant-loop-client : goal.invariant-loop-client
invariant-loop-client l =
    ((i : ℕ) → map (packet i) l.out.items ≡ map (packet i) l.fn.out.items ++ map (λ c. record { from = Member i; to = Client c; message = meaning l.bytes }) (range_with_len 0 l.client))
    × (AreSeated l.fn.out.items → AreSeated l.out.items)
