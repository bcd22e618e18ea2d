use Rattle.std.proofs.Common.{◌≡◌, ◌++◌, ℕ, map}
use Rattle.std.specs.List.{range_with_len}
use Rattle.ring_model.specs.Messages.{Member}
use Rattle.message_model.specs.Meaning.{packet, meaning}
use Rattle.message_model.specs.Members.{AreToMembers}
use Rattle.ring_member.proofs.broadcast.send_to_all.Given as goal

abbrev pub invariant-loop-member : goal.invariant-loop-member
invariant-loop-member l =
    ((i : ℕ) → map (packet i) l.out.items ≡ map (packet i) l.fn.out.items ++ map (λ j. record { from = Member i; to = Member j; message = meaning l.bytes }) (range_with_len 0 l.member))
    × (AreToMembers l.fn.out.items → AreToMembers l.out.items)
