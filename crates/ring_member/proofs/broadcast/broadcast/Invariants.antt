use Rattle.std.proofs.Common.{◌≡◌, ℕ, map, flat_map, take}
use Rattle.ring_model.specs.Messages.{Ring, Member, to_members}
use Rattle.message_model.specs.Meaning.{packet, said}
use Rattle.message_model.specs.Members.{AreToMembers}
use Rattle.ring_member.proofs.broadcast.broadcast.Given as goal

abbrev pub invariant-loop-message : goal.invariant-loop-message
invariant-loop-message l =
    ((g : Ring) (i : ℕ) → g.f ≡ l.f → map (packet i) l.out.items ≡ flat_map (λ m. to_members g (Member i) (said m)) (take l.message-index l.messages)) × AreToMembers l.out.items
