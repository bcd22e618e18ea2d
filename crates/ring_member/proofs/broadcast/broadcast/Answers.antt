use Rattle.std.proofs.Common.{◌<◌, ◌++◌, ◌∷◌, [], List, length, map, flat_map, take, ap, sym, ◌∙◌, arith, append-nil}
use Rattle.std.proofs.lemmas.List.{take_more}
use Rattle.std.proofs.lemmas.Grind.{flat_map-append}
use Rattle.ring_message.specs.declared.message.Message.{Message}
use Rattle.ring_model.specs.Messages.{Packet, Member, to_members}
use Rattle.message_model.specs.Meaning.{packet, said, meaning}
use Rattle.message_model.proofs.Meant.{messages_are_meant}
use Rattle.ring_member.proofs.broadcast.broadcast.Goals as goal

pub loop-message-preserved : goal.loop-message-preserved
loop-message-preserved c = (
  λ g i faults.
      let ms = c.args.messages.now in
      let k = c.loop-message.message-index in
      let m = c.message-item.result in
      let low : k < length ms = omega arith in
      let send : Message → List Packet = λ m. to_members g (Member i) (said m) in
      c.in_ok-send_to_all.ensures.sent g i faults
      ∙ ap (λ x. map (packet i) c.loop-message.out.items ++ to_members g (Member i) x) (ap meaning c.in_ok-bytes.ensures.string ∙ messages_are_meant m c.in_ok-bytes.ensures.allowed)
      ∙ ap (λ xs. xs ++ send m) (c.loop-message.invariant.0 g i faults)
      ∙ ap (λ x. flat_map send (take k ms) ++ x) (sym (append-nil (send m)))
      ∙ sym (flat_map-append send (take k ms) (m ∷ []))
      ∙ ap (λ x. flat_map send (take k ms ++ x ∷ [])) c.message-item.is
      ∙ ap (flat_map send) (sym (take_more ms k m low)),
  c.in_ok-send_to_all.ensures.seats c.loop-message.invariant.1,
)
