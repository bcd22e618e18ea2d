use Rattle.std.proofs.Common.{◌∷◌, flat_map, ap, ◌∙◌}
use Rattle.ring_model.specs.Messages.{Letter, Member, to_members}
use Rattle.message_model.specs.Meaning.{who, said}
use Rattle.ring_member.proofs.Sent.{flat_said, all_sent}
use Rattle.ring_member.proofs.member.Member.answer.Goals as goal

pub returns-clause-out : goal.returns-clause-out
returns-clause-out g c = λ g' i got ring party st.
    let st' = c.in_ok-messages.ensures.stands g' i got ring party st in
    let l : Letter = record { from = who c.args.from; message = said c.args.message } in
    c.in_ok-broadcast.ensures.sent g' i st'.progress_stands.live.faults
    ∙ ap (flat_map (λ m. to_members g' (Member i) (said m))) c.deref.ensures.value
    ∙ flat_said (to_members g' (Member i)) c.in_ok-messages.messages.items
    ∙ ap (flat_map (to_members g' (Member i))) (c.in_ok-messages.ensures.told g' i got ring party st)
    ∙ all_sent g' i got (l ∷ got)
