use Rattle.std.proofs.Common.{◌≡◌, map, ap, sym, subst, ◌∙◌}
use Rattle.ring_model.specs.Messages.{Party, Client, PrePrepare}
use Rattle.ring_model.specs.World.{IsParty}
use Rattle.message_model.specs.Meaning.{who, said}
use Rattle.ring_member.proofs.Quiets.{Idle, idle_stands, idle_told, order_from_client}
use Rattle.ring_member.proofs.member.Member.take_order.Goals as goal

pub returns-in-Client-clause-stands : goal.returns-in-Client-clause-stands
returns-in-Client-clause-stands c = λ g i got party st.
    let from : who c.args.from ≡ Client c.in-Client.field-0.0 = ap who c.in-Client.is in
    let msg = PrePrepare c.args.seq.0 c.args.request in
    idle_stands g i c.args.self.now got (record { from = who c.args.from; message = msg }) st
    (subst (λ (p : Party). Idle g (record { from = p; message = msg })) (sym from) (order_from_client g c.in-Client.field-0.0 c.args.seq.0 c.args.request (subst (IsParty g) from party)))

pub returns-in-Client-clause-told : goal.returns-in-Client-clause-told
returns-in-Client-clause-told c = λ g i got party st.
    let from : who c.args.from ≡ Client c.in-Client.field-0.0 = ap who c.in-Client.is in
    let msg = PrePrepare c.args.seq.0 c.args.request in
    ap (map said) c.new.ensures.items
    ∙ sym (idle_told g i c.args.self.now got (record { from = who c.args.from; message = msg }) st
    (subst (λ (p : Party). Idle g (record { from = p; message = msg })) (sym from) (order_from_client g c.in-Client.field-0.0 c.args.seq.0 c.args.request (subst (IsParty g) from party))))
