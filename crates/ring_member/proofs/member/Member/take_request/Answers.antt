use Rattle.std.proofs.Common.{◌≡◌, map, ap, sym, subst, ◌∙◌}
use Rattle.ring_model.specs.Messages.{Party, Member, Request}
use Rattle.ring_model.specs.World.{IsParty}
use Rattle.message_model.specs.Meaning.{who, said}
use Rattle.ring_member.proofs.Quiets.{Idle, idle_stands, idle_told, request_from_member}
use Rattle.ring_member.proofs.member.Member.take_request.Goals as goal

pub returns-in-Member-clause-stands : goal.returns-in-Member-clause-stands
returns-in-Member-clause-stands g c = λ g' i got ring party st.
    let from : who c.args.from ≡ Member c.in-Member.field-0.0 = ap who c.in-Member.is in
    let msg = Request c.args.request in
    idle_stands g' i c.args.self.now got (record { from = who c.args.from; message = msg }) st
    (subst (λ (p : Party). Idle g' (record { from = p; message = msg })) (sym from) (request_from_member g' c.in-Member.field-0.0 c.args.request (subst (IsParty g') from party)))

pub returns-in-Member-clause-told : goal.returns-in-Member-clause-told
returns-in-Member-clause-told g c = λ g' i got ring party st.
    let from : who c.args.from ≡ Member c.in-Member.field-0.0 = ap who c.in-Member.is in
    let msg = Request c.args.request in
    ap (map said) c.new.ensures.items
    ∙ sym (idle_told g' i c.args.self.now got (record { from = who c.args.from; message = msg }) st
    (subst (λ (p : Party). Idle g' (record { from = p; message = msg })) (sym from) (request_from_member g' c.in-Member.field-0.0 c.args.request (subst (IsParty g') from party))))
