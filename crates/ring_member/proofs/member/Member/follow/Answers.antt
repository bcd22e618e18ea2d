use Rattle.std.proofs.Common.{◌≡◌, ◌∷◌, map, ap, sym, subst, ◌∙◌, ℕ}
use Rattle.ring_model.specs.Messages.{Member, PrePrepare}
use Rattle.message_model.specs.Meaning.{said}
use Rattle.ring_member.specs.Views.{view_of}
use Rattle.ring_member.specs.Standing.{Stands}
use Rattle.ring_member.specs.Told.{votes_told}
use Rattle.member_orders.proofs.Owed.{quiet_stands}
use Rattle.ring_member.proofs.Quiets.{order_orders, order_from_member, votes_alone, idle_stands, idle_told}
use Rattle.ring_member.proofs.member.Member.follow.Goals as goal

pub returns-then-sender-ne0-clause-stands : goal.returns-then-sender-ne0-clause-stands
returns-then-sender-ne0-clause-stands c = λ g i got party st.
    idle_stands g i c.args.self.now got (record { from = Member c.args.sender.0; message = PrePrepare c.args.seq.0 c.args.request }) st (order_from_member g c.args.sender.0 c.args.seq.0 c.args.request party c.if-sender-ne0.true)

pub returns-then-sender-ne0-clause-told : goal.returns-then-sender-ne0-clause-told
returns-then-sender-ne0-clause-told c = λ g i got party st.
    ap (map said) c.new.ensures.items
    ∙ sym (idle_told g i c.args.self.now got (record { from = Member c.args.sender.0; message = PrePrepare c.args.seq.0 c.args.request }) st (order_from_member g c.args.sender.0 c.args.seq.0 c.args.request party c.if-sender-ne0.true))

pub returns-clause-stands : goal.returns-clause-stands
returns-clause-stands c = λ g i got party st.
    let p = c.take_order.new.self in
    let zero : 0 ≡ c.args.sender.0 = sym c.if-sender-ne0.false in
    record {
      is = st.is;
      progress_stands = subst (λ (k : ℕ). Stands g p.f (view_of p) (record { from = Member k; message = PrePrepare c.args.seq.0 c.args.request } ∷ got)) zero (c.in_ok-messages.ensures.stands g got st.progress_stands);
      orders_stand = λ z. quiet_stands g _ (record { from = Member c.args.sender.0; message = PrePrepare c.args.seq.0 c.args.request }) got (order_orders g c.args.sender.0 c.args.seq.0 c.args.request) (st.orders_stand z);
    }

pub returns-clause-told : goal.returns-clause-told
returns-clause-told c = λ g i got party st.
    let zero : 0 ≡ c.args.sender.0 = sym c.if-sender-ne0.false in
    votes_alone g i c.args.self.now got (record { from = Member c.args.sender.0; message = PrePrepare c.args.seq.0 c.args.request }) (map said c.in_ok-messages.messages.items) st (order_orders g c.args.sender.0 c.args.seq.0 c.args.request)
    (c.in_ok-messages.ensures.told g got st.progress_stands ∙ ap (λ (k : ℕ). votes_told g got (record { from = Member k; message = PrePrepare c.args.seq.0 c.args.request } ∷ got)) zero)
