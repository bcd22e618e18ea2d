use Rattle.std.proofs.Common.{◌≡◌, ◌++◌, ◌∷◌, [], cond, ◌==◌, map, ap, ap₂, sym, subst, ◌∙◌}
use Rattle.std.proofs.lemmas.List.{map-append}
use Rattle.ring_model.specs.Messages.{Client, Request}
use Rattle.message_model.specs.Meaning.{said}
use Rattle.member_orders.specs.Told.{orders_told}
use Rattle.pond_base.specs.declared.numbers.MemberId.{MemberId}
use Rattle.std.proofs.Common.{◌<◌}
use Rattle.member_orders.specs.Views as ordering
use Rattle.member_orders.specs.Standing.{Stands as Ordered}
use Rattle.ring_member.specs.declared.progress.Progress.{Progress}
use Rattle.ring_member.specs.Views.{view_of}
use Rattle.ring_member.specs.Standing.{Stands, request_of}
use Rattle.ring_member.specs.Members.{told}
use Rattle.ring_member.proofs.Owning.{own_few, own_owner, own_number}
use Rattle.ring_member.proofs.member.Member.hear_own.Goals as goal

pub order-requires : goal.order-requires
order-requires g c = record { few = own_few c.args.request c.args.client.0 c.args.number c.requires; string = (c.requires.request, c.requires.is, c.requires.spelled) }

pub returns-clause-stands : goal.returns-clause-stands
returns-clause-stands g c = λ g' i got ring party st.
    let r = c.args.request in
    let p = c.take_request.new.self in
    let owner = own_owner g.H.Hash160.naming g' r c.args.client.0 c.args.number ring c.requires in
    let number = own_number g.H.Hash160.naming g' r c.args.client.0 c.args.number ring c.requires in
    let name : c.in_ok-name.name ≡ g'.h r = c.in_ok-name.ensures.named ∙ ap g.H.Hash160.naming c.as_slice.ensures ∙ sym (ring.names r) in
    let few : g'.owner r < g'.clients = subst (λ k. k < g'.clients) (sym owner) party in
    let before = subst (λ (q : Progress). Stands g' q.f (view_of q) got) (sym c.order.ensures.progress) st.progress_stands in
    record {
      is = ap (λ (k : MemberId). k.0) c.order.ensures.id ∙ st.is;
      progress_stands = subst (λ k. Stands g' p.f (view_of p) (record { from = Client k; message = Request r } ∷ got)) owner (c.in_ok-votes.ensures.stands g' got name few before);
      orders_stand = λ z. subst (λ k. Ordered g' (ordering.view_of c.order.new.self.orders) (record { from = Client k; message = Request r } ∷ got)) owner
          (c.in_ok-messages.ensures.stands g' got owner number (st.is ∙ z) (st.orders_stand z));
    }

pub returns-clause-told : goal.returns-clause-told
returns-clause-told g c = λ g' i got ring party st.
    let r = c.args.request in
    let owner = own_owner g.H.Hash160.naming g' r c.args.client.0 c.args.number ring c.requires in
    let number = own_number g.H.Hash160.naming g' r c.args.client.0 c.args.number ring c.requires in
    let name : c.in_ok-name.name ≡ g'.h r = c.in_ok-name.ensures.named ∙ ap g.H.Hash160.naming c.as_slice.ensures ∙ sym (ring.names r) in
    let few : g'.owner r < g'.clients = subst (λ k. k < g'.clients) (sym owner) party in
    let before = subst (λ (q : Progress). Stands g' q.f (view_of q) got) (sym c.order.ensures.progress) st.progress_stands in
    ap (map said) c.in_ok-append.ensures.items ∙ map-append said c.in_ok-messages.messages.items c.in_ok-votes.votes.items
    ∙ ap₂ (λ xs ys. xs ++ ys)
    (c.in_ok-messages.ensures.told g' got owner number (λ e. st.orders_stand (sym st.is ∙ e)) ∙ ap (λ k. cond (k == 0) (orders_told g' got (request_of g' r ∷ got)) []) st.is)
    (c.in_ok-votes.ensures.told g' got name few before)
    ∙ ap (λ k. told g' i got (record { from = Client k; message = Request r } ∷ got)) owner
