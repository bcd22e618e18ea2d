use Rattle.std.proofs.Common.{◌++◌, map, ap₂, sym, subst, subst₂, ◌∙◌, arith}
use Rattle.message_model.specs.Meaning.{said}
use Rattle.message_model.proofs.Meant.{request_true}
use Rattle.member_orders.specs.Views.{view_of, is_turn, Keeps, Advances}
use Rattle.member_orders.specs.Told.{next_of, told_from}
use Rattle.member_orders.proofs.Going.{strings_keep}
use Rattle.member_orders.proofs.Owed.{takes_stands, takes_told}
use Rattle.member_orders.proofs.orders.Orders.take.Goals as goal

pub order_next-requires-clause-whole : goal.order_next-requires-clause-whole
order_next-requires-clause-whole c =
    let keeps = c.in_ok-keep.ensures.keeps in
    let v = view_of c.args.self.now in
    record { few = omega (arith, keeps.ordered_is, c.requires.whole.few); strings = strings_keep v.first (view_of c.keep.new.self).first c.args.request (λ d k. is_turn c.args.client.0 c.args.number d k) (request_true c.args.request c.requires.string) keeps.firsts c.requires.whole.strings }

pub returns-clause-stands : goal.returns-clause-stands
returns-clause-stands c = λ g got owner number st.
    let v = view_of c.args.self.now in
    let m = view_of c.keep.new.self in
    let w = view_of c.order_next.new.self in
    let r = c.args.request in
    takes_stands g v m w r got st (omega (arith, owner, c.requires.few)) (subst₂ (λ d n. Keeps v d n r m) (sym owner) (sym number) c.in_ok-keep.ensures.keeps)
    (subst (λ d. Advances m d (next_of m d) w) (sym owner) c.in_ok-order_next.ensures.orders)

pub returns-clause-told : goal.returns-clause-told
returns-clause-told c = λ g got owner number st.
    let v = view_of c.args.self.now in
    let m = view_of c.keep.new.self in
    let w = view_of c.order_next.new.self in
    let r = c.args.request in
    c.in_ok-order_next.ensures.told
    ∙ ap₂ (λ ms d. map said ms ++ told_from m.ordered (next_of m d)) c.new-told.ensures.items (sym owner)
    ∙ takes_told g v m w r got st (omega (arith, owner, c.requires.few)) (subst₂ (λ d n. Keeps v d n r m) (sym owner) (sym number) c.in_ok-keep.ensures.keeps)
    (subst (λ d. Advances m d (next_of m d) w) (sym owner) c.in_ok-order_next.ensures.orders)
