use Rattle.std.proofs.Common.{◌+◌, ◌∷◌, [], sym, subst, arith}
use Rattle.std.specs.List.{AllByRecursion}
use Rattle.ring_message.specs.declared.message.Message.TheVariants.{PrePrepare}
use Rattle.ring_message.specs.Grammar.{MessageFits}
use Rattle.message_model.proofs.Meant.{request_of}
use Rattle.ring_model.proofs.History.{Each-append}
use Rattle.member_orders.proofs.orders.Orders.order.Goals as goal

pub returns-in_ok-push-clause-fits : goal.returns-in_ok-push-clause-fits
returns-in_ok-push-clause-fits c = λ all.
    let low = c.if-self-lt-MOST_SLOTS.true in
    subst (AllByRecursion MessageFits) (sym c.in_ok-push.ensures.items)
    (Each-append MessageFits c.args.told.now.items (PrePrepare (record { 0 = c.args.self.now.ordered + 1 }) c.args.request ∷ []) all (((omega arith, omega (arith, low)), request_of c.args.request c.requires.string), tt))
