use Rattle.std.proofs.Common.{◌+◌, None, cond, refl, sym, ap, ◌∙◌, arith}
use Rattle.member_orders.specs.Views.{view_of}
use Rattle.member_orders.proofs.Turns.{turn, turn_test, raised}
use Rattle.member_orders.proofs.orders.Orders.next.Goals as goal

pub returns-clause-taken : goal.returns-clause-taken
returns-clause-taken c =
    let v = view_of c.args.self.now in
    let k = c.args.client.0 in
    record {
      there = sym c.remove.ensures.value ∙ c.in-Some.is;
      firsts = λ d n. c.remove.ensures.updates.0 (turn d n) ∙ ap (λ b. cond b None (v.first d n)) (turn_test k (v.count k + 1) d n);
      counts = λ d. raised c.args.self.now.counts k d (omega arith);
      ordered_is = refl;
    }
