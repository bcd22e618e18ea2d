use Rattle.member_orders.specs.Views.{IsWhole}
use Rattle.agreement_cases.proofs.orders.requests_become_next.Given as goal

abbrev pub invariant-loop-digits : goal.invariant-loop-digits
invariant-loop-digits g l = IsWhole l.orders
