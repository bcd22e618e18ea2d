use Rattle.std.proofs.Common.{◌-◌, map, slice_index_or}
use Rattle.std.specs.List.{AllByRecursion}
use Rattle.ring_message.specs.Grammar.{MessageFits}
use Rattle.message_model.specs.Meaning.{said}
use Rattle.member_orders.specs.Views.{view_of, IsWhole}
use Rattle.member_orders.proofs.Going.{Goes}
use Rattle.member_orders.proofs.orders.Orders.order_next.Given as goal

abbrev pub invariant-loop-self : goal.invariant-loop-self
invariant-loop-self l = record {
  whole : IsWhole l.self;
  fits : AllByRecursion MessageFits l.fn.told.items → AllByRecursion MessageFits l.told.items;
  going : Goes (view_of l.fn.self) l.client.0 (view_of l.self) (map said l.fn.told.items) (map said l.told.items);
}

abbrev pub decreases-loop-self : goal.decreases-loop-self
decreases-loop-self l = 65536 - slice_index_or l.self.counts l.client.0 0
