use Rattle.std.proofs.Common.{◌≡◌, ◌+◌, min, map, refl, ap, ◌∙◌, arith, get_or, ◌++◌, ◌∷◌, [], List, ℕ}
use Rattle.std.specs.Map.{lookup}
use Rattle.member_orders.specs.Told.{told_from}
use Rattle.std.specs.BTreeMap.{is_at, BTreeMap}
use Rattle.member_orders.specs.declared.orders.Turn.{Turn}
use Rattle.message_model.specs.Meaning.{said}
use Rattle.member_orders.specs.declared.orders.Orders.{Orders}
use Rattle.member_orders.specs.Views.{view_of, turn_cmp, is_turn, Takes, IsWhole}
use Rattle.member_orders.proofs.Going.{goes_step, goes_end, none_next, full_next, strings_same, strings_take}
use Rattle.member_orders.proofs.Turns.{turn}
use Rattle.member_orders.proofs.orders.Orders.order_next.Goals as goal

pub returns-in-None-clause-whole : goal.returns-in-None-clause-whole
returns-in-None-clause-whole c =
    let lacks = c.in-None.ensures.none refl in
    record { few = omega (arith, lacks.ordered_is, c.loop-self.invariant.whole.few); strings = strings_same (view_of c.loop-self.self).first (view_of c.next.new.self).first lacks.firsts c.loop-self.invariant.whole.strings }

pub returns-in-None-clause-told : goal.returns-in-None-clause-told
returns-in-None-clause-told c =
    let lacks = c.in-None.ensures.none refl in
    let w = view_of c.loop-self.self in
    (goes_end (view_of c.args.self.now) w c.args.client.0 (map said c.args.told.now.items) (map said c.loop-self.told.items) c.loop-self.invariant.going (none_next w (view_of c.next.new.self) c.args.client.0 lacks) c.loop-self.invariant.whole.few
    (view_of c.next.new.self) lacks.firsts lacks.counts lacks.ordered_is).1

pub returns-in-None-clause-orders : goal.returns-in-None-clause-orders
returns-in-None-clause-orders c =
    let lacks = c.in-None.ensures.none refl in
    let w = view_of c.loop-self.self in
    (goes_end (view_of c.args.self.now) w c.args.client.0 (map said c.args.told.now.items) (map said c.loop-self.told.items) c.loop-self.invariant.going (none_next w (view_of c.next.new.self) c.args.client.0 lacks) c.loop-self.invariant.whole.few
    (view_of c.next.new.self) lacks.firsts lacks.counts lacks.ordered_is).0

pub returns-clause-told : goal.returns-clause-told
returns-clause-told c =
    let w = view_of c.loop-self.self in
    (goes_end (view_of c.args.self.now) w c.args.client.0 (map said c.args.told.now.items) (map said c.loop-self.told.items) c.loop-self.invariant.going (full_next w c.args.client.0 c.loop-self-test.false) c.loop-self.invariant.whole.few
    w (λ d k. refl) (λ d. refl) refl).1

pub returns-clause-orders : goal.returns-clause-orders
returns-clause-orders c =
    let w = view_of c.loop-self.self in
    (goes_end (view_of c.args.self.now) w c.args.client.0 (map said c.args.told.now.items) (map said c.loop-self.told.items) c.loop-self.invariant.going (full_next w c.args.client.0 c.loop-self-test.false) c.loop-self.invariant.whole.few
    w (λ d k. refl) (λ d. refl) refl).0

-- one request is taken out and ordered
stays_whole : (o m n : Orders) (c : ℕ) (r : List ℕ) → IsWhole o → Takes (view_of o) c r (view_of m) → n.ordered ≡ min (m.ordered + 1) 65536 → n.waiting ≡ m.waiting → IsWhole n
stays_whole o m n c r whole takes next waiting = record {
  few = omega (arith, next);
  strings = strings_same (view_of m).first (view_of n).first (λ d k. ap (λ (w : BTreeMap Turn (List ℕ)). lookup (is_at (turn_cmp (turn d k))) w.entries) waiting)
      (strings_take (view_of o).first (view_of m).first (λ d k. is_turn c ((view_of o).count c + 1) d k) takes.firsts whole.strings);
}

pub returns-in_err-order-in-Some-clause-whole : goal.returns-in_err-order-in-Some-clause-whole
returns-in_err-order-in-Some-clause-whole c =
    stays_whole c.loop-self.self c.next.new.self c.order.new.self c.args.client.0 c.in-Some.request c.loop-self.invariant.whole c.in-Some.ensures.taken c.order.ensures.ordered c.order.ensures.waiting

pub loop-self-preserved : goal.loop-self-preserved
loop-self-preserved c =
    let w = view_of c.loop-self.self in
    let x = view_of c.next.new.self in
    let y = view_of c.order.new.self in
    let takes = c.in-Some.ensures.taken in
    let firsts : (d k : ℕ) → y.first d k ≡ x.first d k = λ d k. ap (λ (m : BTreeMap Turn (List ℕ)). lookup (is_at (turn_cmp (turn d k))) m.entries) c.order.ensures.waiting in
    let next : y.ordered ≡ min (w.ordered + 1) 65536 = c.order.ensures.ordered ∙ ap (λ n. min (n + 1) 65536) takes.ordered_is in
    record {
      whole = stays_whole c.loop-self.self c.next.new.self c.order.new.self c.args.client.0 c.in-Some.request c.loop-self.invariant.whole takes c.order.ensures.ordered c.order.ensures.waiting;
      fits = λ all. c.in_ok-order-in-Some.ensures.fits (c.loop-self.invariant.fits all);
      going = goes_step (view_of c.args.self.now) w x y c.args.client.0 c.in-Some.request (map said c.args.told.now.items) (map said c.loop-self.told.items) (map said c.order.new.told.items)
          c.loop-self.invariant.going takes c.loop-self-test.true firsts (λ d. ap (λ cs. get_or cs d 0) c.order.ensures.counts) next
          (c.in_ok-order-in-Some.ensures.told ∙ ap (λ n. map said c.loop-self.told.items ++ told_from n (c.in-Some.request ∷ [])) takes.ordered_is);
    }
