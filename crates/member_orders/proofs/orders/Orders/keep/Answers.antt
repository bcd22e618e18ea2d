use Rattle.std.proofs.Common.{◌≡◌, Some, cond, refl, sym, ap, ◌∙◌, rules}
use Rattle.std.specs.Map.{lookup}
use Rattle.std.specs.BTreeMap.{is_at}
use Rattle.member_orders.specs.Views.{view_of, turn_cmp, is_turn, IsWhole}
use Rattle.member_orders.proofs.Turns.{turn, turn_test, first_kept, same_turn, none_of}
use Rattle.member_orders.proofs.orders.Orders.keep.Goals as goal

pub returns-clause-keeps : goal.returns-clause-keeps
returns-clause-keeps c =
    let v = view_of c.args.self.now in
    let r = c.args.request in
    let none = none_of (v.first c.args.client.0 c.args.number) (sym c.contains_key.ensures ∙ c.if-contains_key.false) in
    record {
      firsts = λ d k.
          c.in_ok-insert.ensures.updates.0 (turn d k)
          ∙ ap (λ b. cond b (Some r) (v.first d k)) (turn_test c.args.client.0 c.args.number d k)
          ∙ first_kept (is_turn c.args.client.0 c.args.number d k) (v.first d k) r (λ e. same_turn v.first c.args.client.0 c.args.number d k e ∙ none);
      counts = λ d. refl;
      ordered_is = refl;
    }

pub returns-in_err-insert-clause-spent : goal.returns-in_err-insert-clause-spent
returns-in_err-insert-clause-spent c =
    let same : c.insert.new.self.entries ≡ c.args.self.now.waiting.entries = search (rules, c.in_err-insert.ensures.err) in
    let whole : IsWhole c.args.self.now → IsWhole (record { waiting = c.insert.new.self; counts = c.args.self.now.counts; ordered = c.args.self.now.ordered })
    = λ is. record { few = is.few; strings = λ d n r e. is.strings d n r (sym (ap (lookup (is_at (turn_cmp (turn d n)))) same) ∙ e) } in
    search (rules, whole)
