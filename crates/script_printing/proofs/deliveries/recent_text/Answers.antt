use Rattle.std.proofs.Common.{◌≡◌, [], ◌∷◌, ◌++◌, length, map, string_bytes, sym, ◌∙◌, ap}
use Rattle.std.specs.List.{flat_map}
use Rattle.std.specs.Map.Iter.{deref}
use Rattle.std.proofs.lemmas.List.{map-append}
use Rattle.std.proofs.lemmas.Map.Iter.{iter_end}
use Rattle.script_printing.specs.Deliveries.{told_line}
use Rattle.script_printing.proofs.Told.{with_lines, header, line_more, all_lines}
use Rattle.script_printing.proofs.deliveries.recent_text.Goals as goal

pub loop-delivery-init : goal.loop-delivery-init
loop-delivery-init c = header c.len-count.result (length c.args.recent.now.items) (string_bytes c.in_ok-text.text) c.in_ok-text.ensures.ok c.len-count.ensures.len

pub loop-delivery-preserved : goal.loop-delivery-preserved
loop-delivery-preserved c =
    let count = length c.args.recent.now.items in
    let before = map deref c.loop-delivery.yielded in
    c.in_ok-push_str.ensures.bytes ∙ ap (λ t. t ++ c.deref.result.now) c.loop-delivery.invariant
    ∙ ap (λ line. with_lines count (flat_map told_line before) ++ line) c.deref.ensures
    ∙ line_more count before c.in-Some.delivery.now (string_bytes c.in_ok-line.line) c.in_ok-line.ensures
    ∙ sym (ap (λ deliveries. with_lines count (flat_map told_line deliveries)) (map-append deref c.loop-delivery.yielded (c.in-Some.delivery ∷ [])))

pub returns : goal.returns
returns c = λ done same.
    let start = c.into_iter-delivery-iterator.ensures.into_iter_gives ∙ c.iter-delivery-items.ensures.rest in
    let all : map deref c.loop-delivery.yielded ≡ c.args.recent.now.items =
    (iter_end deref c.args.recent.now.items c.loop-delivery.yielded _ _ _ _ start c.loop-delivery.yielded_by c.in-None.is c.next.ensures.steps).0 in
    all_lines c.args.recent.now.items done (string_bytes c.loop-delivery.text) same
    (c.loop-delivery.invariant ∙ ap (λ deliveries. with_lines (length c.args.recent.now.items) (flat_map told_line deliveries)) all)
