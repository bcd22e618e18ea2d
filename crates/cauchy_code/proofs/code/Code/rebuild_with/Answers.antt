use Rattle.std.proofs.Common.{◌≤◌, ◌<◌, ap, ◌∙◌, sym, map, take, length, rules, arith}
use Rattle.std.proofs.lemmas.List.{length-map}
use Rattle.cauchy_code.proofs.AnyRows.{table_square, ordered_fits, ordered_whole, rebuilt_as}
use Rattle.cauchy_code.proofs.code.Code.rebuild_with.Goals as goal

pub apply-requires-clause-square : goal.apply-requires-clause-square
apply-requires-clause-square c =
    let few : c.args.self.now.m ≤ 32 = omega (arith, c.m-m.ensures.value, c.m-m.ensures.few) in
    let high : c.args.self.now.n ≤ 64 = omega (arith, c.n-n.ensures.value, c.n-n.ensures.few) in
    (table_square c.args.self.now (map (λ q. q.0) c.args.parts.now) (map (λ w. w.items) c.args.table.now) (length c.args.table.now) few high
    (length-map c.args.parts.now (λ q. q.0) ∙ c.requires.many) c.requires.indexes (sym (length-map c.args.table.now (λ w. w.items))) c.requires.right).1

pub apply-requires-clause-fits : goal.apply-requires-clause-fits
apply-requires-clause-fits c =
    let few : c.args.self.now.m ≤ 32 = omega (arith, c.m-m.ensures.value, c.m-m.ensures.few) in
    let high : c.args.self.now.n ≤ 64 = omega (arith, c.n-n.ensures.value, c.n-n.ensures.few) in
    let square = table_square c.args.self.now (map (λ q. q.0) c.args.parts.now) (map (λ w. w.items) c.args.table.now) (length c.args.table.now) few high
    (length-map c.args.parts.now (λ q. q.0) ∙ c.requires.many) c.requires.indexes (sym (length-map c.args.table.now (λ w. w.items))) c.requires.right in
    ordered_fits c.args.self.now c.part_len.result (length c.args.table.now) c.args.size c.args.parts.now c.deref.result.now
    c.requires.many c.requires.long (c.deref.ensures.value ∙ c.in_ok-rows.ensures) square.0 c.part_len.ensures (search rules)

pub apply-requires-clause-whole : goal.apply-requires-clause-whole
apply-requires-clause-whole c =
    let few : c.args.self.now.m ≤ 32 = omega (arith, c.m-m.ensures.value, c.m-m.ensures.few) in
    let high : c.args.self.now.n ≤ 64 = omega (arith, c.n-n.ensures.value, c.n-n.ensures.few) in
    let square = table_square c.args.self.now (map (λ q. q.0) c.args.parts.now) (map (λ w. w.items) c.args.table.now) (length c.args.table.now) few high
    (length-map c.args.parts.now (λ q. q.0) ∙ c.requires.many) c.requires.indexes (sym (length-map c.args.table.now (λ w. w.items))) c.requires.right in
    ordered_whole c.args.self.now c.part_len.result (length c.args.table.now) c.args.size c.args.parts.now c.deref.result.now
    c.requires.many c.requires.long (c.deref.ensures.value ∙ c.in_ok-rows.ensures) square.0 c.part_len.ensures

pub returns : goal.returns
returns c = λ block bytes sized are.
    let few : c.args.self.now.m ≤ 32 = omega (arith, c.m-m.ensures.value, c.m-m.ensures.few) in
    let some : 0 < c.args.self.now.m = omega (arith, c.m-m.ensures.value, c.m-m.ensures.some) in
    let high : c.args.self.now.n ≤ 64 = omega (arith, c.n-n.ensures.value, c.n-n.ensures.few) in
    let square = table_square c.args.self.now (map (λ q. q.0) c.args.parts.now) (map (λ w. w.items) c.args.table.now) (length c.args.table.now) few high
    (length-map c.args.parts.now (λ q. q.0) ∙ c.requires.many) c.requires.indexes (sym (length-map c.args.table.now (λ w. w.items))) c.requires.right in
    c.truncate.ensures.items ∙ ap (take c.args.size) c.in_ok-block.ensures
    ∙ rebuilt_as c.args.self.now c.args.size (length c.args.table.now) c.part_len.result c.args.parts.now c.deref.result.now (map (λ w. w.items) c.args.table.now) block
    some few high c.requires.many c.requires.indexes c.requires.long bytes are sized square.0 c.part_len.ensures (c.deref.ensures.value ∙ c.in_ok-rows.ensures) c.requires.right
