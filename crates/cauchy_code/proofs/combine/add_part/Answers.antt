use Rattle.std.proofs.Common.{◌≡◌, ◌-◌, length, min, take, drop, arith, ap, ◌∙◌, get_or, bit_xor}
use Rattle.gf256.specs.Field.{product}
use Rattle.std.proofs.lemmas.Grind.{common_steps}
use Rattle.cauchy_code.proofs.Columns.{part_added, nothing_added}
use Rattle.cauchy_code.proofs.combine.add_part.Goals as goal

pub returns-then-start-bytes : goal.returns-then-start-bytes
returns-then-start-bytes c = λ i lt.
    let count : c.min-count.result ≡ min (length c.args.bytes.now - c.args.start) (length c.args.sum.now) = grind (arith, common_steps) in
    let long : length c.add_row.new.acc ≡ c.min-count.result = grind (arith, common_steps) in
    let whole : take (length c.args.bytes.now - c.args.start) (drop c.args.start c.args.bytes.now) ≡ drop c.args.start c.args.bytes.now = grind (arith, common_steps) in
    part_added c.args.sum.now c.add_row.new.acc c.args.bytes.now c.args.c c.args.start c.min-count.result count long
    (λ j h. c.add_row.ensures j (omega (arith, long)) ∙ ap (λ s. bit_xor (get_or (take c.min-count.result c.args.sum.now) j 0) (product c.args.c (get_or (take c.min-count.result s) j 0))) whole) i (grind (arith, common_steps))

pub returns-else-start-bytes : goal.returns-else-start-bytes
returns-else-start-bytes c = λ i lt. nothing_added c.args.sum.now c.args.bytes.now c.args.c c.args.start i c.if-start-bytes.false
