use Rattle.std.proofs.Common.{◌≡◌, ◌+◌, length, get_or, arith, ap, ◌∙◌, bit_xor}
use Rattle.std.proofs.lemmas.Grind.{common_steps}
use Rattle.std.proofs.lemmas.List.FromFn.{fill_by_all}
use Rattle.gf256.specs.Field.{product}
use Rattle.gf256.proofs.Laws.{product_one_l}
use Rattle.cauchy_code.proofs.Steps.{whole_front}
use Rattle.cauchy_code.proofs.combine.part.Goals as goal

pub returns : goal.returns
returns c =
    let long : length c.add_part.new.sum ≡ c.args.part_len = grind (arith, common_steps) in
    whole_front c.add_part.new.sum _ c.in_ok-part.part.len (grind (arith, common_steps))
    ∙ fill_by_all (λ j. get_or c.args.block.now (c.args.start + j) 0) c.add_part.new.sum c.args.part_len 0 long
    (λ j lt.
    let zero : get_or c.in_ok-part.part.items j 0 ≡ 0 = grind (arith, common_steps) in
    let byte = get_or c.args.block.now (c.args.start + j) 0 in
    c.add_part.ensures j (omega (arith, long)) ∙ ap (λ s. bit_xor (get_or s j 0) (product 1 byte)) c.deref_mut.ensures.value ∙ ap (λ z. bit_xor z (product 1 byte)) zero
    ∙ product_one_l byte (c.type_inv.block (c.args.start + j)).fits)
