use Rattle.std.proofs.Common.{◌≡◌, ◌∙◌, length, refl, arith}
use Rattle.std.proofs.lemmas.Grind.{common_steps}
use Rattle.cauchy_code.proofs.Fours.{sum_made}
use Rattle.cauchy_code.proofs.combine.combine_four.Goals as goal

pub returns-clause-first : goal.returns-clause-first
returns-clause-first c =
    let shared : length c.deref_mut.result.now ≡ c.args.part_len = grind (arith, common_steps) in
    let own : length c.deref_mut.result.now ≡ c.args.part_len = grind (arith, common_steps) in
    let size : c.in_ok-a.a.len ≡ c.args.part_len = grind (arith, common_steps) in
    sum_made c.sum_four.new.first _ c.args.first.now c.args.bytes.now c.in_ok-a.a.len (length c.deref_mut.result.now) (length c.args.first.now) c.args.part_len refl shared
    (c.sum_four.auto.first ∙ own) size c.sum_four.ensures.first

pub returns-clause-second : goal.returns-clause-second
returns-clause-second c =
    let shared : length c.deref_mut.result.now ≡ c.args.part_len = grind (arith, common_steps) in
    let own : length c.deref_mut-2.result.now ≡ c.args.part_len = grind (arith, common_steps) in
    let size : c.in_ok-b.b.len ≡ c.args.part_len = grind (arith, common_steps) in
    sum_made c.sum_four.new.second _ c.args.second.now c.args.bytes.now c.in_ok-b.b.len (length c.deref_mut.result.now) (length c.args.first.now) c.args.part_len c.requires.many_second shared
    (c.sum_four.auto.second ∙ own) size c.sum_four.ensures.second

pub returns-clause-third : goal.returns-clause-third
returns-clause-third c =
    let shared : length c.deref_mut.result.now ≡ c.args.part_len = grind (arith, common_steps) in
    let own : length c.deref_mut-3.result.now ≡ c.args.part_len = grind (arith, common_steps) in
    let size : c.in_ok-c.c.len ≡ c.args.part_len = grind (arith, common_steps) in
    sum_made c.sum_four.new.third _ c.args.third.now c.args.bytes.now c.in_ok-c.c.len (length c.deref_mut.result.now) (length c.args.first.now) c.args.part_len c.requires.many_third shared
    (c.sum_four.auto.third ∙ own) size c.sum_four.ensures.third

pub returns-clause-fourth : goal.returns-clause-fourth
returns-clause-fourth c =
    let shared : length c.deref_mut.result.now ≡ c.args.part_len = grind (arith, common_steps) in
    let own : length c.deref_mut-4.result.now ≡ c.args.part_len = grind (arith, common_steps) in
    let size : c.in_ok-d.d.len ≡ c.args.part_len = grind (arith, common_steps) in
    sum_made c.sum_four.new.fourth _ c.args.fourth.now c.args.bytes.now c.in_ok-d.d.len (length c.deref_mut.result.now) (length c.args.first.now) c.args.part_len c.requires.many_fourth shared
    (c.sum_four.auto.fourth ∙ own) size c.sum_four.ensures.fourth
