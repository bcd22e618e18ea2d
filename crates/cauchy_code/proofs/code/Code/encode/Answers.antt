use Rattle.std.proofs.Common.{◌≡◌, ◌+◌, ◌∙◌, ◌++◌, ◌∷◌, [], ℕ, List, Vec, Global, ap, sym, map, get_or, arith, refl}
use Rattle.std.specs.List.{range_with_len}
use Rattle.std.proofs.lemmas.List.{map-append}
use Rattle.cauchy_code.specs.Code.{row}
use Rattle.cauchy_code.proofs.Blocks.{rows_push}
use Rattle.cauchy_code.proofs.Fours.{sums_after, sum_is_row}
use Rattle.cauchy_code.proofs.code.Code.encode.Goals as goal

-- a row more
pushed : (f : ℕ → List ℕ) (old new : List (Vec ℕ Global)) (r : Vec ℕ Global) (i n : ℕ) → n ≡ i + 1 → map (λ r. r.items) old ≡ map f (range_with_len 0 i) → new ≡ old ++ r ∷ [] → r.items ≡ f i
    → map (λ r. r.items) new ≡ map f (range_with_len 0 n)
pushed f old new r i n next before joined is =
    rows_push f (map (λ r. r.items) old) (map (λ r. r.items) new) r.items i before (ap (map (λ r. r.items)) joined ∙ map-append (λ r. r.items) old (r ∷ [])) is
    ∙ ap (λ n. map f (range_with_len 0 n)) (sym next)

pub loop-i-preserved-then-not-is_part : goal.loop-i-preserved-then-not-is_part
loop-i-preserved-then-not-is_part c =
    let sum = sym c.is_part.ensures ∙ c.if-not-is_part.true in
    let points = c.deref-then-not-is_part.ensures.value ∙ c.in_ok-points.ensures ∙ (λ k. range_with_len (c.n-n.ensures.value k) (c.m-m.ensures.value k)) in
    let bytes : (q : ℕ) → get_or c.deref-then-not-is_part-2.result.now q 0 ≡ get_or c.args.block.now q 0 = λ q.
    ap (λ xs. get_or xs q 0) c.deref-then-not-is_part-2.ensures.value ∙ c.in_ok-parts.ensures.bytes q in
    let first =
    pushed (row c.args.self.now c.args.block.now) c.loop-i.rows.items c.push.new.self.items c.in_ok-four.four.first c.loop-i.i (c.loop-i.i + 1) (omega arith) c.loop-i.invariant.rows_are c.in_ok-push.ensures.items
    (sum_is_row c.args.self.now c.args.block.now c.deref-then-not-is_part-2.result.now c.deref-then-not-is_part.result.now c.in_ok-four.four.first.items c.part_len-len.result c.loop-i.i sum bytes points c.part_len-len.ensures c.in_ok-four.ensures.first) in
    let second =
    pushed (row c.args.self.now c.args.block.now) c.push.new.self.items c.push-then-not-is_part.new.self.items c.in_ok-four.four.second (c.loop-i.i + 1) (c.loop-i.i + 2) (omega arith) first c.in_ok-push-2.ensures.items
    (sum_is_row c.args.self.now c.args.block.now c.deref-then-not-is_part-2.result.now c.deref-then-not-is_part.result.now c.in_ok-four.four.second.items c.part_len-len.result (c.loop-i.i + 1) (sums_after c.args.self.now c.loop-i.i (c.loop-i.i + 1) (omega arith) sum) bytes points c.part_len-len.ensures c.in_ok-four.ensures.second) in
    let third =
    pushed (row c.args.self.now c.args.block.now) c.push-then-not-is_part.new.self.items c.push-then-not-is_part-2.new.self.items c.in_ok-four.four.third (c.loop-i.i + 2) (c.loop-i.i + 3) (omega arith) second c.in_ok-push-3.ensures.items
    (sum_is_row c.args.self.now c.args.block.now c.deref-then-not-is_part-2.result.now c.deref-then-not-is_part.result.now c.in_ok-four.four.third.items c.part_len-len.result (c.loop-i.i + 2) (sums_after c.args.self.now c.loop-i.i (c.loop-i.i + 2) (omega arith) sum) bytes points c.part_len-len.ensures c.in_ok-four.ensures.third) in
    let fourth =
    pushed (row c.args.self.now c.args.block.now) c.push-then-not-is_part-2.new.self.items c.push-then-not-is_part-3.new.self.items c.in_ok-four.four.fourth (c.loop-i.i + 3) (c.loop-i.i + 4) (omega arith) third c.in_ok-push-4.ensures.items
    (sum_is_row c.args.self.now c.args.block.now c.deref-then-not-is_part-2.result.now c.deref-then-not-is_part.result.now c.in_ok-four.four.fourth.items c.part_len-len.result (c.loop-i.i + 3) (sums_after c.args.self.now c.loop-i.i (c.loop-i.i + 3) (omega arith) sum) bytes points c.part_len-len.ensures c.in_ok-four.ensures.fourth) in
    record { rows_are = fourth; within = omega (arith, c.n-n.ensures.value) }

pub loop-i-preserved : goal.loop-i-preserved
loop-i-preserved c = record {
  rows_are = pushed (row c.args.self.now c.args.block.now) c.loop-i.rows.items c.push-else-n-i-ge4.new.self.items c.in_ok-row.field-0 c.loop-i.i (c.loop-i.i + 1) refl c.loop-i.invariant.rows_are
      c.in_ok-push-5.ensures.items c.in_ok-row.ensures;
  within = omega (arith, c.n-n.ensures.value);
}
