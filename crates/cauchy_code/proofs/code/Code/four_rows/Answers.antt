use Rattle.std.proofs.Common.{◌≡◌, ◌+◌, ◌*◌, ◌≤◌, ◌∙◌, sym, ap, subst, length, arith, List, ℕ}
use Rattle.std.specs.Result.{IfOk}
use Rattle.std.specs.List.{range_with_len}
use Rattle.std.proofs.lemmas.List.FromFn.{length-range_with_len}
use Rattle.cauchy_code.specs.Code.{cauchy_row, Away}
use Rattle.cauchy_code.specs.Table.{given_part}
use Rattle.cauchy_code.proofs.Blocks.{away_range}
use Rattle.cauchy_code.proofs.Steps.{cauchy_length}
use Rattle.cauchy_code.proofs.code.Code.four_rows.Goals as goal

-- how many factors a row has
count : (fs points : List ℕ) (n m i : ℕ) → fs ≡ cauchy_row i points → points ≡ range_with_len n m → length fs ≡ m
count fs points n m i e is = ap length e ∙ cauchy_length i points ∙ ap length is ∙ length-range_with_len n m

pub row_factors-requires : goal.row_factors-requires
row_factors-requires c = subst (Away c.args.index) (sym c.requires.points) (away_range c.args.index c.args.self.now.n c.args.self.now.m (omega (arith, c.requires.there)))

pub row_factors-requires-2 : goal.row_factors-requires-2
row_factors-requires-2 c = subst (Away (c.args.index + 1)) (sym c.requires.points) (away_range (c.args.index + 1) c.args.self.now.n c.args.self.now.m (omega (arith, c.requires.there)))

pub row_factors-requires-3 : goal.row_factors-requires-3
row_factors-requires-3 c = subst (Away (c.args.index + 2)) (sym c.requires.points) (away_range (c.args.index + 2) c.args.self.now.n c.args.self.now.m (omega (arith, c.requires.there)))

pub row_factors-requires-4 : goal.row_factors-requires-4
row_factors-requires-4 c = subst (Away (c.args.index + 3)) (sym c.requires.points) (away_range (c.args.index + 3) c.args.self.now.n c.args.self.now.m (omega (arith, c.requires.there)))

pub combine_four-requires-clause-many_second : goal.combine_four-requires-clause-many_second
combine_four-requires-clause-many_second c =
    count c.deref-2.result.now c.args.points.now c.args.self.now.n c.args.self.now.m (c.args.index + 1) (c.deref-2.ensures.value ∙ c.in_ok-second.ensures) c.requires.points
    ∙ sym (count c.deref.result.now c.args.points.now c.args.self.now.n c.args.self.now.m c.args.index (c.deref.ensures.value ∙ c.in_ok-first.ensures) c.requires.points)

pub combine_four-requires-clause-many_third : goal.combine_four-requires-clause-many_third
combine_four-requires-clause-many_third c =
    count c.deref-3.result.now c.args.points.now c.args.self.now.n c.args.self.now.m (c.args.index + 2) (c.deref-3.ensures.value ∙ c.in_ok-third.ensures) c.requires.points
    ∙ sym (count c.deref.result.now c.args.points.now c.args.self.now.n c.args.self.now.m c.args.index (c.deref.ensures.value ∙ c.in_ok-first.ensures) c.requires.points)

pub combine_four-requires-clause-many_fourth : goal.combine_four-requires-clause-many_fourth
combine_four-requires-clause-many_fourth c =
    count c.deref-4.result.now c.args.points.now c.args.self.now.n c.args.self.now.m (c.args.index + 3) (c.deref-4.ensures.value ∙ c.in_ok-fourth.ensures) c.requires.points
    ∙ sym (count c.deref.result.now c.args.points.now c.args.self.now.n c.args.self.now.m c.args.index (c.deref.ensures.value ∙ c.in_ok-first.ensures) c.requires.points)

pub combine_four-requires-clause-whole : goal.combine_four-requires-clause-whole
combine_four-requires-clause-whole c =
    subst (λ m. m * c.args.part_len ≤ length c.args.parts.now)
    (sym (count c.deref.result.now c.args.points.now c.args.self.now.n c.args.self.now.m c.args.index (c.deref.ensures.value ∙ c.in_ok-first.ensures) c.requires.points))
    c.requires.whole

pub returns-clause-first : goal.returns-clause-first
returns-clause-first c =
    let P : List ℕ → Type 0 = λ piece. IfOk c.combine_four.result (λ r. r.first.items ≡ piece) in
    let many = count c.deref.result.now c.args.points.now c.args.self.now.n c.args.self.now.m c.args.index (c.deref.ensures.value ∙ c.in_ok-first.ensures) c.requires.points in
    subst P (λ i. given_part (many i) c.args.part_len c.args.parts.now ((c.deref.ensures.value ∙ c.in_ok-first.ensures) i)) c.combine_four.ensures.first

pub returns-clause-second : goal.returns-clause-second
returns-clause-second c =
    let P : List ℕ → Type 0 = λ piece. IfOk c.combine_four.result (λ r. r.second.items ≡ piece) in
    let many = count c.deref.result.now c.args.points.now c.args.self.now.n c.args.self.now.m c.args.index (c.deref.ensures.value ∙ c.in_ok-first.ensures) c.requires.points in
    subst P (λ i. given_part (many i) c.args.part_len c.args.parts.now ((c.deref-2.ensures.value ∙ c.in_ok-second.ensures) i)) c.combine_four.ensures.second

pub returns-clause-third : goal.returns-clause-third
returns-clause-third c =
    let P : List ℕ → Type 0 = λ piece. IfOk c.combine_four.result (λ r. r.third.items ≡ piece) in
    let many = count c.deref.result.now c.args.points.now c.args.self.now.n c.args.self.now.m c.args.index (c.deref.ensures.value ∙ c.in_ok-first.ensures) c.requires.points in
    subst P (λ i. given_part (many i) c.args.part_len c.args.parts.now ((c.deref-3.ensures.value ∙ c.in_ok-third.ensures) i)) c.combine_four.ensures.third

pub returns-clause-fourth : goal.returns-clause-fourth
returns-clause-fourth c =
    let P : List ℕ → Type 0 = λ piece. IfOk c.combine_four.result (λ r. r.fourth.items ≡ piece) in
    let many = count c.deref.result.now c.args.points.now c.args.self.now.n c.args.self.now.m c.args.index (c.deref.ensures.value ∙ c.in_ok-first.ensures) c.requires.points in
    subst P (λ i. given_part (many i) c.args.part_len c.args.parts.now ((c.deref-4.ensures.value ∙ c.in_ok-fourth.ensures) i)) c.combine_four.ensures.fourth
