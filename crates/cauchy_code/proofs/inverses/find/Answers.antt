use Rattle.std.proofs.Common.{◌≢◌, ◌∙◌, sym, arith, get_or, map, below_more}
use Rattle.std.specs.Cmp.Lexicographic.{same_text, other_text}
use Rattle.std.proofs.lemmas.List.{length-map}
use Rattle.cauchy_code.proofs.Steps.{map_read}
use Rattle.cauchy_code.proofs.inverses.find.Goals as goal

pub returns-then-eq-clause-some : goal.returns-then-eq-clause-some
returns-then-eq-clause-some c = λ _.
    let same = same_text c.as_slice.result.now c.args.xs.now c.if-eq.ensures in (
      c.loop-entry.entry-index,
      omega (arith, length-map c.args.entries.now (λ e. e.xs.items)),
      map_read (λ e. e.xs.items) c.args.entries.now c.loop-entry.entry-index c.entry-item.result c.args.xs.now c.loop-entry-test.true c.entry-item.is ∙ sym c.as_slice.ensures.value ∙ same,
    )

pub loop-entry-preserved : goal.loop-entry-preserved
loop-entry-preserved c =
    let other = other_text c.as_slice.result.now c.args.xs.now c.if-eq.ensures in
    let read = map_read (λ e. e.xs.items) c.args.entries.now c.loop-entry.entry-index c.entry-item.result c.args.xs.now c.loop-entry-test.true c.entry-item.is in
    below_more (λ k. get_or (map (λ e. e.xs.items) c.args.entries.now) k c.args.xs.now ≢ c.args.xs.now) c.loop-entry.entry-index c.loop-entry.invariant
    (λ e. other (c.as_slice.ensures.value ∙ sym read ∙ e))
