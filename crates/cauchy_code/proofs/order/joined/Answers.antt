use Rattle.std.proofs.Common.{◌≡◌, true, false, ◌∙◌, ◌++◌, ap, sym, map, arith, take, take_all, not}
use Rattle.std.specs.List.{concat}
use Rattle.std.proofs.lemmas.List.{map-append}
use Rattle.cauchy_code.specs.Code.{is_part}
use Rattle.cauchy_code.specs.Systematic.{given, others}
use Rattle.cauchy_code.proofs.Blocks.{concat-append}
use Rattle.cauchy_code.proofs.AnyRows.{join_passing, join_failing}
use Rattle.cauchy_code.proofs.order.joined.Goals as goal
use Rattle.cauchy_code.proofs.order.joined.Goals.{then-is_part+in_ok-extend_from_slice, else-is_part+in_ok-extend_from_slice-2}

pub loop-part-preserved : goal.loop-part-preserved
loop-part-preserved c =
    let code = c.args.code.now in
    elim c.if-is_part.branch [
      | then-is_part+in_ok-extend_from_slice w ↦
          let pass : is_part code c.part-item.result.0 ≡ true = sym c.is_part.ensures ∙ w.if-is_part.true in
          record {
            given_rows = ap (λ v. v.items) w.rows-is
                ∙ join_passing (λ q. is_part code q.0) (λ q. q.1) c.args.parts.now c.loop-part.part-index c.part-item.result c.loop-part.rows.items _ w.deref.result.now c.loop-part-test.true c.part-item.is pass
                c.loop-part.invariant.given_rows w.in_ok-extend_from_slice.ensures.items w.deref.ensures;
            other_rows = ap (λ v. v.items) w.sums-is
                ∙ join_failing (λ q. not (is_part code q.0)) (λ q. q.1) c.args.parts.now c.loop-part.part-index c.part-item.result c.loop-part.sums.items c.loop-part-test.true c.part-item.is (ap not pass)
                c.loop-part.invariant.other_rows;
          }
      | else-is_part+in_ok-extend_from_slice-2 w ↦
          let fails : is_part code c.part-item.result.0 ≡ false = sym c.is_part.ensures ∙ w.if-is_part.false in
          record {
            given_rows = ap (λ v. v.items) w.rows-is
                ∙ join_failing (λ q. is_part code q.0) (λ q. q.1) c.args.parts.now c.loop-part.part-index c.part-item.result c.loop-part.rows.items c.loop-part-test.true c.part-item.is fails
                c.loop-part.invariant.given_rows;
            other_rows = ap (λ v. v.items) w.sums-is
                ∙ join_passing (λ q. not (is_part code q.0)) (λ q. q.1) c.args.parts.now c.loop-part.part-index c.part-item.result c.loop-part.sums.items _ w.deref-else-is_part.result.now c.loop-part-test.true c.part-item.is (ap not fails)
                c.loop-part.invariant.other_rows w.in_ok-extend_from_slice-2.ensures.items w.deref-else-is_part.ensures;
          }
    ]

pub returns : goal.returns
returns c =
    let code = c.args.code.now in
    let all : take c.loop-part.part-index c.args.parts.now ≡ c.args.parts.now = take_all c.loop-part.part-index c.args.parts.now (omega arith) in
    let g = given code (λ q. q.0) c.args.parts.now in
    let o = others code (λ q. q.0) c.args.parts.now in
    c.in_ok-extend_from_slice-3.ensures.items
    ∙ (λ i. (c.loop-part.invariant.given_rows ∙ ap (λ ps. concat (map (λ q. q.1) (given code (λ q. q.0) ps))) all) i
    ++ (c.deref-2.ensures.value ∙ c.loop-part.invariant.other_rows ∙ ap (λ ps. concat (map (λ q. q.1) (others code (λ q. q.0) ps))) all) i)
    ∙ sym (ap concat (map-append (λ q. q.1) g o) ∙ concat-append (map (λ q. q.1) g) (map (λ q. q.1) o))
