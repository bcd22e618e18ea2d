use Rattle.std.proofs.Common.{◌≡◌, ◌<◌, length, arith, sym, ◌∙◌}
use Rattle.std.proofs.lemmas.Grind.{common_steps}
use Rattle.script_grammar.specs.Words.{lines_of}
use Rattle.script_grammar.specs.Script.{script_of}
use Rattle.script_text.proofs.TextLines.{first_line, goes_on, stops, ends, shorter}
use Rattle.script_text.proofs.Silence.{skips}
use Rattle.script_text.proofs.parsing.parse.Goals as goal

pub returns-in-Err : goal.returns-in-Err
returns-in-Err c =
    let some : 0 < length c.loop-rest.rest.now = grind (arith, common_steps, c.loop-rest-test.ensures) in
    rw c.at.ensures
    (stops c.loop-rest.number c.loop-rest.state c.split_line.result.0.now (lines_of c.split_line.result.1.now) (script_of c.args.text.now) c.in-Err.fault c.in-Err.ensures
    (sym (first_line c.loop-rest.number c.loop-rest.state c.loop-rest.rest.now _ c.split_line.result.1.now some c.split_line.ensures.line c.split_line.ensures.after) ∙ c.loop-rest.invariant.same))

pub loop-rest-preserved : goal.loop-rest-preserved
loop-rest-preserved c =
    let some : 0 < length c.loop-rest.rest.now = grind (arith, common_steps, c.loop-rest-test.ensures) in
    record {
      small = omega (arith, c.loop-rest.invariant.small, shorter c.loop-rest.rest.now c.split_line.result.1.now some c.split_line.ensures.after);
      same =
          goes_on c.loop-rest.number c.loop-rest.state c.in-Ok.next c.split_line.result.0.now (lines_of c.split_line.result.1.now) (script_of c.args.text.now) c.in-Ok.ensures
          (sym (first_line c.loop-rest.number c.loop-rest.state c.loop-rest.rest.now _ c.split_line.result.1.now some c.split_line.ensures.line c.split_line.ensures.after) ∙ c.loop-rest.invariant.same);
    }

pub loop-rest-preserved-then-is_skipped : goal.loop-rest-preserved-then-is_skipped
loop-rest-preserved-then-is_skipped c =
    let some : 0 < length c.loop-rest.rest.now = grind (arith, common_steps, c.loop-rest-test.ensures) in
    record {
      small = omega (arith, c.loop-rest.invariant.small, shorter c.loop-rest.rest.now c.split_line.result.1.now some c.split_line.ensures.after);
      same =
          goes_on c.loop-rest.number c.loop-rest.state c.loop-rest.state c.split_line.result.0.now (lines_of c.split_line.result.1.now) (script_of c.args.text.now)
          (skips c.loop-rest.number c.loop-rest.state c.split_line.result.0.now (sym c.is_skipped.ensures ∙ c.if-is_skipped.true))
          (sym (first_line c.loop-rest.number c.loop-rest.state c.loop-rest.rest.now _ c.split_line.result.1.now some c.split_line.ensures.line c.split_line.ensures.after) ∙ c.loop-rest.invariant.same);
    }

pub returns : goal.returns
returns c =
    let none : length c.loop-rest.rest.now ≡ 0 = grind (arith, common_steps, c.loop-rest-test.ensures) in
    ends c.loop-rest.number c.loop-rest.state c.loop-rest.rest.now c.in_ok-script.script (script_of c.args.text.now) none (sym c.has_heads.ensures ∙ c.if-not-has_heads.false) c.in_ok-script.ensures c.loop-rest.invariant.same
