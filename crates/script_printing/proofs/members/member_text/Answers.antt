use Rattle.std.proofs.Common.{◌<◌, ◌≤◌, ◌++◌, length, string_bytes, refl, ◌∙◌, ap, arith}
use Rattle.ring_model.specs.Member.{executed}
use Rattle.ring_model.proofs.Lists.{at_some}
use Rattle.fold_model.specs.Folds.{requests_of}
use Rattle.script_printing.proofs.Slots.{with_lines, lines_before, header, line_more, all_lines}
use Rattle.script_printing.proofs.members.member_text.Goals as goal

pub loop-place-init : goal.loop-place-init
loop-place-init c = λ g i got archived stands block low folds spelled.
    header g.h block (executed g got) c.args.member.0 c.executed-count.result (string_bytes c.in_ok-text.text) c.in_ok-text.ensures.ok (c.executed-count.ensures g i got archived stands)

pub loop-place-preserved : goal.loop-place-preserved
loop-place-preserved c = λ g i got archived stands block low folds spelled.
    let strings = executed g got in
    let place = c.loop-place.place in
    let count = length (requests_of strings) in
    let below : place < length strings = omega (arith, c.loop-place-test.true, c.executed-count.ensures g i got archived stands) in
    let there = at_some strings place below in
    c.in_ok-push_str.ensures.bytes ∙ ap (λ t. t ++ c.deref.result.now) (c.loop-place.invariant g i got archived stands block low folds spelled)
    ∙ ap (λ line. with_lines c.args.member.0 count (lines_before g.h block strings place) ++ line) c.deref.ensures
    ∙ line_more g.h block strings c.args.member.0 count place there.0 (string_bytes c.in_ok-line.line) there.1 (c.in_ok-line.ensures g i got archived stands block low folds spelled place there.0 refl there.1)

pub returns : goal.returns
returns c = λ g i got archived stands block low folds spelled.
    let strings = executed g got in
    let most : length strings ≤ c.loop-place.place = omega (arith, c.loop-place-test.false, c.executed-count.ensures g i got archived stands) in
    c.loop-place.invariant g i got archived stands block low folds spelled ∙ all_lines g.h block strings c.args.member.0 c.loop-place.place most
