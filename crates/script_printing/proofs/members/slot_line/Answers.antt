use Rattle.std.proofs.Common.{◌≡◌, Some, None, string_bytes, sym, ◌∙◌}
use Rattle.std.proofs.lemmas.Result.{IfOk-weaker}
use Rattle.message_model.specs.Requests.{request_at}
use Rattle.ring_model.specs.Member.{executed}
use Rattle.ring_model.proofs.History.{same_some}
use Rattle.script_printing.proofs.Slots.{has_request, has_outcome, request_read, line_is}
use Rattle.script_printing.proofs.members.slot_line.Goals as goal

pub returns-in_default : goal.returns-in_default
returns-in_default c = λ g i got archived stands block low folds spelled place string is here.
    has_request (executed g got) c.args.slot.0 place string is here (c.in_default.ensures g i got archived stands)

pub returns-in_default-outcome : goal.returns-in_default-outcome
returns-in_default-outcome c = λ g i got archived stands block low folds spelled place string is here.
    has_outcome g.h block (executed g got) c.args.slot.0 place string is here (c.in_default-outcome.ensures g i got archived stands block low folds)

pub returns-in_default-2 : goal.returns-in_default-2
returns-in_default-2 c = λ g i got archived stands block low folds spelled place string is here.
    let bad : None ≡ Some (request_at c.in-Some.string.now) =
    sym c.in_default-2.is
    ∙ request_read (executed g got) c.args.slot.0 place string c.in-Some.string.now c.in_ok-request.field-0 is here (c.in-Some.ensures g i got archived stands) spelled c.in_ok-request.ensures.spelled in
    absurd (cc)

pub returns : goal.returns
returns c =
    IfOk-weaker c.executed_line.result _ _
    (λ printed line g i got archived stands block low folds spelled place string is here.
    let asked = c.in-Some.ensures g i got archived stands in
    let request : c.in-Some-2.request ≡ request_at c.in-Some.string.now =
    same_some c.in-Some-2.request (request_at c.in-Some.string.now)
    (sym c.in-Some-2.is ∙ request_read (executed g got) c.args.slot.0 place string c.in-Some.string.now c.in_ok-request.field-0 is here asked spelled c.in_ok-request.ensures.spelled) in
    line_is g.h block (executed g got) c.args.slot.0 place string c.in-Some.string.now c.in-Some-2.request c.in-Some-outcome.outcome.now (string_bytes printed) is here asked
    (c.in-Some-outcome.ensures g i got archived stands block low folds) request line)
    c.executed_line.ensures
