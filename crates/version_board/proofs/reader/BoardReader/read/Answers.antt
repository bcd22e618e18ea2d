use Rattle.std.proofs.Common.{◌≡◌, Some, sym, ◌∙◌, subst, ap}
use Rattle.std.proofs.lemmas.Result.{err_from_is_err_and}
use Rattle.version_board.specs.Kept.{IsReader}
use Rattle.version_board.proofs.Reading.{looked_at, has_seen, saw_more}
use Rattle.version_board.proofs.reader.BoardReader.read.Goals as goal

pub invariant_of-self-then-not-begins : goal.invariant_of-self-then-not-begins
invariant_of-self-then-not-begins c =
    let door : c.self.inside.door ≡ Some c.in-Some.door = sym c.take.ensures.value ∙ c.in-Some.is in
    let kept = subst (λ d. IsReader d c.self.inside.seen c.self.inside.told) door c.self.invariant in
    let looks = c.in-Ok.ensures.0 in
    let more = looked_at c.in-Some.door.sight c.in-Ok.inside.sight c.in-Ok.inside.copy c.self.inside.seen kept.0 looks in
    (rw (ap (λ d. d.sight) c.turn_away.ensures) (has_seen c.in-Some.door.sight c.in-Ok.inside.sight c.in-Ok.inside.copy c.self.inside.seen more looks), kept.1)

pub returns-in_err-answer-clause-fault : goal.returns-in_err-answer-clause-fault
returns-in_err-answer-clause-fault c =
    let door : c.self.inside.door ≡ Some c.in-Some.door = sym c.take.ensures.value ∙ c.in-Some.is in
    let kept = subst (λ d. IsReader d c.self.inside.seen c.self.inside.told) door c.self.invariant in
    let more = looked_at c.in-Some.door.sight c.in-Ok.inside.sight c.in-Ok.inside.copy c.self.inside.seen kept.0 c.in-Ok.ensures.0 in
    let front = c.again-front.ensures ∙ c.front.ensures ∙ ap (λ b. b.front) c.board.ensures in
    let begins = c.begins.ensures c.if-not-begins.false in
    let shut = ap (λ d. d.shut) c.leave.ensures ∙ c.in-Ok.ensures.1 in
    let p = err_from_is_err_and c.from_residual.result c.from_residual.ensures.1 in
    rw (p.1, p.2, ← c.self.view_is, door) (saw_more c.in-Some.door c.leave.result c.in-Ok.inside.copy c.self.inside.seen c.self.inside.told c.again-front.result front more begins shut)

pub returns-clause-saw : goal.returns-clause-saw
returns-clause-saw c =
    let door : c.self.inside.door ≡ Some c.in-Some.door = sym c.take.ensures.value ∙ c.in-Some.is in
    let kept = subst (λ d. IsReader d c.self.inside.seen c.self.inside.told) door c.self.invariant in
    let more = looked_at c.in-Some.door.sight c.in-Ok.inside.sight c.in-Ok.inside.copy c.self.inside.seen kept.0 c.in-Ok.ensures.0 in
    let front = c.again-front.ensures ∙ c.front.ensures ∙ ap (λ b. b.front) c.board.ensures in
    let begins = c.begins.ensures c.if-not-begins.false in
    let shut = ap (λ d. d.shut) c.leave.ensures ∙ c.in-Ok.ensures.1 in
    rw (← c.self.view_is, door) (saw_more c.in-Some.door c.leave.result c.in-Ok.inside.copy c.self.inside.seen c.self.inside.told c.again-front.result front more begins shut)
