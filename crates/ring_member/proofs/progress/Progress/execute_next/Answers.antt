use Rattle.std.proofs.Common.{◌≡◌, ◌+◌, length, refl, ap, sym, ◌∙◌, arith}
use Rattle.ring_member.specs.Views.{view_of, ready_in}
use Rattle.ring_member.proofs.progress.Progress.execute_next.Goals as goal

pub returns-in_ok-execute-in-Some-clause-executed : goal.returns-in_ok-execute-in-Some-clause-executed
returns-in_ok-execute-in-Some-clause-executed c = λ _.
    let p = c.args.self.now in
    let next : length p.done + 1 ≡ c.len.result + 1 = omega (arith, c.len.ensures) in
    (c.in-Some.request, ap (ready_in p.f (view_of p)) next ∙ sym c.in_ok-request.ensures ∙ c.in-Some.is, c.in_ok-execute-in-Some.ensures.executes)

pub returns-in-None-clause-stopped : goal.returns-in-None-clause-stopped
returns-in-None-clause-stopped c = λ _.
    let p = c.args.self.now in
    let next : length p.done + 1 ≡ c.len.result + 1 = omega (arith, c.len.ensures) in
    (ap (ready_in p.f (view_of p)) next ∙ sym c.in_ok-request.ensures ∙ c.in-None.is, refl)
