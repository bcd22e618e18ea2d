use Rattle.std.proofs.Common.{◌<◌, length, sym, subst, ◌∙◌, arith}
use Rattle.ring_member.specs.Views.{view_of}
use Rattle.ring_member.specs.Standing.{Live, Stands}
use Rattle.ring_member.proofs.Executing.{ran_stops, ran_more, executes_live}
use Rattle.ring_member.proofs.Whole.{whole_execute}
use Rattle.ring_member.proofs.progress.Progress.advance.Goals as goal

pub returns-then-not-branch-clause-stands : goal.returns-then-not-branch-clause-stands
returns-then-not-branch-clause-stands c = λ g got live ran.
    let p = c.loop-self.self in
    let at = c.loop-self.invariant.stands g got live ran in
    let stopped = c.in_ok-execute_next.ensures.stopped c.if-not-branch.true in
    subst (λ q. Stands g q.f (view_of q) got) (sym stopped.1) (ran_stops g p.f (view_of p) got at.0 at.1 stopped.0)

pub loop-self-preserved : goal.loop-self-preserved
loop-self-preserved c =
    let p = c.loop-self.self in
    let q = c.execute_next.new.self in
    let does = c.in_ok-execute_next.ensures.executed c.if-not-branch.false in
    let low : length p.done < 65536 = omega (arith, c.len.ensures, c.loop-self-test.true) in
    record {
      whole = whole_execute p q does.0 c.loop-self.invariant.whole does.2 c.in_ok-execute_next.ensures.faults low;
      faults = c.in_ok-execute_next.ensures.faults ∙ c.loop-self.invariant.faults;
      stands = λ g got live ran.
          let at = c.loop-self.invariant.stands g got live ran in (
            subst (λ k. Live g k (view_of q) got) (sym c.in_ok-execute_next.ensures.faults) (executes_live g p.f (view_of p) (view_of q) does.0 got at.0 does.2),
            ran_more g p.f (view_of p) (view_of q) does.0 got at.0 at.1 low does.1 does.2,
          );
    }
