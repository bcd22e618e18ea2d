use Rattle.std.proofs.Common.{◌≡◌, suc, ◌+◌, ◌-◌, ◌*◌, ◌≤◌, subst, arith}
use Rattle.ring_world.specs.Bests.{IsBest}
use Rattle.ring_world.proofs.members.Members.best.Goals as goal

pub loop-left-preserved : goal.loop-left-preserved
loop-left-preserved g c = (
  omega (arith, c.loop-left.invariant.0),
  c.better-best.ensures.there,
  λ r got archived h n e.
      let low : c.loop-left.left ≤ 3 * r.f + 1 = omega (arith, c.loop-left.invariant.0, h.count) in
      let some : suc (n - 1) ≡ n = omega (arith, low, e, c.loop-left-test.true) in
      let next : c.loop-left.left - 1 + suc (n - 1) ≡ 3 * r.f + 1 = omega (arith, some, e) in
      let back : c.loop-left.left ≡ c.loop-left.left - 1 + 1 = omega (arith, c.loop-left-test.true) in
      let all : c.loop-left.left + (n - 1) ≡ 3 * r.f + 1 = omega (arith, back, some, e) in
      subst (λ n. IsBest r got (c.loop-left.left - 1) n c.better-best.result) some
      (c.better-best.ensures.best r got archived (n - 1) h next (subst (λ k. IsBest r got k (n - 1) c.loop-left.best) back (c.loop-left.invariant.2 r got archived h (n - 1) all))),
)

pub returns-clause-best : goal.returns-clause-best
returns-clause-best g c = λ r got archived h.
    let none : c.loop-left.left ≡ 0 = omega (arith, c.loop-left-test.false) in
    let all : c.loop-left.left + (3 * r.f + 1) ≡ 3 * r.f + 1 = omega (arith, none) in
    subst (λ k. IsBest r got k (3 * r.f + 1) c.loop-left.best) none (c.loop-left.invariant.2 r got archived h (3 * r.f + 1) all)
