use Rattle.std.proofs.Common.{◌≡◌, ◌∷◌, [], length, ap, arith, length-append}
use Rattle.client_core.specs.Clients.{ClientStands}
use Rattle.ring_world.proofs.Telling.{each_push}
use Rattle.ring_world.proofs.new.clients_of.Goals as goal

pub loop-number-preserved : goal.loop-number-preserved
loop-number-preserved c =
    let before = c.loop-number.clients.items in
    let new = c.in_ok-new.field-0 in
    let more = c.in_ok-push.ensures.items in (
      omega (arith, ap length more, length-append before (new ∷ []), c.loop-number.invariant.0),
      λ r same. each_push (λ k x. ClientStands x r k [] []) before c.push.new.self.items new c.loop-number.number c.loop-number.invariant.0 more (c.in_ok-new.ensures.stands r same) (c.loop-number.invariant.1 r same),
      each_push (λ k x. length x.requests.items ≡ 0) before c.push.new.self.items new c.loop-number.number c.loop-number.invariant.0 more c.in_ok-new.ensures.none c.loop-number.invariant.2,
    )

pub returns-clause-stand : goal.returns-clause-stand
returns-clause-stand c = λ r same k d low. c.loop-number.invariant.1 r same k d (omega (arith, low, c.loop-number-test.false))
