use Rattle.std.proofs.Common.{◌≡◌, ◌<◌, ◌≤◌, ◌+◌, ℕ, List, length, take, get_or, ap, ◌∙◌, arith}
use Rattle.std.specs.List.{sum_by}
use Rattle.std.proofs.lemmas.List.Sums.{sum_by_more_le}
use Rattle.client_core.specs.declared.client.Client.{Client}
use Rattle.ring_world.proofs.state.World.has_room.Goals as goal

pub returns-then-count-left-clause-no : goal.returns-then-count-left-clause-no
returns-then-count-left-clause-no g c = λ _.
    let all : List Client = c.args.self.now.clients.items in
    let count : Client → ℕ = λ one. length one.requests.items in
    let one : Client = c.client-item.result in
    let at : ℕ = c.loop-client.client-index in
    let low : at < length all = omega (arith, ap length c.deref-client-items.ensures.value) in
    let here : count one ≡ count (get_or all at one) = ap count (c.client-item.is ∙ ap (λ ys. get_or ys at one) c.deref-client-items.ensures.value) in
    let more : sum_by count (take at all) + count (get_or all at one) ≤ sum_by count all = sum_by_more_le count all at one low in
    omega (arith, more, here, c.loop-client.invariant.all, c.submitted-count.ensures.count, c.if-count-left.true)
