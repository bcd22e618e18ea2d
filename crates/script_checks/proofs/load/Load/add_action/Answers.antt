use Rattle.std.proofs.Common.{◌≡◌, ◌≤◌, ◌-◌, length, arith, refl, sym, ap, ◌∙◌}
use Rattle.std.proofs.lemmas.Nat.{mul-le}
use Rattle.std.proofs.lemmas.List.{length-reverse}
use Rattle.script_checks.specs.Loads.{Loaded}
use Rattle.script_checks.proofs.Loading.{stands_more, blocks_grow}
use Rattle.script_checks.proofs.load.Load.add_action.Goals as goal

pub returns-clause-small : goal.returns-clause-small
returns-clause-small c =
    let sizes : length c.self.inside.entries.items ≡ length c.args.self.now.entries = sym (length-reverse c.self.inside.entries.items) ∙ ap (λ (l : Loaded). length l.entries) c.self.view_is in
    let few : c.splice_count-splices.result ≤ 65536 = omega (arith, c.splice_count-splices.ensures.bound, ap length c.deref-2.ensures.value, sizes, c.requires.few) in
    let p = mul-le c.splice_count-splices.result (c.blocks-2.result - c.blocks-3.result) 65536 16387 few (omega (arith, c.blocks-2.ensures.bound)) in
    let v : c.self.inside.blocks ≡ c.args.self.now.blocks = ap (λ (l : Loaded). l.blocks) c.self.view_is in
    omega (arith, p, v, c.blocks-own.ensures.bound)

pub returns-clause-stands : goal.returns-clause-stands
returns-clause-stands c = λ sent st.
    stands_more c.args.block c.args.label.now c.args.action.now c.self.inside.entries.items _ c.self.inside.blocks c.reach-before.result c.min-after.result c.splice_count-splices.result (c.blocks-2.result - c.blocks-3.result) c.blocks-own.result _ _ sent
    (rw (c.reach-before.ensures, c.bytes.ensures.value, c.deref.ensures.value) refl)
    (rw (c.min-after.ensures, c.reach_in-adds.ensures) refl)
    (rw (c.splice_count-splices.ensures.value, c.bytes-2.ensures.value, c.deref-2.ensures.value) refl)
    (rw (c.blocks-2.ensures.value, c.blocks-3.ensures.value) refl)
    (rw (c.blocks-own.ensures.value, c.weight.ensures) refl)
    (blocks_grow c.args.block _ _ (omega (arith, c.requires.block)) (omega (arith, c.min-after.ensures, c.reach-before.ensures)))
    (rw (c.reach_in-adds.ensures, c.is_splice-is_splice.ensures) refl)
    c.in_ok-push.ensures.items refl (rw c.self.view_is st)
