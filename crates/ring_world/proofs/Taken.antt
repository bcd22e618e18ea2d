-- A member that took a letter.
use Rattle.std.proofs.Common.{◌≡◌, ℕ, ◌+◌, ◌*◌, ◌<◌, Bool, false, cond, not, ◌==◌, List, ◌∷◌, length, set, get_or, Option, Some, is_some, IfSome, refl, sym, ap, subst, arith}
use Rattle.std.proofs.lemmas.Bool.{eq-eqb}
use Rattle.std.proofs.lemmas.List.{length-set}
use Rattle.ring_model.specs.Messages.{Ring, Letter, Party, Member as member}
use Rattle.ring_world.specs.declared.members.Members.{Members}
use Rattle.ring_world.specs.Standing.{Standing}
use Rattle.ring_world.specs.Crew.{AreMembers, with_letter}
use Rattle.ring_world.proofs.Telling.{each_set}

-- the node of a correct member took a letter
pub took : {N : Type 0} (stands : Standing N) (g : Ring) (m now : Members N) (got : Party → List Letter) (archived : ℕ → ℕ) (i : ℕ) (l : Letter) (new : N) → AreMembers stands g m got archived → i < 3 * g.f + 1 → g.is_faulty i ≡ false
    → stands new g i (l ∷ got (member i)) (archived i) → now.nodes.items ≡ set m.nodes.items i (Some new) → AreMembers stands g now (with_letter got (member i) l) archived
took {N = N} stands g m now got archived i l new are low correct stood is = record {
  count = omega (arith, ap length is, length-set m.nodes.items i (Some new), are.count);
  there_are = subst (λ nodes. (k : ℕ) (d : Option N) → k < 3 * g.f + 1 → is_some (get_or nodes k d) ≡ not (g.is_faulty k)) (sym is)
      (each_set (λ k x. is_some x ≡ not (g.is_faulty k)) (λ k x. is_some x ≡ not (g.is_faulty k)) m.nodes.items i (3 * g.f + 1) (Some new) here (sym (ap not correct)) (λ k x other there. there) are.there_are);
  nodes_stand = subst (λ nodes. (k : ℕ) (d : Option N) → k < 3 * g.f + 1 → IfSome (get_or nodes k d) (λ one. stands one g k (letters k (i == k)) (archived k))) (sym is)
      (each_set (λ k x. IfSome x (λ one. stands one g k (got (member k)) (archived k))) (λ k x. IfSome x (λ one. stands one g k (letters k (i == k)) (archived k))) m.nodes.items i (3 * g.f + 1) (Some new) here
      (subst (λ b. stands new g i (letters i b) (archived i)) (sym (eq-eqb i i refl)) stood)
      (λ k x other there. subst (λ b. IfSome x (λ one. stands one g k (letters k b) (archived k))) (sym other) there)
      are.nodes_stand);
}
  where
    here : i < length m.nodes.items
    here = omega (arith, low, are.count)

    letters : ℕ → Bool → List Letter
    letters k mine = cond mine (l ∷ got (member k)) (got (member k))
