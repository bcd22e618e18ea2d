use Rattle.std.proofs.Common.{◌≡◌, ◌∷◌, ◌++◌, [], ◌∙◌, sym, ap, Contains, List, ℕ, subst}
use Rattle.std.proofs.lemmas.Result.{err_from_is_err_and}
use Rattle.std.specs.List.Sorted.{IsStrictlySortedBy}
use Rattle.std.specs.Map.{keys_of}
use Rattle.std.specs.Ordering.{nat_cmp}
use Rattle.std.specs.Cmp.Lexicographic.{slice_cmp}
use Rattle.block_names.specs.Growth.{keep_all}
use Rattle.block_names.proofs.Grown.{grew_then, clash_wider}
use Rattle.fragment_store.specs.Pairs.{Pairs, spoiled, spoiled_strings}
use Rattle.fragment_store.proofs.Spoiling.{put_next, rest_spoiled, held_next, first_in, rest_in}
use Rattle.fragment_store.proofs.store.Store.spoiled.Goals as goal

pub loop-name-preserved : goal.loop-name-preserved
loop-name-preserved g c =
    let h : List ℕ → List ℕ = g.H.Hash160.naming in
    let k : List ℕ = c.in-Some.name.now in
    let v : List ℕ = c.deref.result.now in
    let all : Pairs = c.args.self.now in
    let now : Pairs = c.loop-name.name-iterator in
    let rest : Pairs = c.next.new.self in
    let is : now ≡ (k, v) ∷ rest = c.in-Some.ensures.steps ∙ ap (λ b. (k, b) ∷ rest) (sym c.deref.ensures) in
    let sorted : IsStrictlySortedBy (slice_cmp nat_cmp) (keys_of all) = subst (λ (n : Pairs). IsStrictlySortedBy (slice_cmp nat_cmp) (keys_of n)) c.self.view_is c.len-count.ensures.ordered in
    let after : c.put_spoiled.new.self ≡ c.loop-name.store ++ (k, spoiled v) ∷ [] = put_next all c.loop-name.store now rest c.put_spoiled.new.self k v sorted is c.loop-name.invariant.pairs c.in_ok-put_spoiled.ensures.replaced in
    record {
      can = tt;
      finite = tt;
      pairs = rest_spoiled all c.loop-name.store now rest c.put_spoiled.new.self k v is c.loop-name.invariant.pairs after;
      within = λ s m. c.loop-name.invariant.within s (rest_in now rest k v s is m);
      held = ap (keep_all h (spoiled_strings rest)) c.in_ok-put_spoiled.ensures.held ∙ ap (λ n. keep_all h (spoiled_strings n) c.loop-name.book.held) (sym is) ∙ c.loop-name.invariant.held;
      all = held_next h c.loop-name.book.held c.put_spoiled.new.book.held (λ s. s ≡ spoiled v) c.loop-name.store c.put_spoiled.new.self k (spoiled v) c.in_ok-put_spoiled.ensures.grew c.in_ok-put_spoiled.ensures.held after c.loop-name.invariant.all;
      grew = grew_then h _ _ _ (Contains (spoiled_strings all)) (λ s. s ≡ spoiled v) (Contains (spoiled_strings all)) (λ s m. m) (λ s e. c.loop-name.invariant.within s (first_in now rest k v s is e)) c.loop-name.invariant.grew c.in_ok-put_spoiled.ensures.grew;
    }

pub returns-in_err-put_spoiled-clause-fault : goal.returns-in_err-put_spoiled-clause-fault
returns-in_err-put_spoiled-clause-fault g c = let p = err_from_is_err_and c.from_residual.result c.from_residual.ensures.1 in
    let h : List ℕ → List ℕ = g.H.Hash160.naming in
    let k : List ℕ = c.in-Some.name.now in
    let v : List ℕ = c.deref.result.now in
    let now : Pairs = c.loop-name.name-iterator in
    let rest : Pairs = c.next.new.self in
    let is : now ≡ (k, v) ∷ rest = c.in-Some.ensures.steps ∙ ap (λ b. (k, b) ∷ rest) (sym c.deref.ensures) in
    rw (p.1, p.2) (clash_wider h _ (λ s. s ≡ spoiled v) (Contains (spoiled_strings c.args.self.now)) c.in_err-put_spoiled.field-0.0 (λ s e. c.loop-name.invariant.within s (first_in now rest k v s is e)) c.in_err-put_spoiled.ensures.fault)
