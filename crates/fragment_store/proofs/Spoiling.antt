-- A store that is spoiled pair by pair.
use Rattle.std.proofs.Common.{◌≡◌, ℕ, suc, List, [], ◌∷◌, ◌++◌, bit_xor, Contains, refl, ap, sym, subst, ◌∙◌, append_assoc, arith}
use Rattle.std.specs.List.{AllByRecursion}
use Rattle.std.specs.List.Sorted.{IsStrictlySortedBy}
use Rattle.std.specs.Map.{keys_of}
use Rattle.std.specs.FinMap as map
use Rattle.std.specs.Ordering.{nat_cmp, ordering_reverse}
use Rattle.std.specs.Cmp.Lexicographic.{slice_cmp, nat_list_cmp_total}
use Rattle.std.specs.declared.cmp.Ordering.TheVariants.{Less, Greater}
use Rattle.block_names.specs.Held.{Held}
use Rattle.block_names.specs.Clashes.{AreHeld}
use Rattle.block_names.specs.Growth.{Grew}
use Rattle.block_names.proofs.Clashed.{held_one, held_then}
use Rattle.fragment_store.specs.Pairs.{Pairs, spoiled, spoil_all, strings_of, spoiled_strings, replaced}

pub spoiled_last : (front : List ℕ) (b : ℕ) → spoiled (front ++ b ∷ []) ≡ front ++ bit_xor b 1 ∷ []
spoiled_last [] b = refl
spoiled_last (a ∷ []) b = refl
spoiled_last (a ∷ c ∷ front) b = ap (λ t. a ∷ t) (spoiled_last (c ∷ front) b)

all_at : (P : List ℕ → Type 0) (done rest : Pairs) (k v : List ℕ) → AllByRecursion P (keys_of (done ++ (k, v) ∷ rest)) → P k
all_at P [] rest k v all = all.0
all_at P (p ∷ done) rest k v all = all_at P done rest k v all.1

-- a name past all others goes to the end
put_last : (done rest : Pairs) (k v w : List ℕ) → IsStrictlySortedBy (slice_cmp nat_cmp) (keys_of (done ++ (k, v) ∷ rest)) → replaced done k w ≡ done ++ (k, w) ∷ []
unfolding IsStrictlySortedBy
put_last [] rest k v w sorted = refl
put_last (p ∷ done) rest k v w sorted =
    let after : slice_cmp nat_cmp k p.0 ≡ Greater = nat_list_cmp_total.antisymm k p.0 ∙ ap ordering_reverse (all_at (λ y. slice_cmp nat_cmp p.0 y ≡ Less) done rest k v sorted.0) in
    rw after (ap (λ t. p ∷ t) (put_last done rest k v w sorted.1))

keys_spoiled : (all : Pairs) → keys_of (spoil_all all) ≡ keys_of all
keys_spoiled [] = refl
keys_spoiled (p ∷ all) = ap (λ t. p.0 ∷ t) (keys_spoiled all)

-- the next pair goes to the end of those that were spoiled before it
pub put_next : (all done now rest after : Pairs) (k v : List ℕ) → IsStrictlySortedBy (slice_cmp nat_cmp) (keys_of all) → now ≡ (k, v) ∷ rest → done ++ spoil_all now ≡ spoil_all all
    → after ≡ replaced done k (spoiled v) → after ≡ done ++ (k, spoiled v) ∷ []
put_next all done now rest after k v sorted is so_far made =
    let whole : done ++ (k, spoiled v) ∷ spoil_all rest ≡ spoil_all all = ap (λ n. done ++ spoil_all n) (sym is) ∙ so_far in
    let keys : IsStrictlySortedBy (slice_cmp nat_cmp) (keys_of (done ++ (k, spoiled v) ∷ spoil_all rest)) = subst (IsStrictlySortedBy (slice_cmp nat_cmp)) (sym (ap keys_of whole ∙ keys_spoiled all)) sorted in
    made ∙ put_last done (spoil_all rest) k (spoiled v) (spoiled v) keys

pub rest_spoiled : (all done now rest after : Pairs) (k v : List ℕ) → now ≡ (k, v) ∷ rest → done ++ spoil_all now ≡ spoil_all all → after ≡ done ++ (k, spoiled v) ∷ []
    → after ++ spoil_all rest ≡ spoil_all all
rest_spoiled all done now rest after k v is so_far made =
    ap (λ t. t ++ spoil_all rest) made ∙ append_assoc done ((k, spoiled v) ∷ []) (spoil_all rest) ∙ ap (λ n. done ++ spoil_all n) (sym is) ∙ so_far

strings_more : (done : Pairs) (k s : List ℕ) → strings_of (done ++ (k, s) ∷ []) ≡ strings_of done ++ s ∷ []
strings_more [] k s = refl
strings_more (p ∷ done) k s = ap (λ t. p.1 ∷ t) (strings_more done k s)

-- the strings that were made so far are held
pub held_next : (h : List ℕ → List ℕ) (before held : Held) (Of : List ℕ → Type 0) (done after : Pairs) (k s : List ℕ) → Grew h before Of held → held ≡ map.insert before (h s) s → after ≡ done ++ (k, s) ∷ []
    → AreHeld h before (strings_of done) → AreHeld h held (strings_of after)
held_next h before held Of done after k s grew made is all =
    subst (AreHeld h held) (sym (ap strings_of is ∙ strings_more done k s)) (held_then h before held (strings_of done) (s ∷ []) grew.kept all (held_one h before held s made))

pub first_in : (now rest : Pairs) (k v s : List ℕ) → now ≡ (k, v) ∷ rest → s ≡ spoiled v → Contains (spoiled_strings now) s
first_in now rest k v s is e = subst (λ n. Contains (spoiled_strings n) s) (sym is) (0, omega arith, sym e)

pub rest_in : (now rest : Pairs) (k v s : List ℕ) → now ≡ (k, v) ∷ rest → Contains (spoiled_strings rest) s → Contains (spoiled_strings now) s
rest_in now rest k v s is m = subst (λ n. Contains (spoiled_strings n) s) (sym is) (suc m.0, omega (arith, m.1), m.2)
