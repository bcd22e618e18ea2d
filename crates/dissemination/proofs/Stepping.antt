-- A walk, step by step.
use Rattle.std.proofs.Common.{◌≡◌, ◌≤◌, ◌<◌, ◌+◌, ◌-◌, ◌^◌, ◌++◌, ℕ, suc, List, [], ◌∷◌, Option, Some, None, Contains, length, take, drop, get_or, refl, ap, sym, subst, ◌∙◌, arith}
use Rattle.std.proofs.lemmas.Simd.{map-map}
use Rattle.std.proofs.lemmas.List.{take_all}
use Rattle.std.proofs.lemmas.Nat.{mul-le}
use Rattle.std.proofs.lemmas.List.Elements.{Contains-append_left}
use Rattle.replica_model.specs.Replicas.{Replica, IsForest, parents_of, with_entries, cleared, chain, above}
use Rattle.replica_model.specs.Offers.{Answers, fetched}
use Rattle.replica_model.specs.Walks.{Walk, Step, unmoved, then_walked, counted, cached_at, stepped, in_order, walked, below}
use Rattle.replica_model.specs.declared.places.Place.{Place}
use Rattle.replica_model.specs.declared.places.Place.TheVariants.{Replica as At}
use Rattle.replica_model.proofs.Counting.{most, most_below, most_all, in_order_few, walk_is_short}
use Rattle.dissemination.proofs.Climbing.{count_of}

-- replicas that differ in their caches alone have the same parents
pub parents_same : (a b : List Replica) → cleared a ≡ cleared b → parents_of a ≡ parents_of b
parents_same a b e =
    sym (map-map (λ (it : Replica). it.parent) (λ (it : Replica). with_entries it []) a)
    ∙ ap parents_of e
    ∙ map-map (λ (it : Replica). it.parent) (λ (it : Replica). with_entries it []) b

pub above_same : (a b : List Replica) (r : ℕ) → cleared a ≡ cleared b → above a r ≡ above b r
above_same a b r e = ap (λ (ps : List Place). drop 1 (chain ps (At r))) (parents_same a b e)

pub forest_same : (a b : List Replica) → cleared a ≡ cleared b → IsForest (parents_of b) → IsForest (parents_of a)
forest_same a b e forest = subst IsForest (sym (parents_same a b e)) forest

pub length_same : (a b : List Replica) → cleared a ≡ cleared b → length a ≡ length b
length_same a b e = sym (count_of a) ∙ ap length (parents_same a b e) ∙ count_of b

-- all but the first of a list that is not empty
all_but_first : (names : List (List ℕ)) → take (length names - 1) (drop 1 names) ≡ drop 1 names
all_but_first [] = ap (λ n. take n []) (let e : 0 - 1 ≡ 0 = omega arith in e)
all_but_first (x ∷ xs) = take_all (suc (length xs) - 1) xs (omega arith)

pub one_more : (names : List (List ℕ)) (name : List ℕ) → name ≡ get_or names 0 name → 1 ≤ length names → names ≡ name ∷ take (length names - 1) (drop 1 names)
one_more [] name is some = absurd (omega arith)
one_more (x ∷ xs) name is some = (λ i. sym is i ∷ sym (all_but_first (x ∷ xs)) i)

pub one_less : (names : List (List ℕ)) → 1 ≤ length names → length (take (length names - 1) (drop 1 names)) + 1 ≡ length names
one_less [] some = absurd (omega arith)
one_less (x ∷ xs) some = let e = ap length (all_but_first (x ∷ xs)) in omega (arith, e)

-- a walk, and another one
abbrev pub both : Walk → Walk → Walk
both walk more = record { replicas = more.replicas; put = walk.put + more.put; missing = walk.missing + more.missing; named = walk.named ++ more.named }

pub both_is : (walk : Walk) (next : List Replica → Walk) (now : List Replica) → now ≡ walk.replicas → both walk (next now) ≡ then_walked walk next
both_is walk next now e = ap (λ (list : List Replica). both walk (next list)) e

module _ (h : List ℕ → List ℕ) (answers : Answers) (places : List Place) (r : ℕ) where
  -- the string stands in the cache
  pub stepped_kept : (name : List ℕ) (replicas : List Replica) (bytes : List ℕ) → cached_at replicas r name ≡ Some bytes → record { string = Some bytes; walk = unmoved replicas } ≡ stepped h answers places r name replicas
  unfolding stepped
  stepped_kept name replicas bytes e = rw (e, stepped) refl

  -- or it is taken in
  pub stepped_came : (name : List ℕ) (replicas : List Replica) → cached_at replicas r name ≡ None
      → record { string = (fetched h answers places r name replicas).string; walk = counted (fetched h answers places r name replicas) } ≡ stepped h answers places r name replicas
  unfolding stepped
  stepped_came name replicas e = rw (e, stepped) refl

  -- a walk of no depth
  pub walked_none : (depth : ℕ) (name : List ℕ) (replicas : List Replica) → depth ≡ 0 → unmoved replicas ≡ walked h answers places r depth name replicas
  unfolding walked
  walked_none depth name replicas e = sym (ap (λ d. walked h answers places r d name replicas) e)

  after : ℕ → Step → Walk
  after depth step = elim step.string as (λ _. Walk) [ None ↦ step.walk | Some bytes ↦ then_walked step.walk (in_order (walked h answers places r depth) (below bytes)) ]

  opened : (depth less : ℕ) (name : List ℕ) (replicas : List Replica) → depth ≡ suc less → after less (stepped h answers places r name replicas) ≡ walked h answers places r depth name replicas
  unfolding walked after
  opened depth less name replicas e = sym (ap (λ d. walked h answers places r d name replicas) e)

  -- a walk whose first string is missing
  pub walked_missing : (depth less : ℕ) (name : List ℕ) (replicas : List Replica) → depth ≡ suc less → None ≡ (stepped h answers places r name replicas).string
      → (stepped h answers places r name replicas).walk ≡ walked h answers places r depth name replicas
  unfolding after
  walked_missing depth less name replicas e none =
      ap (λ (o : Option (List ℕ)). after less (record { string = o; walk = (stepped h answers places r name replicas).walk })) none ∙ opened depth less name replicas e

  -- a walk that goes on below its first string
  pub walked_on : (depth less : ℕ) (name : List ℕ) (replicas : List Replica) (bytes : List ℕ) → depth ≡ suc less → Some bytes ≡ (stepped h answers places r name replicas).string
      → then_walked (stepped h answers places r name replicas).walk (in_order (walked h answers places r less) (below bytes)) ≡ walked h answers places r depth name replicas
  unfolding after
  walked_on depth less name replicas bytes e some =
      ap (λ (o : Option (List ℕ)). after less (record { string = o; walk = (stepped h answers places r name replicas).walk })) some ∙ opened depth less name replicas e

  -- what is named for the first string is among what is named for all
  pub step_among : (depth less : ℕ) (name : List ℕ) (replicas : List Replica) → depth ≡ suc less → (s : List ℕ) → Contains (stepped h answers places r name replicas).walk.named s
      → Contains (walked h answers places r depth name replicas).named s
  unfolding after
  step_among depth less name replicas e s there =
      subst (λ (w : Walk). Contains w.named s) (opened depth less name replicas e) (by (stepped h answers places r name replicas) there) where
        by : (step : Step) → Contains step.walk.named s → Contains (after less step).named s
        by step c = cases step.string refl where
          cases : (o : Option (List ℕ)) → step.string ≡ o → Contains (after less step).named s
          cases None is = rw is c
          cases (Some bytes) is = rw is (Contains-append_left step.walk.named (in_order (walked h answers places r less) (below bytes) step.walk.replicas).named s c)

  -- no walk below a root counts 2 ^ 32 strings
  pub all_few : (depth : ℕ) (names : List (List ℕ)) (replicas : List Replica) → depth ≤ 4 → length names ≤ 64
      → (in_order (walked h answers places r depth) names replicas).put + (in_order (walked h answers places r depth) names replicas).missing < 2 ^ 32
  all_few depth names replicas l few =
      let all = in_order_few (most depth) (walked h answers places r depth) (walk_is_short h answers places r depth) names replicas in
      let wide = mul-le (length names) (most depth) 64 266305 few (most_below depth l) in
      omega (arith, all, wide)

  pub walk_few : (depth : ℕ) (name : List ℕ) (replicas : List Replica) → depth ≤ 5
      → (walked h answers places r depth name replicas).put + (walked h answers places r depth name replicas).missing < 2 ^ 32
  walk_few depth name replicas l =
      let all = walk_is_short h answers places r depth name replicas in
      let few = most_all depth l in
      omega (arith, all, few)
