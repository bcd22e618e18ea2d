-- How many strings a walk counts at most.
use Rattle.std.proofs.Common.{◌≡◌, ◌≤◌, ◌+◌, ◌*◌, ℕ, zero, suc, Bool, true, false, ◌&&◌, ◌==◌, List, [], ◌∷◌, Option, Some, None, length, take, drop, nat_le, slice_index, if◌then◌else◌, refl, arith}
use Rattle.std.proofs.lemmas.Nat.{mul-le}
use Rattle.std.proofs.lemmas.Bool.{leb-true, eqb-true}
use native.Mathlib.Nat.{suc-mul}
use Rattle.std.specs.Option.{is_some}
use Rattle.tree_format.specs.Strings.{names_in}
use Rattle.tree_format.proofs.Names.{length-names_in}
use Rattle.replica_model.specs.Replicas.{Replica}
use Rattle.replica_model.specs.Offers.{Answers, Offer, fetched}
use Rattle.replica_model.specs.Walks.{Walk, Step, are_whole, names_in_inner, top_in_root, below, then_walked, counted, cached_at, stepped, in_order, walked}
use Rattle.replica_model.specs.declared.places.Place.{Place}

-- one string, and 64 times those below
abbrev pub most : ℕ → ℕ
most zero = 0
most (suc depth) = 1 + 64 * most depth

pub and_parts : (a b : Bool) → (a && b) ≡ true → (a ≡ true) × (b ≡ true)
and_parts true b h = (refl, h)
and_parts false b h = absurd (cc)

-- so many bytes are whole names
pub whole_parts : (count : ℕ) (names : List ℕ) → are_whole count names ≡ true → (1 ≤ count) × (count ≤ 64) × (length names ≡ 20 * count)
whole_parts count names is =
    let outer = and_parts (nat_le 1 count && nat_le count 64) (length names == 20 * count) is in
    let inner = and_parts (nat_le 1 count) (nat_le count 64) outer.0 in
    (leb-true 1 count inner.0, leb-true count 64 inner.1, eqb-true (length names) (20 * count) outer.1)

-- below a root there are at most 266,305
pub most_below : (depth : ℕ) → depth ≤ 4 → most depth ≤ 266305
most_below zero l = omega arith
most_below (suc zero) l = omega arith
most_below (suc (suc zero)) l = omega arith
most_below (suc (suc (suc zero))) l = omega arith
most_below (suc (suc (suc (suc zero)))) l = omega arith
most_below (suc (suc (suc (suc (suc d))))) l = absurd (omega arith)

-- a tree has at most 17,043,521
pub most_all : (depth : ℕ) → depth ≤ 5 → most depth ≤ 17043521
most_all zero l = omega arith
most_all (suc depth) l = let less = most_below depth (omega (arith, l)) in omega (arith, less)

whole_few : (count : ℕ) (names : List ℕ) (b : Bool) → are_whole count names ≡ b → length (if b then names_in count names else []) ≤ 64
whole_few count names true e = let few = (whole_parts count names e).1 in let n = length-names_in count names in omega (arith, few, n)
whole_few count names false e = omega arith

inner_few : (string : List ℕ) → length (names_in_inner string) ≤ 64
inner_few string = whole_few (slice_index string 1) (drop 2 string) (are_whole (slice_index string 1) (drop 2 string)) refl

one_few : (b c : Bool) (name : List ℕ) → length (if b then (if c then [] else name ∷ []) else []) ≤ 64
one_few true true name = omega arith
one_few true false name = omega arith
one_few false c name = omega arith

by_kind : (b c : Bool) (xs ys : List (List ℕ)) → length xs ≤ 64 → length ys ≤ 64 → length (if b then xs else (if c then ys else [])) ≤ 64
by_kind true c xs ys l k = l
by_kind false true xs ys l k = k
by_kind false false xs ys l k = omega arith

-- at most 64 strings are right below one
pub below_few : (string : List ℕ) → length (below string) ≤ 64
unfolding below
below_few string = by_kind (slice_index string 0 == 2) (slice_index string 0 == 3) (names_in_inner string) (top_in_root string) (inner_few string) (one_few (length string == 54) _ (take 20 (drop 14 string)))

abbrev total : Walk → ℕ
total walk = walk.put + walk.missing

counted_one : (offer : Offer) → total (counted offer) ≤ 1
counted_one offer = by (is_some offer.string) where
  by : (b : Bool) → (if b then 1 else 0) + (if b then 0 else 1) ≤ 1
  by true = omega arith
  by false = omega arith

-- walks of so many strings at most, one for each of some names
pub in_order_few : (m : ℕ) (walk : List ℕ → List Replica → Walk) → ((name : List ℕ) (replicas : List Replica) → total (walk name replicas) ≤ m)
    → (names : List (List ℕ)) (replicas : List Replica) → total (in_order walk names replicas) ≤ length names * m
in_order_few m walk each [] replicas = omega arith
in_order_few m walk each (name ∷ names) replicas =
    let one = each name replicas in
    let more = in_order_few m walk each names (walk name replicas).replicas in
    let all = suc-mul (length names) m in
    omega (arith, one, more, all)

module _ (h : List ℕ → List ℕ) (answers : Answers) (places : List Place) (r : ℕ) where
  step_one : (name : List ℕ) (replicas : List Replica) → total (stepped h answers places r name replicas).walk ≤ 1
  unfolding stepped
  step_one name replicas = by (cached_at replicas r name) refl where
    by : (o : Option (List ℕ)) → cached_at replicas r name ≡ o → total (stepped h answers places r name replicas).walk ≤ 1
    by (Some bytes) e = rw (e, stepped) (omega arith)
    by None e = rw (e, stepped) (counted_one (fetched h answers places r name replicas))

  after_step : (depth : ℕ) → Step → Walk
  after_step depth step = elim step.string as (λ _. Walk) [ None ↦ step.walk | Some bytes ↦ then_walked step.walk (in_order (walked h answers places r depth) (below bytes)) ]

  pub walk_is_short : (depth : ℕ) (name : List ℕ) (replicas : List Replica) → total (walked h answers places r depth name replicas) ≤ most depth
  unfolding walked after_step
  walk_is_short zero name replicas = omega arith
  walk_is_short (suc depth) name replicas = by (stepped h answers places r name replicas) (step_one name replicas) (λ name replicas. walk_is_short depth name replicas) where
    by : (step : Step) → total step.walk ≤ 1 → ((name : List ℕ) (replicas : List Replica) → total (walked h answers places r depth name replicas) ≤ most depth) → total (after_step depth step) ≤ 1 + 64 * most depth
    by step one each = cases step.string refl where
      cases : (o : Option (List ℕ)) → step.string ≡ o → total (after_step depth step) ≤ 1 + 64 * most depth
      cases None e = rw e (omega (arith, one))
      cases (Some bytes) e =
          let few = below_few bytes in
          let all = in_order_few (most depth) (walked h answers places r depth) each (below bytes) step.walk.replicas in
          let wide = mul-le (length (below bytes)) (most depth) 64 (most depth) few (omega arith) in
          rw e (omega (arith, one, all, wide))
