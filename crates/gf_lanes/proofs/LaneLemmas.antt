-- What operations on vectors of 32 bytes hold at each lane.
use Rattle.std.proofs.Common.{◌≡◌, ℕ, ◌+◌, ◌*◌, ◌/◌, ◌<◌, List, length, get_or, replicate, refl, sym, ap, ◌∙◌, arith, w8, inl, inr}
use Rattle.std.proofs.lemmas.Bool.{cases_lt}
use Rattle.std.specs.Simd.Lanes.{zip2}
use Rattle.std.proofs.lemmas.Simd.{length-zip2, get_or-zip2, get_or-replicate, length-swz_l, get_or-swz_l_below, swz_l, SwzOk, SwzOk-from_below, Each1-from_get_or}
use Rattle.gf_lanes.specs.Lanes.{HasLanes, Repeats}

pub lanes_zip2 : (f : ℕ → ℕ → ℕ) (a b : List ℕ) → length a ≡ 32 → length b ≡ 32 → HasLanes (zip2 f a b) (λ k. f (get_or a k 0) (get_or b k 0))
lanes_zip2 f a b p q = record {
  long = length-zip2 f a b (p ∙ sym q) ∙ p;
  each = λ k l. get_or-zip2 f a b k 0 0 0 (omega arith) (omega arith);
}

pub lanes_splat : (f : ℕ → ℕ → ℕ) (a : List ℕ) (x : ℕ) → length a ≡ 32 → HasLanes (zip2 f a (replicate 32 x)) (λ k. f (get_or a k 0) x)
lanes_splat f a x p =
    let h = lanes_zip2 f a (replicate 32 x) p refl in
    record { long = h.long; each = λ k l. h.each k l ∙ ap (f (get_or a k 0)) (get_or-replicate 32 k x 0 l) }

pub splat_lanes : (f : ℕ → ℕ → ℕ) (x : ℕ) (b : List ℕ) → length b ≡ 32 → HasLanes (zip2 f (replicate 32 x) b) (λ k. f x (get_or b k 0))
splat_lanes f x b p =
    let h = lanes_zip2 f (replicate 32 x) b refl p in
    record { long = h.long; each = λ k l. h.each k l ∙ ap (λ y. f y (get_or b k 0)) (get_or-replicate 32 k x 0 l) }

pub may_look_up : (js : List ℕ) (f : ℕ → ℕ) → HasLanes js f → ((k : ℕ) → k < 32 → f k < 16) → SwzOk w8 16 32 0 js
may_look_up js f h small =
    let long = h.long in
    SwzOk-from_below w8 16 2 32 0 js refl (omega arith) (Each1-from_get_or (λ j. j < 16) js 0 (λ i l. omega (arith, h.each i (omega arith), small i (omega arith))))

-- a table that repeats holds the same in both halves
again : (table : List ℕ) → Repeats table → (k j : ℕ) → k < 32 → j < 16 → get_or table (16 * (k / 16) + j) 0 ≡ get_or table j 0
again table h k j lk lj =
    elim (cases_lt k 16) [
      | inl lt ↦ ap (λ q. get_or table q 0) (let e : 16 * (k / 16) + j ≡ j = omega arith in e)
      | inr ge ↦ ap (λ q. get_or table q 0) (let e : 16 * (k / 16) + j ≡ 16 + j = omega arith in e) ∙ h.each j lj
    ]

pub looked_up : (js : List ℕ) (f : ℕ → ℕ) (table : List ℕ) → HasLanes js f → ((k : ℕ) → k < 32 → f k < 16) → Repeats table
    → HasLanes (swz_l w8 16 table 0 js) (λ k. get_or table (f k) 0)
looked_up js f table h small repeats =
    let long = h.long in
    let wide = repeats.long in
    record {
      long = length-swz_l w8 16 table 0 js ∙ long;
      each = λ k l.
          let e = h.each k l in
          let below = small k l in
          get_or-swz_l_below w8 16 table 0 js k (omega arith) (omega (arith, below))
          ∙ ap (λ j. get_or table j 0) (let s : 16 * ((0 + k) / 16) + get_or js k 0 ≡ 16 * (k / 16) + f k = omega arith in s)
          ∙ again table repeats k (f k) l below;
    }
