use Rattle.std.proofs.Common.{◌≡◌, ◌*◌, ◌<◌, ℕ, List, get_or, length}
use Rattle.gf_lanes.specs.Sums.{part_sum}
use Rattle.gf_lanes.proofs.four.sum_four.Given as goal

-- the row's places below n hold their sums
pub record Made (row factors parts : List ℕ) (p n : ℕ) : Type 0 where
  pub long : length row ≡ p
  pub done : (j : ℕ) → j < n → get_or row j 0 ≡ part_sum factors parts p j

pub record State (a b c d of_first of_second of_third of_fourth parts : List ℕ) (p n : ℕ) : Type 0 where
  pub first : Made a of_first parts p n
  pub second : Made b of_second parts p n
  pub third : Made c of_third parts p n
  pub fourth : Made d of_fourth parts p n

abbrev pub invariant-loop-block : goal.invariant-loop-block
invariant-loop-block l = State l.first l.second l.third l.fourth l.first_factors l.second_factors l.third_factors l.fourth_factors l.parts l.part_len (32 * l.block)

abbrev pub invariant-loop-j : goal.invariant-loop-j
invariant-loop-j l = State l.first l.second l.third l.fourth l.first_factors l.second_factors l.third_factors l.fourth_factors l.parts l.part_len l.j
