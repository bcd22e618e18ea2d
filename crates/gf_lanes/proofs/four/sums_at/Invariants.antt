use Rattle.std.proofs.Common.{◌+◌, ◌*◌, ℕ, List, get_or}
use Rattle.gf_lanes.specs.Lanes.{HasLanes}
use Rattle.gf_lanes.specs.Sums.{sum_to}
use Rattle.gf_lanes.proofs.four.sums_at.Given as goal

-- the lanes hold the sums of the first k parts at the places from at on
pub record Sums (a b c d of_first of_second of_third of_fourth parts : List ℕ) (p at k : ℕ) : Type 0 where
  pub first : HasLanes a (λ q. sum_to of_first (λ i. get_or parts (i * p + (at + q)) 0) k)
  pub second : HasLanes b (λ q. sum_to of_second (λ i. get_or parts (i * p + (at + q)) 0) k)
  pub third : HasLanes c (λ q. sum_to of_third (λ i. get_or parts (i * p + (at + q)) 0) k)
  pub fourth : HasLanes d (λ q. sum_to of_fourth (λ i. get_or parts (i * p + (at + q)) 0) k)

abbrev pub invariant-loop-k : goal.invariant-loop-k
invariant-loop-k l = Sums l.sums.first l.sums.second l.sums.third l.sums.fourth l.first l.second l.third l.fourth l.parts l.part_len l.at l.k
