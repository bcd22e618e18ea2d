use Rattle.std.proofs.Common.{◌≡◌, ◌≤◌, ◌-◌, ℕ, List, map, take, length}
use Rattle.cauchy_code.specs.Table.{given_parts}
use Rattle.cauchy_code.proofs.combine.apply.Given as goal

-- the parts so far, and how many there are
pub record Given (block rows : List ℕ) (table : List (List ℕ)) (m p done : ℕ) : Type 0 where
  pub parts : block ≡ given_parts m p rows (take done table)
  pub within : done ≤ m

abbrev pub invariant-loop-done : goal.invariant-loop-done
invariant-loop-done l = Given l.block.items l.rows (map (λ w. w.items) l.table) (length l.table) l.part_len l.done

abbrev pub decreases-loop-done : goal.decreases-loop-done
decreases-loop-done l = length l.table - l.done
