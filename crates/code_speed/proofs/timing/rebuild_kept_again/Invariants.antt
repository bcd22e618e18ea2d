use Rattle.std.proofs.Common.{◌≤◌, ◌+◌, ◌≡◌, ℕ, List, map}
use Rattle.std.specs.List.{range_with_len}
use Rattle.cauchy_code.specs.Code.{Parameters, part_length, AllLong}
use Rattle.code_speed.proofs.timing.rebuild_kept_again.Given as goal

-- the parts are rows from an index on, as many as rebuild
pub record Ready (code : Parameters) (from size : ℕ) (parts : List (ℕ × List ℕ)) : Type 0 where
  pub there : from + code.m ≤ code.n
  pub indexes : map (λ p. p.0) parts ≡ range_with_len from code.m
  pub long : AllLong (part_length code.m size) (map (λ p. p.1) parts)

-- and the code is as it was
pub record Again (now old : Parameters) (from size : ℕ) (parts : List (ℕ × List ℕ)) : Type 0 where
  pub ready : Ready now from size parts
  pub same : now ≡ old

abbrev pub invariant-loop : goal.invariant-loop
invariant-loop l = Again l.inverses.code l.initial.inverses.code l.from l.size l.parts
