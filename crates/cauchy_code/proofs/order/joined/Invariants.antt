use Rattle.std.proofs.Common.{◌≡◌, ℕ, List, map, take}
use Rattle.std.specs.List.{concat}
use Rattle.cauchy_code.specs.Code.{Parameters}
use Rattle.cauchy_code.specs.Systematic.{given, others}
use Rattle.cauchy_code.proofs.order.joined.Given as goal

-- the bytes of the rows so far, apart by kind
pub record Apart (rows sums : List ℕ) (code : Parameters) (parts : List (ℕ × List ℕ)) : Type 0 where
  pub given_rows : rows ≡ concat (map (λ p. p.1) (given code (λ p. p.0) parts))
  pub other_rows : sums ≡ concat (map (λ p. p.1) (others code (λ p. p.0) parts))

abbrev pub invariant-loop-part : goal.invariant-loop-part
invariant-loop-part l = Apart l.rows.items l.sums.items l.code (take l.part-index l.parts)
