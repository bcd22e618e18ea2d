-- Parts with consecutive indexes.
use Rattle.std.proofs.Common.{◌≡◌, ◌≤◌, ◌+◌, ◌∙◌, ℕ, List, ap, sym, map, length, subst}
use Rattle.std.specs.List.{range_with_len}
use Rattle.std.proofs.lemmas.List.{length-map}
use Rattle.std.proofs.lemmas.List.FromFn.{length-range_with_len}
use Rattle.cauchy_code.specs.Code.{Indexes}
use Rattle.cauchy_code.proofs.Blocks.{distinct_range}
use Rattle.cauchy_code.proofs.AnyRows.{below_range}

pub many_of : (from m : ℕ) (parts : List (ℕ × List ℕ)) → map (λ q. q.0) parts ≡ range_with_len from m → length parts ≡ m
many_of from m parts is = sym (length-map parts (λ q. q.0)) ∙ ap length is ∙ length-range_with_len from m

pub indexes_of : (from m n : ℕ) (parts : List (ℕ × List ℕ)) → from + m ≤ n → map (λ q. q.0) parts ≡ range_with_len from m → Indexes n (map (λ q. q.0) parts)
indexes_of from m n parts there is = subst (Indexes n) (sym is) (record { below = below_range n from m there; differ = distinct_range from m })
