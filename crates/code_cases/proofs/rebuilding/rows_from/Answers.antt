use Rattle.std.proofs.Common.{◌≡◌, ◌∙◌, ◌++◌, ◌∷◌, [], ◌+◌, ap, sym, map, length, subst, refl, List, ℕ}
use Rattle.std.proofs.lemmas.List.{map-append}
use Rattle.cauchy_code.specs.Code.{AllLong, part_length}
use Rattle.cauchy_code.proofs.Blocks.{range_more}
use Rattle.cauchy_code.proofs.AnyRows.{row_length, long_append}
use Rattle.code_cases.proofs.rebuilding.rows_from.Invariants.{Made}
use Rattle.code_cases.proofs.rebuilding.rows_from.Goals as goal

more : (old new : List (ℕ × List ℕ)) (r : ℕ × List ℕ) (from k p : ℕ) → Made old from k p → new ≡ old ++ r ∷ [] → r.0 ≡ from + k → length r.1 ≡ p → Made new from (k + 1) p
more old new r from k p made pushed is long = record {
  indexes = ap (map (λ q. q.0)) pushed ∙ map-append (λ q. q.0) old (r ∷ []) ∙ (λ i. made.indexes i ++ is i ∷ []) ∙ sym (range_more from k);
  long = subst (AllLong p) (sym (ap (map (λ q. q.1)) pushed ∙ map-append (λ q. q.1) old (r ∷ []))) (long_append p (map (λ q. q.1) old) (r.1 ∷ []) made.long (long, tt));
}

pub loop-k-preserved : goal.loop-k-preserved
loop-k-preserved c =
    more c.loop-k.parts.items _ _ c.args.from c.loop-k.k (part_length c.args.code.now.m (length c.args.block.now)) c.loop-k.invariant c.in_ok-push.ensures.items refl
    (ap length (c.in_ok-bytes.ensures ∙ c.deref.ensures.value ∙ c.in_ok-row.ensures) ∙ row_length c.args.code.now c.args.block.now (c.args.from + c.loop-k.k))
