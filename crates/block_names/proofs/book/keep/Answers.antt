use Rattle.std.proofs.Common.{ap, sym, ◌∙◌, arith, Some, cond}
use Rattle.std.proofs.lemmas.Grind.{common_steps}
use Rattle.std.proofs.lemmas.Bool.Decides.{Decides-eqb}
use Rattle.std.proofs.lemmas.Slice.Eq.{slice_eq-Decides}
use Rattle.std.specs.BTreeMap.{is_at}
use Rattle.std.specs.Ordering.{nat_cmp}
use Rattle.std.specs.Cmp.Lexicographic.{slice_cmp}
use Rattle.block_names.proofs.Map.{get_at, string_at, one_kept, different, held_again, free_held, free_none}
use Rattle.block_names.proofs.book.keep.Goals as goal

pub returns-then-eq-clause-free : goal.returns-then-eq-clause-free
returns-then-eq-clause-free c =
    let same = (slice_eq-Decides Decides-eqb _ _ _ c.eq.ensures).0 c.if-eq.true in
    free_held _ _ c.in-Some.held.now _ (get_at c.args.strings.now.entries c.args.name ∙ sym c.in-Some.ensures.value) (sym c.as_slice.ensures ∙ same)

pub returns-then-eq-clause-held : goal.returns-then-eq-clause-held
returns-then-eq-clause-held c =
    let same = (slice_eq-Decides Decides-eqb _ _ _ c.eq.ensures).0 c.if-eq.true in
    held_again _ _ _ (get_at c.args.strings.now.entries c.args.name ∙ sym c.in-Some.ensures.value ∙ ap Some (sym c.as_slice.ensures ∙ same))

pub returns-in-Some-clause-fault : goal.returns-in-Some-clause-fault
returns-in-Some-clause-fault c = (
  get_at c.args.strings.now.entries c.args.name ∙ sym c.in-Some.ensures.value ∙ ap Some (sym c.in_ok-clone.ensures.cases),
  λ same. let equal = (slice_eq-Decides Decides-eqb _ _ _ c.eq.ensures).1 (c.as_slice.ensures ∙ sym c.in_ok-clone.ensures.cases ∙ same) in
      absurd (different (sym c.if-eq.false ∙ equal)),
  c.in_ok-copy_from_slice.ensures,
)

pub returns-clause-free : goal.returns-clause-free
returns-clause-free c = free_none _ _ _ (get_at c.args.strings.now.entries c.args.name ∙ grind (arith, common_steps, c.in_default.not-Some, c.get.ensures.value))

pub returns-clause-held : goal.returns-clause-held
returns-clause-held c = one_kept _ _ _ _ (λ q. c.in_ok-insert.ensures.updates.0 q ∙ ap (λ s. cond (is_at (slice_cmp nat_cmp c.args.name) q) (Some s) (string_at c.args.strings.now.entries q)) c.in_ok-string.ensures)
