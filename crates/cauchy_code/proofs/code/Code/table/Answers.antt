use Rattle.std.proofs.Common.{◌≡◌, ◌∙◌, sym, map, subst, arith, List, ℕ}
use Rattle.std.specs.Result.{IfOk}
use Rattle.cauchy_code.specs.Code.{AllBelow}
use Rattle.cauchy_code.proofs.AnyRows.{table_fits, table_made, below_range}
use Rattle.cauchy_code.proofs.code.Code.table.Goals as goal

pub mixed-requires : goal.mixed-requires
mixed-requires c =
    let both = table_fits c.args.self.now c.args.xs.now c.m-m.result c.n-n.result c.deref.result.now c.deref-2.result.now c.deref-3.result.now c.m-m.ensures.value c.n-n.ensures.value c.m-m.ensures.few c.n-n.ensures.few
    c.requires.many c.requires.indexes (c.deref.ensures.value ∙ c.in_ok-parts.ensures) (c.deref-2.ensures.value ∙ c.in_ok-sums.ensures) (c.deref-3.ensures.value ∙ c.in_ok-columns.ensures) in
    record {
      few = c.n-n.ensures.few;
      low = subst (AllBelow 32) (sym (c.deref-3.ensures.value ∙ c.in_ok-columns.ensures)) (below_range 32 0 c.m-m.result (omega (arith, c.m-m.ensures.few)));
      rows = both.0;
      fit = both.1;
    }

pub returns : goal.returns
returns c =
    let P : List (List ℕ) → Type 0 = λ table. IfOk c.mixed.result (λ t. map (λ w. w.items) t.items ≡ table) in
    subst P
    (table_made c.args.self.now c.args.xs.now c.m-m.result c.n-n.result c.deref.result.now c.deref-2.result.now c.deref-3.result.now c.m-m.ensures.value c.n-n.ensures.value
    (c.deref.ensures.value ∙ c.in_ok-parts.ensures) (c.deref-2.ensures.value ∙ c.in_ok-sums.ensures) (c.deref-3.ensures.value ∙ c.in_ok-columns.ensures)) c.mixed.ensures
