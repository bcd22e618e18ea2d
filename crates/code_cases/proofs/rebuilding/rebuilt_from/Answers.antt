use Rattle.std.proofs.Common.{◌∙◌, ap, sym, map, length, subst}
use Rattle.std.proofs.lemmas.List.{length-map}
use Rattle.std.proofs.lemmas.List.FromFn.{length-range_with_len}
use Rattle.cauchy_code.specs.Code.{AllLong, Indexes, part_length}
use Rattle.cauchy_code.proofs.Blocks.{distinct_range}
use Rattle.cauchy_code.proofs.AnyRows.{below_range}
use Rattle.code_cases.proofs.rebuilding.rebuilt_from.Goals as goal

pub rebuild-requires : goal.rebuild-requires
rebuild-requires c =
    let code = c.args.code.now in
    let is = ap (map (λ q. q.0)) c.deref.ensures.value ∙ c.in_ok-parts.ensures.0 in
    record {
      many = sym (length-map c.deref.result.now (λ q. q.0)) ∙ ap length is ∙ length-range_with_len c.args.from code.m;
      indexes = subst (Indexes code.n) (sym is) (record { below = below_range code.n c.args.from code.m c.requires; differ = distinct_range c.args.from code.m });
      long = subst (λ ps. AllLong (part_length code.m (length c.args.block.now)) (map (λ q. q.1) ps)) (sym c.deref.ensures.value) c.in_ok-parts.ensures.1;
    }
