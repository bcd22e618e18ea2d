use Rattle.std.proofs.Common.{ap, ◌∙◌}
use Rattle.std.specs.List.{list_all}
use Rattle.guarded_update.specs.Fitting.{clause_is_short}
use Rattle.guarded_update.proofs.Sizes.{fitting_clauses}
use Rattle.guarded_update.proofs.writing.write.Goals as goal

pub write_items-requires : goal.write_items-requires
write_items-requires c = ap (list_all clause_is_short) c.as_slice-clauses.ensures ∙ (fitting_clauses c.args.request.now c.requires).1
