use Rattle.std.proofs.Common.{ap, ◌∙◌}
use Rattle.std.specs.List.{list_all}
use Rattle.guarded_update.specs.Fitting.{clause_is_short}
use Rattle.ring_world.proofs.Limits.{short_clauses}
use Rattle.ring_world.proofs.places.fit_places.Goals as goal

pub fit_clauses-requires : goal.fit_clauses-requires
fit_clauses-requires c = ap (list_all clause_is_short) c.as_slice.ensures ∙ short_clauses c.args.update.now c.requires
