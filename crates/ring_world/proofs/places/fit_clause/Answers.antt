use Rattle.std.proofs.Common.{ap, ◌∙◌}
use Rattle.std.specs.List.{list_all}
use Rattle.guarded_update.specs.Fitting.{action_is_short}
use Rattle.guarded_update.proofs.Sizes.{actions_are_short, short_parts}
use Rattle.ring_world.proofs.places.fit_clause.Goals as goal

pub fit_actions-requires : goal.fit_actions-requires
fit_actions-requires c = ap (list_all action_is_short) c.as_slice-2.ensures ∙ actions_are_short c.args.clause.now.actions (short_parts c.args.clause.now c.requires).2
