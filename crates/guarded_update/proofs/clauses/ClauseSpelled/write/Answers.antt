use Rattle.std.proofs.Common.{ap, ◌∙◌}
use Rattle.std.specs.List.{list_all}
use Rattle.guarded_update.specs.Fitting.{action_is_short}
use Rattle.guarded_update.proofs.Sizes.{guards_are_short, actions_are_short, short_parts}
use Rattle.guarded_update.proofs.clauses.ClauseSpelled.write.Goals as goal

pub write_items-requires : goal.write_items-requires
write_items-requires c = guards_are_short c.as_slice-guards.result.now

pub write_items-requires-2 : goal.write_items-requires-2
write_items-requires-2 c = ap (list_all action_is_short) c.as_slice-actions.ensures ∙ actions_are_short c.args.self.now.actions (short_parts c.args.self.now c.requires).2
