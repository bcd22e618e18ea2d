use Rattle.guarded_update.proofs.spelled.+add_items.Given as goal

abbrev pub decreases-add_items : goal.decreases-add_items
decreases-add_items g l = l.count
