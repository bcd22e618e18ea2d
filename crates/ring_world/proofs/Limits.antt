-- What the limits of an update give of its clauses.
use Rattle.std.proofs.Common.{◌≡◌, true, ◌&&◌, length, nat_le, IsTrue}
use Rattle.std.specs.List.{list_all}
use Rattle.guarded_update.specs.declared.update.Update.{Update}
use Rattle.guarded_update.specs.Fitting.{guards_in, actions_in, content_in, sizes_fit, clause_fits, clause_is_short, update_fits}
use Rattle.guarded_update.proofs.Sizes.{and_parts, le_of, clauses_are_short}

-- the clauses of an update within the limits are within them one by one
pub short_clauses : (u : Update) → IsTrue (update_fits u) → list_all clause_is_short u.clauses ≡ true
short_clauses u h =
    let cs = u.clauses in
    let sizes = and_parts (nat_le 1 (length cs) && nat_le (length cs) 16 && list_all clause_fits cs) (sizes_fit cs) h in
    let content = and_parts (nat_le (guards_in cs) 16 && nat_le (actions_in cs) 16) (nat_le (content_in cs) 65536) sizes.1 in
    let counts = and_parts (nat_le (guards_in cs) 16) (nat_le (actions_in cs) 16) content.0 in
    clauses_are_short cs (le_of (guards_in cs) 16 counts.0) (le_of (actions_in cs) 16 counts.1) (le_of (content_in cs) 65536 content.1)
