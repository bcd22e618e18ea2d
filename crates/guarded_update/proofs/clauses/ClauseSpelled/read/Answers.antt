use Rattle.std.proofs.Common.{◌∷◌, ◌++◌, List, ℕ, length, sym, ◌∙◌, append_assoc}
use Rattle.std.specs.List.{flat_map}
use Rattle.std.proofs.lemmas.Result.{err_from_is_err_and}
use Rattle.guarded_update.specs.Spelling.{guard_string, action_string}
use Rattle.guarded_update.proofs.Items.{passed, same_clause}
use Rattle.guarded_update.proofs.clauses.ClauseSpelled.read.Goals as goal

pub returns-in_err-actions-clause-spelled : goal.returns-in_err-actions-clause-spelled
returns-in_err-actions-clause-spelled c = let p = err_from_is_err_and c.from_residual-in_err-actions.result c.from_residual-in_err-actions.ensures.1 in
    λ value rest is e.
    let actions : List ℕ = length value.actions ∷ flat_map action_string value.actions in
    let one = c.in_ok-count.ensures.spelled (length value.guards) ((flat_map guard_string value.guards ++ actions) ++ rest) e in
    let two = c.in_ok-guards.ensures.spelled value.guards (actions ++ rest) (sym one.0) is.guards (one.1 ∙ append_assoc (flat_map guard_string value.guards) actions rest) in
    let three = c.in_ok-count-2.ensures.spelled (length value.actions) (flat_map action_string value.actions ++ rest) two.1 in
    let four = c.in_err-actions.ensures.spelled value.actions rest (sym three.0) is.actions three.1 in
    rw (p.1, p.2) (passed c.in_err-actions.field-0.0 _ _ _ _ _ _ four)

pub returns-clause-spelled : goal.returns-clause-spelled
returns-clause-spelled c = λ value rest is e.
    let actions : List ℕ = length value.actions ∷ flat_map action_string value.actions in
    let one = c.in_ok-count.ensures.spelled (length value.guards) ((flat_map guard_string value.guards ++ actions) ++ rest) e in
    let two = c.in_ok-guards.ensures.spelled value.guards (actions ++ rest) (sym one.0) is.guards (one.1 ∙ append_assoc (flat_map guard_string value.guards) actions rest) in
    let three = c.in_ok-count-2.ensures.spelled (length value.actions) (flat_map action_string value.actions ++ rest) two.1 in
    let four = c.in_ok-actions.ensures.spelled value.actions rest (sym three.0) is.actions three.1 in
    (same_clause c.in_ok-guards.guards c.in_ok-actions.actions value two.0 four.0, four.1)
