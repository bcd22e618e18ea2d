use Rattle.std.proofs.Common.{arith}
use Rattle.std.proofs.lemmas.Result.{err_from_is_err_and}
use Rattle.guarded_update.specs.Reads.{after_adding}
use Rattle.guarded_update.proofs.Items.{item_exit, item_step}
use Rattle.guarded_update.proofs.spelled.+add_items.Goals as goal

pub returns-in_err-read-clause-spelled : goal.returns-in_err-read-clause-spelled
returns-in_err-read-clause-spelled g t c = let p = err_from_is_err_and c.from_residual.result c.from_residual.ensures.1 in
    λ added rest len all e. rw (p.1, p.2) (item_exit g.T.Spelled.spelling g.T.Spelled.allowed c.in_err-read.field-0.0 c.args.count c.args.fields.now c.read.new.fields c.args.items.now.items (omega arith) c.in_err-read.ensures.spelled added rest len all e)

pub returns-clause-spelled : goal.returns-clause-spelled
returns-clause-spelled g t c = item_step g.T.Spelled.spelling g.T.Spelled.allowed c.args.count c.args.fields.now c.read.new.fields c.add_items.new.fields c.args.items.now.items c.push.new.self.items c.in_ok-read.field-0
    (after_adding c.add_items.result c.add_items.new.items.items) (omega arith) c.in_ok-read.ensures.spelled c.in_ok-push.ensures.items c.add_items.ensures.spelled
