use Rattle.std.proofs.Common.{◌≡◌, arith}
use Rattle.std.proofs.lemmas.Result.{err_from_is_err_and}
use Rattle.manifest.specs.declared.fault.ReadFault.TheVariants.{Memory}
use Rattle.manifest.specs.Spelling.{entry_string}
use Rattle.manifest.specs.Grammar.{is_entry}
use Rattle.manifest.proofs.Rows.{none_read, one_read, all_read}
use Rattle.manifest.proofs.reading.read_entries.Goals as goal

pub returns-in_err-read_entry-clause-spelled : goal.returns-in_err-read_entry-clause-spelled
returns-in_err-read_entry-clause-spelled c = let p = err_from_is_err_and c.from_residual.result c.from_residual.ensures.1 in
    λ xs rest len all e. rw (p.1, p.2)
    (none_read entry_string (is_entry c.args.n) (c.in_err-read_entry.field-0.0 ≡ Memory) c.args.count c.loop-index._index c.args.fields.now c.loop-index.fields c.loop-index.entries (omega arith) c.loop-index.invariant
    c.in_err-read_entry.ensures.spelled xs rest len all e)

pub loop-index-preserved : goal.loop-index-preserved
loop-index-preserved c = one_read entry_string (is_entry c.args.n) c.args.count c.loop-index._index c.args.fields.now c.loop-index.fields c.read_entry.new.fields c.loop-index.entries c.push.new.self c.in_ok-read_entry.field-0
    (omega arith) c.loop-index.invariant c.in_ok-read_entry.ensures.read.0 c.in_ok-read_entry.ensures.read.1 (λ y tail is here. c.in_ok-read_entry.ensures.spelled y tail is here) c.in_ok-push.ensures.ok

pub returns-clause-spelled : goal.returns-clause-spelled
returns-clause-spelled c = all_read entry_string (is_entry c.args.n) c.args.count c.loop-index._index c.args.fields.now c.loop-index.fields c.loop-index.entries c.loop-index-test.false c.loop-index.invariant
