use Rattle.std.proofs.Common.{length, arith}
use Rattle.manifest.specs.Spelling.{name_string}
use Rattle.manifest.specs.Grammar.{is_name}
use Rattle.manifest.proofs.Parts.{long, is_same}
use Rattle.manifest.proofs.Rows.{none_read, one_read, all_read}
use Rattle.manifest.proofs.reading.read_names.Goals as goal

pub returns-in_err-take_name-clause-spelled : goal.returns-in_err-take_name-clause-spelled
returns-in_err-take_name-clause-spelled c = λ xs rest len all e.
    absurd (none_read name_string is_name ⊥ c.args.count c.loop-index._index c.args.fields.now c.loop-index.fields c.loop-index.names (omega arith) c.loop-index.invariant
    (λ y tail is here. c.in_err-take_name.ensures.spelled y tail (long y is) here) xs rest len all e)

pub loop-index-preserved : goal.loop-index-preserved
loop-index-preserved c = one_read name_string is_name c.args.count c.loop-index._index c.args.fields.now c.loop-index.fields c.take_name.new.self c.loop-index.names c.push.new.self c.in_ok-take_name.field-0
    (omega arith) c.loop-index.invariant c.in_ok-take_name.ensures.read.0 (is_same (length c.in_ok-take_name.field-0) 20 c.in_ok-take_name.ensures.read.1) (λ y tail is here. c.in_ok-take_name.ensures.spelled y tail (long y is) here) c.in_ok-push.ensures.ok

pub returns-clause-spelled : goal.returns-clause-spelled
returns-clause-spelled c = all_read name_string is_name c.args.count c.loop-index._index c.args.fields.now c.loop-index.fields c.loop-index.names c.loop-index-test.false c.loop-index.invariant
