use Rattle.std.proofs.Common.{◌-◌, ◌+◌, arith}
use Rattle.script_grammar.specs.Words.{generated}
use Rattle.script_words.proofs.Digits.{byte_more, no_more}
use Rattle.script_words.proofs.contents.generated.Goals as goal

pub loop-preserved : goal.loop-preserved
loop-preserved c =
    rw (c.in_ok-push.ensures.items, c.next_seed-last.ensures) (byte_more c.loop.bytes.items c.loop.last (c.args.count - c.loop.counter) (c.args.count - (c.loop.counter + 1)) (generated c.args.seed c.args.count) (omega arith) c.loop.invariant)

pub returns : goal.returns
returns c = no_more _ c.loop.last _ _ (omega arith) c.loop.invariant
