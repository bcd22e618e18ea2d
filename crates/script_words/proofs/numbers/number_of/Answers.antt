use Rattle.std.proofs.Common.{◌+◌, ◌-◌, ◌*◌, get_or, ◌∙◌, sym, arith, drop}
use Rattle.script_words.proofs.Digits.{too_large, digit_more}
use Rattle.script_words.proofs.numbers.number_of.Goals as goal

pub returns-then-number-gt4294967295 : goal.returns-then-number-gt4294967295
returns-then-number-gt4294967295 c =
    too_large (c.loop-digit.number * 10 + (get_or c.args.word.now c.loop-digit.digit-index 0 - 48)) (drop (c.loop-digit.digit-index + 1) c.args.word.now) c.args.word.now
    (sym (digit_more c.loop-digit.number c.loop-digit.digit-index c.args.word.now c.loop-digit-test.true) ∙ c.loop-digit.invariant.0)
    (omega (arith, c.if-number-gt4294967295.true))
