use Rattle.std.proofs.Common.{rules, tests, ◌==◌, refl}
use Rattle.std.proofs.lemmas.Iterator.Consumers.{map_from_collect, YieldsList-from_filter}
use Rattle.std.proofs.lemmas.Iterator.Splits.{YieldsList-from_slice_split}
use Rattle.script_grammar.specs.Words.{is_some_word}
use Rattle.script_words.proofs.lines.parts.Goals as goal

pub returns : goal.returns
returns c =
    map_from_collect _ c.collect.ensures.ran
    (YieldsList-from_filter _ is_some_word
    (YieldsList-from_slice_split _ (λ b. b == 32) c.args.line.now (cc) (cc) refl (λ x r q k. search (rules, tests)))
    c.filter.ensures.closure (λ x r q k. search (rules, tests)))
