use Rattle.std.proofs.Common.{rules, tests, sym, ◌∙◌, ap, map}
use Rattle.std.proofs.lemmas.Iterator.Consumers.{map_from_collect}
use Rattle.std.proofs.lemmas.Iterator.Splits.{YieldsList-from_slice_split}
use Rattle.std.proofs.lemmas.Result.{IfOk-weaker}
use Rattle.std.proofs.lemmas.Simd.{map-map}
use Rattle.script_grammar.specs.Update.{is_or}
use Rattle.script_words.specs.Groups.{texts, groups_in}
use Rattle.script_words.proofs.Grouped.{split_map}
use Rattle.script_words.proofs.clause.parts.Goals as goal

pub returns : goal.returns
returns c =
    IfOk-weaker c.collect.result _ _
    (λ v h. sym (map-map groups_in (λ part. part.now) v.items) ∙ ap (map groups_in) h ∙ split_map (λ group. texts group.now) is_or c.args.groups.now)
    (map_from_collect _ c.collect.ensures.ran (YieldsList-from_slice_split _ (λ group. is_or (texts group.now)) _ c.split.ensures.rest c.split.ensures.done c.split.ensures.closure (λ x r q k. search (rules, tests))))
