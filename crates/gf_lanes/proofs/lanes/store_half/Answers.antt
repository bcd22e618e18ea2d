use Rattle.std.proofs.Common.{◌++◌, ◌∙◌, get_or, arith}
use Rattle.std.proofs.lemmas.Simd.{get_or-put_chunk_at, get_or-put_chunk_below, get_or-put_chunk_above}
use Rattle.std.proofs.lemmas.List.FromFn.{get_or-map-range_with_len}
use Rattle.std.proofs.lemmas.List.{get_or_append_left}
use Rattle.gf_lanes.proofs.lanes.store_half.Goals as goal

pub returns-clause-inside : goal.returns-clause-inside
returns-clause-inside c = λ k l.
    get_or-put_chunk_at c.args.at c.args.out.now _ k 0 l (omega arith)
    ∙ get_or-map-range_with_len (λ j. get_or (c.args.v ++ c.args.v) j 0) 0 16 k k 0 l (omega arith)
    ∙ get_or_append_left c.args.v c.args.v 0 k (omega (arith, c.requires.long))

pub returns-clause-before : goal.returns-clause-before
returns-clause-before c = λ k l. get_or-put_chunk_below c.args.at c.args.out.now _ k 0 l

pub returns-clause-after : goal.returns-clause-after
returns-clause-after c = λ k l. get_or-put_chunk_above c.args.at c.args.out.now _ k 0 l
