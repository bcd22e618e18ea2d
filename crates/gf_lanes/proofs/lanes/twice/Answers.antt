use Rattle.std.proofs.Common.{◌≡◌, ◌%◌, ◌++◌, length, get_or, take, drop, refl, ◌∙◌, arith}
use Rattle.std.proofs.lemmas.List.FromFn.{get_or-map-range_with_len}
use Rattle.std.proofs.lemmas.List.{get_or_append_left}
use Rattle.std.proofs.lemmas.Simd.{length-chunk, get_or-chunk}
use Rattle.gf_lanes.proofs.lanes.twice.Goals as goal

pub returns : goal.returns
returns c =
    let half = take 16 (drop c.args.at c.args.bytes.now) in
    let long : length half ≡ 16 = length-chunk c.args.at 16 c.args.bytes.now c.requires in
    record {
      long = refl;
      each = λ k l.
          get_or-map-range_with_len (λ j. get_or (half ++ half) (j % 16) 0) 0 32 k k 0 l (omega arith)
          ∙ get_or_append_left half half 0 (k % 16) (omega arith) ∙ get_or-chunk c.args.at 16 c.args.bytes.now (k % 16) 0 (omega arith);
    }
