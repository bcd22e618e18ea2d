use Rattle.std.proofs.Common.{◌/◌, ◌%◌, ◌<◌, get_or, ◌∙◌, arith, bit_xor, w8, Fits}
use Rattle.std.proofs.lemmas.Simd.{Each1-get_or}
use Rattle.gf_lanes.proofs.Products.{by_bits}
use Rattle.gf_lanes.proofs.ProductRowLemmas.{low_at, high_at}
use Rattle.gf_lanes.proofs.lanes.times.Goals as goal

pub returns : goal.returns
returns c = record {
  long = c.sum.ensures.long;
  each = λ k l.
      let v = get_or c.args.v k 0 in
      let long = c.requires.long in
      let byte : v < 256 = (Each1-get_or (Fits w8) c.args.v k 0 (omega arith) c.fits-v.1).fits in
      c.sum.ensures.each k l
      ∙ (λ i. bit_xor (c.by_low_bits-low.ensures.each k l i) (c.by_high_bits-high.ensures.each k l i))
      ∙ (λ i. bit_xor (c.twice.ensures.each (v % 16) (omega arith) i) (c.twice-2.ensures.each (v / 16) (omega arith) i))
      ∙ (λ i. bit_xor (low_at c.args.table.now c.args.c v c.requires.table (omega arith) i) (high_at c.args.table.now c.args.c v c.requires.table (omega arith) byte i))
      ∙ by_bits c.args.c v;
}
