use Rattle.std.proofs.Common.{◌∙◌, refl}
use Rattle.gf256.specs.Field.{long_product, remainder, product}
use Rattle.gf_lanes.proofs.Products.{twice_times}
use Rattle.gf_lanes.proofs.lanes.times_sixteen.Goals as goal

pub returns : goal.returns
unfolding product long_product remainder
returns c =
    let four = c.double-2.ensures ∙ twice_times c.args.a 2 c.double.result 4 c.double.ensures refl in
    let eight = c.double-3.ensures ∙ twice_times c.args.a 4 c.double-2.result 8 four refl in
    c.double-4.ensures ∙ twice_times c.args.a 8 c.double-3.result 16 eight refl
