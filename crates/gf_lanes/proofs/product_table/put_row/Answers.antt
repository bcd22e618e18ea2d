use Rattle.gf_lanes.proofs.ProductRowLemmas.{row_of_halves}
use Rattle.gf_lanes.proofs.product_table.put_row.Goals as goal

pub returns-clause-here : goal.returns-clause-here
returns-clause-here c =
    row_of_halves c.store_half-2.new.out c.store_half.new.out c.args.bytes.now c.products.result c.products-2.result c.args.c c.times_sixteen.result c.times_sixteen.ensures
    c.products.ensures.each c.products-2.ensures.each c.store_half.ensures.inside c.store_half-2.ensures.inside c.store_half-2.ensures.before
