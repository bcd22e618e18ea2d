use Rattle.std.proofs.Common.{◌∙◌, ap, arith}
use Rattle.gf256.specs.Field.{product}
use Rattle.gf256.proofs.Laws.{product_inverse}
use Rattle.gf256.proofs.Powers.{power_inverse}
use Rattle.gf256.proofs.inv.Goals as goal

pub returns : goal.returns
returns c =
    let value = c.power.ensures ∙ power_inverse c.args.a c.exponent-i.result c.requires (omega arith) (omega arith) c.exponent-i.ensures.found in
    record { value = value; one = ap (product c.args.a) value ∙ product_inverse c.args.a (omega arith) (omega arith) }
