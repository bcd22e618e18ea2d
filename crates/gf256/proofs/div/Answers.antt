use Rattle.std.proofs.Common.{◌≡◌, ◌≢◌, ◌<◌, ℕ, ◌∙◌, arith, sym, ap}
use Rattle.gf256.specs.Field.{product, inverse}
use Rattle.gf256.proofs.Laws.{product_zero_l, product_assoc, product_comm, product_one_r, product_inverse}
use Rattle.gf256.proofs.Powers.{power_quotient}
use Rattle.gf256.proofs.div.Goals as goal

back : (a b q : ℕ) → a < 256 → b < 256 → b ≢ 0 → q ≡ product a (inverse b) → product q b ≡ a
back a b q la lb ne e =
    ap (λ x. product x b) e ∙ product_assoc a (inverse b) b
    ∙ ap (product a) (product_comm (inverse b) b ∙ product_inverse b (omega arith) lb) ∙ product_one_r a la

pub returns-then-a-eq0 : goal.returns-then-a-eq0
returns-then-a-eq0 c =
    let value = sym (ap (λ x. product x (inverse c.args.b)) c.if-a-eq0.true ∙ product_zero_l (inverse c.args.b)) in
    record { value = value; back = back c.args.a c.args.b _ (omega arith) (omega arith) c.requires value }

pub returns : goal.returns
returns c =
    let value = c.power.ensures ∙ power_quotient c.args.a c.args.b c.exponent-i.result c.exponent-j.result c.requires (omega arith) (omega arith) c.exponent-i.ensures.found c.exponent-j.ensures.found in
    record { value = value; back = back c.args.a c.args.b _ (omega arith) (omega arith) c.requires value }
