use Rattle.std.proofs.Common.{◌∙◌, ◌<◌, sym, ap, length, slice_get, Some, take, drop, ◌*◌, arith}
use Rattle.tree_format.proofs.Names.{length-names_in, name_at}
use Rattle.tree_format.proofs.inner.Inner.name.Goals as goal

pub name_at-requires : goal.name_at-requires
name_at-requires c = omega (arith, c.requires, ap length c.self.view_is, length-names_in c.self.inside.count c.self.inside.names.now, c.self.invariant.whole)

pub returns : goal.returns
returns c =
    let few : c.args.k < c.self.inside.count = omega (arith, c.requires, ap length c.self.view_is, length-names_in c.self.inside.count c.self.inside.names.now) in
    ap (λ names. slice_get names c.args.k) (sym c.self.view_is) ∙ name_at c.self.inside.count c.self.inside.names.now c.args.k few
    ∙ ap (λ n. Some (take 20 (drop (20 * n) c.self.inside.names.now))) (sym c.from.ensures) ∙ ap Some (sym c.name_at.ensures)
