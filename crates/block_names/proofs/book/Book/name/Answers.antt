use Rattle.std.proofs.Common.{ap, subst, ◌∙◌, List, ℕ}
use Rattle.std.specs.FinMap as map
use Rattle.block_names.specs.Held.{Held}
use Rattle.block_names.specs.Growth.{IsFree}
use Rattle.block_names.proofs.Grown.{grew_made}
use Rattle.block_names.proofs.Map.{named_insert}
use Rattle.block_names.proofs.book.Book.name.Goals as goal

pub invariant_of-self-2 : goal.invariant_of-self-2
invariant_of-self-2 g c = rw (c.in_ok-keep.ensures.held, c.hash-name.ensures) (named_insert g.H.Hash160.naming _ c.args.bytes.now c.self.invariant)

pub returns-clause-grew : goal.returns-clause-grew
returns-clause-grew g c =
    let same = ap (λ book. book.held) c.self.view_is in
    let name : List ℕ = c.hash-name.result in
    grew_made g.H.Hash160.naming c.args.self.now.held _ name c.args.bytes.now c.hash-name.ensures
    (subst (λ (held : Held). IsFree held name c.args.bytes.now) same c.in_ok-keep.ensures.free)
    (c.in_ok-keep.ensures.held ∙ ap (λ (held : Held). map.insert held name c.args.bytes.now) same)
