use Rattle.std.proofs.Common.{List, ℕ, ap, ◌∙◌}
use Rattle.std.specs.FinMap as map
use Rattle.block_names.proofs.Clashed.{held_one}
use Rattle.dissemination.proofs.asking.take_named.Goals as goal

pub returns-then-ne-clause-names : goal.returns-then-ne-clause-names
returns-then-ne-clause-names g c =
    let made = c.in_ok-name.ensures.held ∙ ap (λ (s : List ℕ). map.insert c.args.book.now.held (g.H.Hash160.naming s) s) c.deref.ensures in
    record { held = made; all = held_one g.H.Hash160.naming c.args.book.now.held c.name.new.self.held c.args.bytes made }

pub returns-clause-names : goal.returns-clause-names
returns-clause-names g c =
    let made = c.in_ok-name.ensures.held ∙ ap (λ (s : List ℕ). map.insert c.args.book.now.held (g.H.Hash160.naming s) s) c.deref.ensures in
    record { held = made; all = held_one g.H.Hash160.naming c.args.book.now.held c.name.new.self.held c.args.bytes made }
