use Rattle.std.proofs.Common.{◌≡◌, ⊎_elim, sym, ◌∙◌, subst}
use Rattle.std.specs.FinMap as map
use Rattle.block_names.specs.Clashes.{AreHeld}
use Rattle.block_names.proofs.Clashed.{held_none, held_one}
use Rattle.tree_format.specs.Strings.{label_string}
use Rattle.ring_message.specs.declared.outcome.Outcome.{Outcome}
use Rattle.fold_model.specs.Folds.{label_named}
use Rattle.pond_node.proofs.answering.tell.Goals as goal

pub returns-in_ok-tell_made-in-Made-clause-all : goal.returns-in_ok-tell_made-in-Made-clause-all
returns-in_ok-tell_made-in-Made-clause-all g c =
    let h = g.H.Hash160.naming in
    let before = c.args.book.now.held in
    let now = c.name.new.self.held in
    let spelled = c.as_slice.ensures ∙ c.in_ok-string-in-Made.ensures in
    subst (λ (o : Outcome). AreHeld h now (label_named c.args.label.now o)) (sym c.in-Made.is)
    (held_one h before now (label_string c.args.label.now) (subst (λ s. now ≡ map.insert before (h s) s) spelled c.in_ok-object-in-Made.ensures.held))

pub returns-in-NoClause-clause-all : goal.returns-in-NoClause-clause-all
returns-in-NoClause-clause-all g c =
    let h = g.H.Hash160.naming in
    let named : Outcome → Type 0 = λ o. AreHeld h c.args.book.now.held (label_named c.args.label.now o) in
    let none = held_none h c.args.book.now.held in
    ⊎_elim (λ e. subst named (sym e) none) (λ k. ⊎_elim (λ e. subst named (sym e) none) (λ k. ⊎_elim (λ e. subst named (sym e) none) (λ e. subst named (sym e) none) k) k) c.in-NoClause.is
