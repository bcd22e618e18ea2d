use Rattle.std.proofs.Common.{◌≡◌, sym, ◌∙◌, ap, subst, Result, true}
use Rattle.script_terms.specs.declared.cause.Cause.{Cause}
use Rattle.script_terms.specs.declared.item.Item.{Item}
use Rattle.script_grammar.specs.Known.{Known, known}
use Rattle.script_grammar.specs.Results.{Gives}
use Rattle.script_grammar.specs.Script.{items}
use Rattle.script_grammar.specs.Steps.{in_order, rank_of}
use Rattle.script_text.specs.Texts.{texts}
use Rattle.script_text.proofs.Steps.{says_by}
use Rattle.script_text.proofs.state.State.item.Goals as goal

pub returns : goal.returns
returns c =
    let same : c.self.inside.known ≡ known (items c.args.self.now) = c.self.invariant.known ∙ ap (λ x. known (items x)) c.self.view_is in
    let order : in_order (known (items c.args.self.now)).last (rank_of c.in-Some.verb) ≡ true =
    ap (λ (k : Known). in_order k.last (rank_of c.in-Some.verb)) (sym same) ∙ ap (in_order c.self.inside.known.last) (sym c.rank.ensures) ∙ sym c.is_in_order.ensures ∙ c.if-not-is_in_order.false in
    subst (λ (r : Result Item Cause). Gives (λ x. x) c.said.result r) (says_by (items c.args.self.now) c.args.word.now (texts c.args.words.now) c.in-Some.verb c.self.inside.known (sym c.verb.ensures ∙ c.in-Some.is) order same) c.said.ensures
