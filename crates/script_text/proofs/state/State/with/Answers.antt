use Rattle.std.proofs.Common.{refl, reverse}
use Rattle.std.proofs.lemmas.List.{reverse-append}
use Rattle.script_grammar.specs.Script.{items}
use Rattle.script_grammar.specs.Steps.{Fits}
use Rattle.script_text.proofs.Keeping.{Counted, keeps, gives, overfull, few_entries, range_is, few_are_sent}
use Rattle.script_text.proofs.state.State.with.Goals as goal

pub add-requires-clause-range : goal.add-requires-clause-range
add-requires-clause-range c =
    let fits : Fits (items (reverse c.self.inside.placed.items)) c.args.item = rw c.self.view_is c.requires in
    range_is c.self.inside.known c.self.inside.load _ c.args.item c.self.invariant fits

pub add-requires-clause-few : goal.add-requires-clause-few
add-requires-clause-few c = λ client. few_are_sent c.self.inside.known c.self.inside.load _ client c.self.invariant

pub add_item-requires-clause-few : goal.add_item-requires-clause-few
add_item-requires-clause-few c = few_entries c.self.inside.load _ _ c.self.invariant.loads c.self.invariant.borne

pub invariant_of-result : goal.invariant_of-result
invariant_of-result c =
    let fits : Fits (items (reverse c.self.inside.placed.items)) c.args.item = rw c.self.view_is c.requires in
    let counted : Counted c.self.inside.known c.add.new.self c.self.inside.load c.add_item.new.self (reverse c.self.inside.placed.items) c.args.number c.block-block.result c.args.item c.has_room.result c.is_borne.result =
    record { stands = c.self.invariant; fits = fits; next_is = c.in_ok-add.ensures.ok; block_is = c.block-block.ensures; adds = c.in_ok-add_item.ensures.stands; room_is = c.has_room.ensures; room_holds = c.if-not-has_room.false; borne_is = c.is_borne.ensures; borne_holds = c.if-not-is_borne.false } in
    keeps _ _ _ _ (reverse c.self.inside.placed.items) _ c.args.number c.block-block.result c.args.item _ _ counted (rw (c.in_ok-push.ensures.items, reverse-append) refl)

pub returns : goal.returns
returns c =
    let fits : Fits (items (reverse c.self.inside.placed.items)) c.args.item = rw c.self.view_is c.requires in
    let counted : Counted c.self.inside.known c.add.new.self c.self.inside.load c.add_item.new.self (reverse c.self.inside.placed.items) c.args.number c.block-block.result c.args.item c.has_room.result c.is_borne.result =
    record { stands = c.self.invariant; fits = fits; next_is = c.in_ok-add.ensures.ok; block_is = c.block-block.ensures; adds = c.in_ok-add_item.ensures.stands; room_is = c.has_room.ensures; room_holds = c.if-not-has_room.false; borne_is = c.is_borne.ensures; borne_holds = c.if-not-is_borne.false } in
    rw (← c.self.view_is)
    (gives _ _ _ _ (reverse c.self.inside.placed.items) (reverse c.push.new.self.items) c.args.number c.block-block.result c.args.item _ _ counted (rw (c.in_ok-push.ensures.items, reverse-append) refl))

pub returns-then-not-is_borne : goal.returns-then-not-is_borne
returns-then-not-is_borne c =
    let fits : Fits (items (reverse c.self.inside.placed.items)) c.args.item = rw c.self.view_is c.requires in
    rw (← c.self.view_is)
    (overfull _ c.add.new.self c.self.inside.load c.add_item.new.self (reverse c.self.inside.placed.items) c.args.number c.block-block.result c.args.item c.is_borne.result c.self.invariant fits c.in_ok-add.ensures.ok c.block-block.ensures c.in_ok-add_item.ensures.stands c.is_borne.ensures c.if-not-is_borne.true)
