use Rattle.std.proofs.Common.{◌∷◌, [], sym, ap, ◌∙◌, subst}
use Rattle.std.specs.Prelude.{Contains}
use Rattle.block_names.proofs.Clashed.{named_apart}
use Rattle.ring_model.specs.World.{world}
use Rattle.ring_world.specs.Worlds.{event_of, strings_of}
use Rattle.ring_world.specs.Steps.{said_by, IsStepClash, IsStepClashAmong}
use Rattle.ring_world.proofs.Calls.{step_clash, step_among}
use Rattle.ring_world.proofs.state.World.step.Goals as goal

pub returns-in-Ok-clause-said : goal.returns-in-Ok-clause-said
returns-in-Ok-clause-said g c = λ r events ring h may.
    let new = c.in-Ok.ensures.stands r events ring h may in
    c.tell.ensures (world r events).sent (world r (event_of r (world r events) c.args.event ∷ events)).sent (c.count-before.ensures _ _ h.is.mail_is) (c.count.ensures _ _ new.is.mail_is)
    ∙ ap (λ b. said_by b (world r events).sent (world r (event_of r (world r events) c.args.event ∷ events)).sent) (c.in-Ok.ensures.there r events ring h may)

pub returns-in-Ok-clause-grows : goal.returns-in-Ok-clause-grows
returns-in-Ok-clause-grows g c = λ r events ring h may few clash.
    c.grows.ensures r few (event_of r (world r events) c.args.event ∷ []) events (may, h.legal) clash

pub returns-in-Ok-clause-held : goal.returns-in-Ok-clause-held
returns-in-Ok-clause-held g c = λ r events ring h may. (c.in-Ok.ensures.names r events ring h may).0

pub returns-in-Ok-clause-grew : goal.returns-in-Ok-clause-grew
returns-in-Ok-clause-grew g c = λ r events ring h may. (c.in-Ok.ensures.names r events ring h may).1

pub returns-in-Err-clause-grew : goal.returns-in-Err-clause-grew
returns-in-Err-clause-grew g c = λ r events ring h may. (c.in-Err.ensures.names r events ring h may).0

pub returns-in-Err-clause-fault : goal.returns-in-Err-clause-fault
returns-in-Err-clause-fault g c = λ r events ring h may.
    subst (IsStepClash g.H.Hash160.naming c.happen.new.book.held (Contains (strings_of r (world r events) c.args.event))) (sym c.end.ensures.fault)
    (step_clash g.H.Hash160.naming c.happen.new.book.held (Contains (strings_of r (world r events) c.args.event)) c.in-Err.fault (c.in-Err.ensures.names r events ring h may).1)

pub returns-in-Ok-clause-all : goal.returns-in-Ok-clause-all
returns-in-Ok-clause-all g c = λ r events ring h may. (c.in-Ok.ensures.names r events ring h may).2

pub returns-in-Ok-clause-apart : goal.returns-in-Ok-clause-apart
returns-in-Ok-clause-apart g c = λ r events ring h may.
    let names = c.in-Ok.ensures.names r events ring h may in
    named_apart g.H.Hash160.naming c.args.book.now.held c.happen.new.book.held (strings_of r (world r events) c.args.event) names.1 names.2

pub returns-in-Err-clause-clash : goal.returns-in-Err-clause-clash
returns-in-Err-clause-clash g c = λ r events ring h may.
    let names = c.in-Err.ensures.names r events ring h may in
    let Of = Contains (strings_of r (world r events) c.args.event) in
    subst (IsStepClashAmong g.H.Hash160.naming c.args.book.now.held Of) (sym c.end.ensures.fault)
    (step_among g.H.Hash160.naming c.args.book.now.held c.happen.new.book.held Of c.in-Err.fault names.0 names.1)
