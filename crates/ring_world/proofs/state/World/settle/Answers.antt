use Rattle.std.proofs.Common.{◌++◌, sym, subst}
use Rattle.ring_mail.specs.Skips.{is_skipped}
use Rattle.ring_world.specs.Skipping.{skips}
use Rattle.ring_model.specs.Deliveries.{settled}
use Rattle.message_model.specs.Naming.{IsNamedIn}
use Rattle.ring_world.specs.Steps.{IsStepClash, IsStepClashAmong}
use Rattle.ring_world.proofs.Calls.{step_clash, step_among}
use Rattle.ring_world.proofs.Delivered.{all_delivered, none_skipped}
use Rattle.ring_world.proofs.Settling.{more_grew, settled_apart}
use Rattle.ring_world.proofs.state.World.settle.Goals as goal

pub returns-in-Ok-clause-delivered : goal.returns-in-Ok-clause-delivered
returns-in-Ok-clause-delivered g c = λ none r events ring h.
    all_delivered r (is_skipped (skips c.args.self.now)) (settled r (is_skipped (skips c.args.self.now)) events c.in-Ok.count ++ events) (none_skipped (skips c.args.self.now) none) (c.in-Ok.ensures.ok r events ring h).all

pub returns-in-Ok-clause-executed : goal.returns-in-Ok-clause-executed
returns-in-Ok-clause-executed g c = λ none r events ring h few right i correct text was.
    let done = c.in-Ok.ensures.ok r events ring h in
    c.all_executed.ensures r few right (settled r (is_skipped (skips c.args.self.now)) events c.in-Ok.count ++ events) done.is.legal
    (all_delivered r (is_skipped (skips c.args.self.now)) (settled r (is_skipped (skips c.args.self.now)) events c.in-Ok.count ++ events) (none_skipped (skips c.args.self.now) none) done.all) i correct text was

pub returns-in-Ok-clause-grows : goal.returns-in-Ok-clause-grows
returns-in-Ok-clause-grows g c = λ r events ring h few clash.
    c.grows.ensures r few (settled r (is_skipped (skips c.args.self.now)) events c.in-Ok.count) events (c.in-Ok.ensures.ok r events ring h).is.legal clash

pub returns-in-Ok-clause-held : goal.returns-in-Ok-clause-held
returns-in-Ok-clause-held g c = λ r events ring h. (c.in-Ok.ensures.more r events ring h).held

pub returns-in-Ok-clause-grew : goal.returns-in-Ok-clause-grew
returns-in-Ok-clause-grew g c = λ r events ring h.
    more_grew g.H.Hash160.naming r (is_skipped (skips c.args.self.now)) events c.in-Ok.count c.args.book.now.held c.sweep.new.book.held c.in-Ok.ensures.fits (c.in-Ok.ensures.more r events ring h)

pub returns-in-Err-clause-grew : goal.returns-in-Err-clause-grew
returns-in-Err-clause-grew g c = λ r events ring h. (c.in-Err.ensures.fault r events ring h).0

pub returns-in-Err-clause-fault : goal.returns-in-Err-clause-fault
returns-in-Err-clause-fault g c = λ r events ring h.
    subst (IsStepClash g.H.Hash160.naming c.sweep.new.book.held (IsNamedIn r (is_skipped (skips c.args.self.now)) events)) (sym c.end.ensures.fault)
    (step_clash g.H.Hash160.naming c.sweep.new.book.held (IsNamedIn r (is_skipped (skips c.args.self.now)) events) c.in-Err.fault (c.in-Err.ensures.fault r events ring h).1)

pub returns-in-Ok-clause-all : goal.returns-in-Ok-clause-all
returns-in-Ok-clause-all g c = λ r events ring h. (c.in-Ok.ensures.more r events ring h).all

pub returns-in-Ok-clause-apart : goal.returns-in-Ok-clause-apart
returns-in-Ok-clause-apart g c = λ r events ring h.
    settled_apart g.H.Hash160.naming r (is_skipped (skips c.args.self.now)) events c.in-Ok.count c.args.book.now.held c.sweep.new.book.held (c.in-Ok.ensures.ok r events ring h).all
    (c.in-Ok.ensures.more r events ring h)

pub returns-in-Err-clause-clash : goal.returns-in-Err-clause-clash
returns-in-Err-clause-clash g c = λ r events ring h.
    let failed = c.in-Err.ensures.fault r events ring h in
    let Of = IsNamedIn r (is_skipped (skips c.args.self.now)) events in
    subst (IsStepClashAmong g.H.Hash160.naming c.args.book.now.held Of) (sym c.end.ensures.fault)
    (step_among g.H.Hash160.naming c.args.book.now.held c.sweep.new.book.held Of c.in-Err.fault failed.0 failed.1)
