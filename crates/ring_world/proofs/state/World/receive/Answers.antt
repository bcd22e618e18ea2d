use Rattle.std.proofs.Common.{ℕ, Some, Ok, sym, subst}
use Rattle.std.proofs.lemmas.Result.{err_from_is_err_and}
use Rattle.pond_base.specs.declared.numbers.Party.{Party}
use Rattle.ring_model.specs.Messages.{Member}
use Rattle.ring_model.specs.World.{IsParty, came}
use Rattle.message_model.specs.Meaning.{who}
use Rattle.ring_mail.specs.Places.{packet_of}
use Rattle.message_model.specs.Naming.{named_of}
use Rattle.client_core.specs.Naming.{Names}
use Rattle.ring_world.specs.Worlds.{IsWorld}
use Rattle.client_core.proofs.Calls.{names_err}
use Rattle.ring_world.proofs.state.World.receive.Goals as goal

pub returns-in_err-hand-in-Member-clause-names : goal.returns-in_err-hand-in-Member-clause-names
returns-in_err-hand-in-Member-clause-names g c = λ r v done ring h from to.
    let p = err_from_is_err_and c.from_residual.result c.from_residual.ensures.1 in
    let failed = c.in_err-hand-in-Member.ensures.names r v done ring h from (subst (λ (t : Party). IsParty r (who t)) c.in-Member.is to) in
    subst (λ (t : Party). Names g.H.Hash160.naming (named_of r v (Some (packet_of (who c.args.from) (who t) c.args.bytes.now))) c.args.book.now.held c.hand.new.book.held c.from_residual.result) (sym c.in-Member.is)
    (names_err g.H.Hash160.naming (named_of r v (Some (packet_of (who c.args.from) (Member c.in-Member.i.0) c.args.bytes.now))) c.args.book.now.held c.hand.new.book.held c.from_residual.result p.0 c.in_err-hand-in-Member.field-0.0 p.1 p.2 failed.0 failed.1)

pub returns-in_ok-hand-in-Member-clause-ok : goal.returns-in_ok-hand-in-Member-clause-ok
returns-in_ok-hand-in-Member-clause-ok g c = λ r v done ring h from to.
    subst (λ (t : Party). IsWorld g.N.Node.stands r c.hand.new.self (came r v (Some (packet_of (who c.args.from) (who t) c.args.bytes.now))) done) (sym c.in-Member.is)
    (c.in_ok-hand-in-Member.ensures.ok r v done ring h from (subst (λ (t : Party). IsParty r (who t)) c.in-Member.is to))

pub returns-in_ok-hand-in-Member-clause-names : goal.returns-in_ok-hand-in-Member-clause-names
returns-in_ok-hand-in-Member-clause-names g c = λ r v done ring h from to.
    subst (λ (t : Party). Names {X = ℕ} g.H.Hash160.naming (named_of r v (Some (packet_of (who c.args.from) (who t) c.args.bytes.now))) c.args.book.now.held c.hand.new.book.held (Ok 0)) (sym c.in-Member.is)
    (c.in_ok-hand-in-Member.ensures.names r v done ring h from (subst (λ (t : Party). IsParty r (who t)) c.in-Member.is to))

pub returns-in_ok-tell-in-Client-clause-known : goal.returns-in_ok-tell-in-Client-clause-known
returns-in_ok-tell-in-Client-clause-known g c = c.in_ok-tell-in-Client.ensures.known g.H.Hash160.naming c.args.book.now.held c.requires

pub returns-in_ok-tell-in-Client-clause-ok : goal.returns-in_ok-tell-in-Client-clause-ok
returns-in_ok-tell-in-Client-clause-ok g c = λ r v done ring h from to.
    subst (λ (t : Party). IsWorld g.N.Node.stands r c.tell.new.self (came r v (Some (packet_of (who c.args.from) (who t) c.args.bytes.now))) done) (sym c.in-Client.is)
    (c.in_ok-tell-in-Client.ensures.ok g.H.Hash160.naming r v done ring h from)
