use Rattle.std.proofs.Common.{map, ◌++◌, refl, ap, subst, ◌∙◌}
use Rattle.std.proofs.lemmas.Result.{err_from_is_err_and}
use Rattle.ring_model.specs.Messages.{Member}
use Rattle.message_model.specs.Meaning.{who, letter}
use Rattle.ring_mail.specs.Mails.{IsMail}
use Rattle.message_model.specs.Naming.{named_for}
use Rattle.ring_world.specs.Deliveries.{packet_from}
use Rattle.client_core.proofs.Calls.{names_spent}
use Rattle.ring_world.proofs.Requests.{known_still}
use Rattle.ring_world.proofs.Stepping.{handed}
use Rattle.ring_world.proofs.state.World.hand.Goals as goal

pub returns-in_err-post-clause-names : goal.returns-in_err-post-clause-names
returns-in_err-post-clause-names g c = λ r v done ring h from to.
    let p = err_from_is_err_and c.from_residual-in_err-post.result c.from_residual-in_err-post.ensures.1 in
    names_spent g.H.Hash160.naming (named_for r (Member c.args.to.0) (v.got (Member c.args.to.0)) (letter c.args.from c.args.bytes.now)) c.args.book.now.held c.take.new.book.held c.from_residual-in_err-post.result p.0 p.1 p.2
    (c.in_ok-out.ensures.names r v.got v.archived ring from to h.members_are).1

pub returns-clause-known : goal.returns-clause-known
returns-clause-known g c =
    known_still g.N.Node.knows g.H.Hash160.naming c.args.book.now.held c.take.new.book.held c.args.self.now (record c.args.self.now { members = c.take.new.self; mail = c.post.new.mail }) refl c.in_ok-out.ensures.known c.take.ensures.keeps c.requires

pub returns-clause-ok : goal.returns-clause-ok
returns-clause-ok g c = λ r v done ring h from to.
    handed g.N.Node.stands r c.args.self.now v done (who c.args.from) c.args.to.0 c.args.bytes.now c.take.new.self c.post.new.mail
    (c.in_ok-out.ensures.members r v.got v.archived ring from to h.members_are)
    (subst (λ xs. IsMail c.post.new.mail (v.sent ++ xs) done) (ap (map (packet_from (Member c.args.to.0))) c.deref.ensures.value ∙ c.in_ok-out.ensures.out r v.got v.archived ring from to h.members_are)
    (c.in_ok-post.ensures.mail v.sent done h.mail_is)) h

pub returns-clause-names : goal.returns-clause-names
returns-clause-names g c = λ r v done ring h from to. c.in_ok-out.ensures.names r v.got v.archived ring from to h.members_are
