use Rattle.std.proofs.Common.{ℕ, ◌∷◌, ◌++◌, [], Ok, map, filter, ap, sym, ◌∙◌, subst, arith}
use Rattle.std.specs.List.{AllByRecursion as Each}
use Rattle.std.proofs.lemmas.Result.{err_from_is_err_and}
use Rattle.tree_format.specs.Strings.{label_string}
use Rattle.guarded_update.specs.declared.request.Request.{Request}
use Rattle.guarded_update.specs.Spelling.{request_string}
use Rattle.ring_model.specs.Messages.{Client as client}
use Rattle.ring_message.specs.declared.message.Out.{Out}
use Rattle.message_model.specs.Meaning.{who}
use Rattle.ring_mail.specs.Mails.{IsMail}
use Rattle.ring_model.specs.Seats.{IsSeat}
use Rattle.client_core.specs.declared.client.Client.{Client}
use Rattle.client_core.specs.Naming.{Names}
use Rattle.client_core.specs.Clients as core
use Rattle.client_core.proofs.Calls.{names_err, names_spent}
use Rattle.ring_world.specs.Deliveries.{packet_from}
use Rattle.ring_world.specs.Worlds.{IsNamed, next_request}
use Rattle.ring_world.proofs.Telling.{of, client_at, all_seats}
use Rattle.ring_world.proofs.Requests.{next_is, submitted_as, known_more, texts_more}
use Rattle.ring_world.proofs.state.World.submit.Goals as goal

pub returns-in_err-messages-clause-names : goal.returns-in_err-messages-clause-names
returns-in_err-messages-clause-names g c = λ r v done ring h.
    let p = err_from_is_err_and c.from_residual.result c.from_residual.ensures.1 in
    let one = c.index_mut.result.now in
    let made = next_is g.N.Node.stands r c.args.self.now v done c.args.client.0 c.args.label c.args.update one one c.requires.step.0.1 c.index_mut.ensures.value h in
    let failed = c.in_err-messages.ensures.names in
    subst (λ (q : Request). Names g.H.Hash160.naming (label_string c.args.label ∷ request_string q ∷ []) c.args.book.now.held c.submit.new.book.held c.from_residual.result) made
    (names_err g.H.Hash160.naming (label_string c.args.label ∷ request_string (core.next_request one c.args.label c.args.update) ∷ []) c.args.book.now.held c.submit.new.book.held c.from_residual.result p.0 c.in_err-messages.field-0.0 p.1 p.2 failed.0 failed.1)

pub post-requires-clause-seats : goal.post-requires-clause-seats
post-requires-clause-seats g c = subst (Each (λ (out : Out). IsSeat (who out.to))) (sym c.deref.ensures.value) (all_seats c.in_ok-messages.messages.items c.in_ok-messages.ensures.seats)

pub returns-in_err-post-clause-names : goal.returns-in_err-post-clause-names
returns-in_err-post-clause-names g c = λ r v done ring h.
    let p = err_from_is_err_and c.from_residual-in_err-post.result c.from_residual-in_err-post.ensures.1 in
    let one = c.index_mut.result.now in
    let made = next_is g.N.Node.stands r c.args.self.now v done c.args.client.0 c.args.label c.args.update one one c.requires.step.0.1 c.index_mut.ensures.value h in
    subst (λ (q : Request). Names g.H.Hash160.naming (label_string c.args.label ∷ request_string q ∷ []) c.args.book.now.held c.submit.new.book.held c.from_residual-in_err-post.result) made
    (names_spent g.H.Hash160.naming (label_string c.args.label ∷ request_string (core.next_request one c.args.label c.args.update) ∷ []) c.args.book.now.held c.submit.new.book.held c.from_residual-in_err-post.result p.0 p.1 p.2 c.in_ok-messages.ensures.names.1)

pub returns-clause-known : goal.returns-clause-known
returns-clause-known g c =
    let h = g.H.Hash160.naming in
    let held = c.args.book.now.held in
    let now = c.submit.new.book.held in
    let one = c.index_mut.result.now in
    let keeps = c.in_ok-messages.ensures.names.1.kept in
    known_more g.N.Node.knows h held now c.args.self.now c.args.client.0 c.submit.new.self c.post.new.mail (λ node k. g.met.N.Node.stays h held now node keeps k) keeps c.requires.step.0.1
    (texts_more h held now one c.submit.new.self (core.next_request one c.args.label c.args.update) c.in_ok-messages.ensures.texts keeps c.in_ok-messages.ensures.allowed c.in_ok-messages.ensures.holds
    (c.in_ok-messages.ensures.names.2 0 (label_string c.args.label) (omega arith))
    (subst (λ (k : Client). Each (IsNamed h held) (core.texts_of k)) (sym c.index_mut.ensures.value) (c.requires.known.requests c.args.client.0 one c.requires.step.0.1)))
    c.requires.known

pub returns-clause-ok : goal.returns-clause-ok
returns-clause-ok g c = λ r v done ring h.
    let k = c.args.client.0 in
    let one = c.index_mut.result.now in
    let request = core.next_request one c.args.label c.args.update in
    let made = next_is g.N.Node.stands r c.args.self.now v done k c.args.label c.args.update one one c.requires.step.0.1 c.index_mut.ensures.value h in
    let stood = client_at g.N.Node.stands r c.args.self.now v done k one one c.requires.step.0.1 c.index_mut.ensures.value h in
    submitted_as g.N.Node.stands g.H.Hash160.naming r c.args.self.now v done k request (next_request r v k c.args.label c.args.update) c.submit.new.self c.post.new.mail
    made stood.number ring c.in_ok-messages.ensures.allowed c.requires.step.0.1 (c.in_ok-messages.ensures.stands r k (filter (of r k) v.submits) (v.got (client k)) stood)
    (subst (λ xs. IsMail c.post.new.mail (v.sent ++ xs) done)
    (ap (map (packet_from (client k))) c.deref.ensures.value ∙ c.in_ok-messages.ensures.sent r k (filter (of r k) v.submits) (v.got (client k)) ring stood)
    (c.in_ok-post.ensures.mail v.sent done h.mail_is)) h

pub returns-clause-names : goal.returns-clause-names
returns-clause-names g c = λ r v done ring h.
    let one = c.index_mut.result.now in
    let made = next_is g.N.Node.stands r c.args.self.now v done c.args.client.0 c.args.label c.args.update one one c.requires.step.0.1 c.index_mut.ensures.value h in
    subst (λ (q : Request). Names {X = ℕ} g.H.Hash160.naming (label_string c.args.label ∷ request_string q ∷ []) c.args.book.now.held c.submit.new.book.held (Ok 0)) made c.in_ok-messages.ensures.names
