use Rattle.std.proofs.Common.{◌++◌, ◌∷◌, [], sym, ap, ◌∙◌, subst, option_map, slice_get, is_some, Some, Ok, true, false}
use Rattle.std.proofs.lemmas.Result.{err_from_is_err_and}
use Rattle.block_names.proofs.Grown.{grew_none}
use Rattle.std.specs.Prelude.{Contains}
use Rattle.ring_model.specs.World.{between}
use Rattle.message_model.specs.Meaning.{who}
use Rattle.ring_mail.specs.Places.{packet_of, place_of}
use Rattle.message_model.specs.Naming.{named_of}
use Rattle.client_core.specs.Naming.{Names}
use Rattle.client_core.proofs.Calls.{names_err, names_spent}
use Rattle.ring_world.proofs.Calls.{names_none}
use Rattle.ring_world.proofs.Stepping.{delivered_some, delivered_none, marked_world, posted_there, party_seat, place_low, told_place}
use Rattle.ring_world.proofs.state.World.deliver.Goals as goal

pub returns-in_err-found-clause-names : goal.returns-in_err-found-clause-names
returns-in_err-found-clause-names g c = λ r v done ring h from to.
    let p = err_from_is_err_and c.from_residual.result c.from_residual.ensures.1 in
    let names = named_of r v (slice_get (between (who c.args.note.from) (who c.args.note.to) v.sent) c.args.note.place) in
    names_spent g.H.Hash160.naming names c.args.book.now.held c.args.book.now.held c.from_residual.result p.0 p.1 p.2 (grew_none g.H.Hash160.naming c.args.book.now.held (Contains names))

pub returns-in_err-receive-in-Some-clause-names : goal.returns-in_err-receive-in-Some-clause-names
returns-in_err-receive-in-Some-clause-names g c = λ r v done ring h from to.
    let p = err_from_is_err_and c.from_residual-in_err-receive-in-Some.result c.from_residual-in_err-receive-in-Some.ensures.1 in
    let q = packet_of (who c.args.note.from) (who c.args.note.to) c.in-Some.bytes in
    let a = party_seat r (who c.args.note.from) h.small from in
    let b = party_seat r (who c.args.note.to) h.small to in
    let there = sym (ap (option_map (packet_of (who c.args.note.from) (who c.args.note.to))) c.in-Some.is) ∙ c.in_ok-found.ensures.value v.sent done a b h.mail_is in
    let world = marked_world g.N.Node.stands r c.args.self.now v done (place_of c.args.note) c.told.result c.deliver.new.self c.push_back.new.self
    (posted_there c.deliver.new.self v.sent done (who c.args.note.from) (who c.args.note.to) c.args.note.place q there (c.in_ok-found.ensures.ok v.sent done a b h.mail_is))
    c.push_back.ensures.items (told_place c.args.note _ c.told.result c.told.ensures (place_low c.args.self.now.mail v.sent done (who c.args.note.from) (who c.args.note.to) c.args.note.place q h.mail_is there)) h in
    let failed = c.in_err-receive-in-Some.ensures.names r v (done ++ place_of c.args.note ∷ []) ring world from to in
    subst (λ o. Names g.H.Hash160.naming (named_of r v o) c.args.book.now.held c.receive.new.book.held c.from_residual-in_err-receive-in-Some.result) there
    (names_err g.H.Hash160.naming (named_of r v (Some q)) c.args.book.now.held c.receive.new.book.held c.from_residual-in_err-receive-in-Some.result p.0 c.in_err-receive-in-Some.field-0.0 p.1 p.2 failed.0 failed.1)

pub returns-in_ok-receive-in-Some-clause-ok : goal.returns-in_ok-receive-in-Some-clause-ok
returns-in_ok-receive-in-Some-clause-ok g c = λ r v done ring h from to.
    let q = packet_of (who c.args.note.from) (who c.args.note.to) c.in-Some.bytes in
    let a = party_seat r (who c.args.note.from) h.small from in
    let b = party_seat r (who c.args.note.to) h.small to in
    let there = sym (ap (option_map (packet_of (who c.args.note.from) (who c.args.note.to))) c.in-Some.is) ∙ c.in_ok-found.ensures.value v.sent done a b h.mail_is in
    let world = marked_world g.N.Node.stands r c.args.self.now v done (place_of c.args.note) c.told.result c.deliver.new.self c.push_back.new.self
    (posted_there c.deliver.new.self v.sent done (who c.args.note.from) (who c.args.note.to) c.args.note.place q there (c.in_ok-found.ensures.ok v.sent done a b h.mail_is))
    c.push_back.ensures.items (told_place c.args.note _ c.told.result c.told.ensures (place_low c.args.self.now.mail v.sent done (who c.args.note.from) (who c.args.note.to) c.args.note.place q h.mail_is there)) h in
    delivered_some g.N.Node.stands r c.receive.new.self v done (who c.args.note.from) (who c.args.note.to) c.args.note.place q there
    (c.in_ok-receive-in-Some.ensures.ok r v (done ++ place_of c.args.note ∷ []) ring world from to)

pub returns-in_ok-receive-in-Some-clause-names : goal.returns-in_ok-receive-in-Some-clause-names
returns-in_ok-receive-in-Some-clause-names g c = λ r v done ring h from to.
    let q = packet_of (who c.args.note.from) (who c.args.note.to) c.in-Some.bytes in
    let a = party_seat r (who c.args.note.from) h.small from in
    let b = party_seat r (who c.args.note.to) h.small to in
    let there = sym (ap (option_map (packet_of (who c.args.note.from) (who c.args.note.to))) c.in-Some.is) ∙ c.in_ok-found.ensures.value v.sent done a b h.mail_is in
    let world = marked_world g.N.Node.stands r c.args.self.now v done (place_of c.args.note) c.told.result c.deliver.new.self c.push_back.new.self
    (posted_there c.deliver.new.self v.sent done (who c.args.note.from) (who c.args.note.to) c.args.note.place q there (c.in_ok-found.ensures.ok v.sent done a b h.mail_is))
    c.push_back.ensures.items (told_place c.args.note _ c.told.result c.told.ensures (place_low c.args.self.now.mail v.sent done (who c.args.note.from) (who c.args.note.to) c.args.note.place q h.mail_is there)) h in
    subst (λ o. Names g.H.Hash160.naming (named_of r v o) c.args.book.now.held c.receive.new.book.held (Ok true)) there
    (c.in_ok-receive-in-Some.ensures.names r v (done ++ place_of c.args.note ∷ []) ring world from to)

pub returns-in_ok-receive-in-Some-clause-there : goal.returns-in_ok-receive-in-Some-clause-there
returns-in_ok-receive-in-Some-clause-there g c = λ r v done ring h from to.
    let a = party_seat r (who c.args.note.from) h.small from in
    let b = party_seat r (who c.args.note.to) h.small to in
    ap is_some (sym (ap (option_map (packet_of (who c.args.note.from) (who c.args.note.to))) c.in-Some.is) ∙ c.in_ok-found.ensures.value v.sent done a b h.mail_is)

pub returns-in-None-clause-ok : goal.returns-in-None-clause-ok
returns-in-None-clause-ok g c = λ r v done ring h from to.
    let a = party_seat r (who c.args.note.from) h.small from in
    let b = party_seat r (who c.args.note.to) h.small to in
    delivered_none g.N.Node.stands r c.args.self.now v done c.deliver.new.self (who c.args.note.from) (who c.args.note.to) c.args.note.place
    (sym (ap (option_map (packet_of (who c.args.note.from) (who c.args.note.to))) c.in-None.is) ∙ c.in_ok-found.ensures.value v.sent done a b h.mail_is)
    (c.in_ok-found.ensures.ok v.sent done a b h.mail_is) h

pub returns-in-None-clause-there : goal.returns-in-None-clause-there
returns-in-None-clause-there g c = λ r v done ring h from to.
    let a = party_seat r (who c.args.note.from) h.small from in
    let b = party_seat r (who c.args.note.to) h.small to in
    ap is_some (sym (ap (option_map (packet_of (who c.args.note.from) (who c.args.note.to))) c.in-None.is) ∙ c.in_ok-found.ensures.value v.sent done a b h.mail_is)

pub returns-in-None-clause-names : goal.returns-in-None-clause-names
returns-in-None-clause-names g c = λ r v done ring h from to.
    let a = party_seat r (who c.args.note.from) h.small from in
    let b = party_seat r (who c.args.note.to) h.small to in
    let none = sym (ap (option_map (packet_of (who c.args.note.from) (who c.args.note.to))) c.in-None.is) ∙ c.in_ok-found.ensures.value v.sent done a b h.mail_is in
    subst (λ o. Names g.H.Hash160.naming (named_of r v o) c.args.book.now.held c.args.book.now.held (Ok false)) none (names_none g.H.Hash160.naming c.args.book.now.held false)
