use Rattle.std.proofs.Common.{◌∷◌, [], ◌++◌, map, ap, sym, subst, ◌∙◌, append_assoc}
use Rattle.ring_message.specs.Spelling.{outcome_string}
use Rattle.object_model.specs.Trees.{object_name}
use Rattle.object_fold.proofs.Kept.{known_still}
use Rattle.ring_model.specs.Member.{hearts}
use Rattle.message_model.specs.Meaning.{packet}
use Rattle.fold_model.specs.Folds.{requests_of, mark_of}
use Rattle.pond_node.specs.Answers.{reply_from}
use Rattle.pond_node.specs.Standing.{AreOf, AddsOne}
use Rattle.pond_node.proofs.Steps.{one_done, answers_are, told_fits, adds_one}
use Rattle.pond_node.proofs.Named.{spelled_by, version_grew, version_clash, label_grew, label_clash, all_held, all_known}
use Rattle.pond_node.proofs.execution.execute.Goals as goal

pub returns-in-Err-clause-grew : goal.returns-in-Err-clause-grew
returns-in-Err-clause-grew g c = λ block before asked of.
    let read = spelled_by c.args.string.now c.in_ok-request.field-0 c.in-Some.request c.in-Some.is c.in_ok-request.ensures.read in
    version_grew g.H.Hash160.naming block before c.args.string.now c.in-Some.request read.0 read.1 c.args.book.now.held c.execute.new.book.held (c.execute.ensures.grew block (requests_of before) of.after)

pub returns-in-Err-clause-fault : goal.returns-in-Err-clause-fault
returns-in-Err-clause-fault g c = λ block before asked of.
    let read = spelled_by c.args.string.now c.in_ok-request.field-0 c.in-Some.request c.in-Some.is c.in_ok-request.ensures.read in
    version_clash g.H.Hash160.naming block before c.args.string.now c.in-Some.request read.0 read.1 c.execute.new.book.held c.in-Err.fault (c.in-Err.ensures.fault block (requests_of before) of.after)

pub reply-requires-clause-outcome : goal.reply-requires-clause-outcome
reply-requires-clause-outcome g c = told_fits g.H.Hash160.naming c.args.book.now.held c.args.objects.now c.in-Some.request c.in-Ok.outcome c.requires.known c.in-Ok.ensures.outcome

pub returns-in_err-reply-clause-grew : goal.returns-in_err-reply-clause-grew
returns-in_err-reply-clause-grew g c = λ block before asked of.
    let read = spelled_by c.args.string.now c.in_ok-request.field-0 c.in-Some.request c.in-Some.is c.in_ok-request.ensures.read in
    version_grew g.H.Hash160.naming block before c.args.string.now c.in-Some.request read.0 read.1 c.args.book.now.held c.execute.new.book.held (c.execute.ensures.grew block (requests_of before) of.after)

pub tell-requires-clause-outcome : goal.tell-requires-clause-outcome
tell-requires-clause-outcome g c = told_fits g.H.Hash160.naming c.args.book.now.held c.args.objects.now c.in-Some.request c.in-Ok.outcome c.requires.known c.in-Ok.ensures.outcome

pub returns-in-Err-tell-clause-grew : goal.returns-in-Err-tell-clause-grew
returns-in-Err-tell-clause-grew g c = λ block before asked of.
    let read = spelled_by c.args.string.now c.in_ok-request.field-0 c.in-Some.request c.in-Some.is c.in_ok-request.ensures.read in
    label_grew g.H.Hash160.naming block before c.args.string.now c.in-Some.request read.0 read.1 c.in-Ok.outcome (c.in-Ok.ensures.outcome block (requests_of before) of.after)
    c.args.book.now.held c.execute.new.book.held c.tell.new.book.held (c.execute.ensures.grew block (requests_of before) of.after) c.tell.ensures.grew

pub returns-in-Err-tell-clause-fault : goal.returns-in-Err-tell-clause-fault
returns-in-Err-tell-clause-fault g c = λ block before asked of.
    let read = spelled_by c.args.string.now c.in_ok-request.field-0 c.in-Some.request c.in-Some.is c.in_ok-request.ensures.read in
    label_clash g.H.Hash160.naming block before c.args.string.now c.in-Some.request read.0 read.1 c.in-Ok.outcome (c.in-Ok.ensures.outcome block (requests_of before) of.after)
    c.tell.new.book.held c.in-Err-tell.fault c.in-Err-tell.ensures.fault

pub returns-in_err-push-clause-grew : goal.returns-in_err-push-clause-grew
returns-in_err-push-clause-grew g c = λ block before asked of.
    let read = spelled_by c.args.string.now c.in_ok-request.field-0 c.in-Some.request c.in-Some.is c.in_ok-request.ensures.read in
    label_grew g.H.Hash160.naming block before c.args.string.now c.in-Some.request read.0 read.1 c.in-Ok.outcome (c.in-Ok.ensures.outcome block (requests_of before) of.after)
    c.args.book.now.held c.execute.new.book.held c.tell.new.book.held (c.execute.ensures.grew block (requests_of before) of.after) c.tell.ensures.grew

pub returns-clause-done : goal.returns-clause-done
returns-clause-done g c = λ block before asked of.
    let read = spelled_by c.args.string.now c.in_ok-request.field-0 c.in-Some.request c.in-Some.is c.in_ok-request.ensures.read in
    subst (AreOf g.H.Hash160.naming block (before ++ c.args.string.now ∷ []) c.execute.new.self) (sym c.in_ok-push.ensures.ok)
    (one_done g.H.Hash160.naming block before c.args.string.now c.in-Some.request read.0 read.1 c.args.objects.now c.execute.new.self c.args.outcomes.now c.in-Ok.outcome of c.in-Ok.ensures.outcome c.in-Ok.ensures.after)

pub returns-clause-sent : goal.returns-clause-sent
returns-clause-sent g c = λ block before asked of g' i ring folds clients.
    let h = g.H.Hash160.naming in
    let read = spelled_by c.args.string.now c.in_ok-request.field-0 c.in-Some.request c.in-Some.is c.in_ok-request.ensures.read in
    let r = c.in-Some.request in
    let sent = map (packet i) c.args.out.now.items in
    let replied = reply_from i r.client.0 r.number (outcome_string c.in-Ok.outcome) in
    let beats = hearts g' i (mark_of (object_name h r.label) c.in-Ok.outcome) in
    c.in-Ok-tell.ensures.sent g' i clients
    ∙ ap (λ xs. xs ++ beats) (c.in_ok-reply.ensures.sent i)
    ∙ append_assoc sent (replied ∷ []) beats
    ∙ ap (λ xs. sent ++ xs) (sym (answers_are h block before c.args.string.now r read.0 read.1 g' i c.in-Ok.outcome ring folds (c.in-Ok.ensures.outcome block (requests_of before) of.after)))

pub returns-clause-known : goal.returns-clause-known
returns-clause-known g c = known_still g.H.Hash160.naming c.execute.new.book.held c.tell.new.book.held c.execute.new.self c.tell.ensures.grew.kept c.in-Ok.ensures.known

pub returns-clause-one : goal.returns-clause-one
returns-clause-one g c =
    subst (AddsOne c.args.objects.now c.execute.new.self c.args.outcomes.now) (sym c.in_ok-push.ensures.ok)
    (adds_one g.H.Hash160.naming c.args.book.now.held c.args.objects.now c.execute.new.self c.in-Some.request c.args.outcomes.now c.in-Ok.outcome c.requires.known c.in-Ok.ensures.after)

pub returns-clause-held : goal.returns-clause-held
returns-clause-held g c = λ block before asked of.
    let read = spelled_by c.args.string.now c.in_ok-request.field-0 c.in-Some.request c.in-Some.is c.in_ok-request.ensures.read in
    all_held g.H.Hash160.naming block before c.args.string.now c.in-Some.request read.0 read.1 c.in-Ok.outcome (c.in-Ok.ensures.outcome block (requests_of before) of.after)
    c.args.book.now.held c.execute.new.book.held c.tell.new.book.held (c.in-Ok.ensures.held block (requests_of before) of.after) c.in-Ok-tell.ensures.held

pub returns-clause-all : goal.returns-clause-all
returns-clause-all g c = λ block before asked of.
    let read = spelled_by c.args.string.now c.in_ok-request.field-0 c.in-Some.request c.in-Some.is c.in_ok-request.ensures.read in
    all_known g.H.Hash160.naming block before c.args.string.now c.in-Some.request read.0 read.1 c.in-Ok.outcome (c.in-Ok.ensures.outcome block (requests_of before) of.after)
    c.execute.new.book.held c.tell.new.book.held c.tell.ensures.grew.kept (c.in-Ok.ensures.all block (requests_of before) of.after) c.in-Ok-tell.ensures.all

pub returns-clause-grew : goal.returns-clause-grew
returns-clause-grew g c = λ block before asked of.
    let read = spelled_by c.args.string.now c.in_ok-request.field-0 c.in-Some.request c.in-Some.is c.in_ok-request.ensures.read in
    label_grew g.H.Hash160.naming block before c.args.string.now c.in-Some.request read.0 read.1 c.in-Ok.outcome (c.in-Ok.ensures.outcome block (requests_of before) of.after)
    c.args.book.now.held c.execute.new.book.held c.tell.new.book.held (c.execute.ensures.grew block (requests_of before) of.after) c.tell.ensures.grew

pub returns-in-Err-clause-keeps : goal.returns-in-Err-clause-keeps
returns-in-Err-clause-keeps g c = (c.execute.ensures.grew c.requires.known.block c.requires.known.requests c.requires.known.after).kept

pub returns-in_err-reply-clause-keeps : goal.returns-in_err-reply-clause-keeps
returns-in_err-reply-clause-keeps g c = (c.execute.ensures.grew c.requires.known.block c.requires.known.requests c.requires.known.after).kept

pub returns-in-Err-tell-clause-keeps : goal.returns-in-Err-tell-clause-keeps
returns-in-Err-tell-clause-keeps g c = λ name string is. c.tell.ensures.grew.kept name string ((c.execute.ensures.grew c.requires.known.block c.requires.known.requests c.requires.known.after).kept name string is)

pub returns-in_err-push-clause-keeps : goal.returns-in_err-push-clause-keeps
returns-in_err-push-clause-keeps g c = λ name string is. c.tell.ensures.grew.kept name string ((c.execute.ensures.grew c.requires.known.block c.requires.known.requests c.requires.known.after).kept name string is)

pub returns-clause-keeps : goal.returns-clause-keeps
returns-clause-keeps g c = λ name string is. c.tell.ensures.grew.kept name string ((c.execute.ensures.grew c.requires.known.block c.requires.known.requests c.requires.known.after).kept name string is)
