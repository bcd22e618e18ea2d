use Rattle.std.proofs.Common.{◌++◌, ◌∷◌, [], map, ap, ◌∙◌}
use Rattle.std.proofs.lemmas.List.{map-append}
use Rattle.ring_model.specs.Messages.{Member, Client}
use Rattle.message_model.specs.Meaning.{packet, meaning}
use Rattle.message_model.proofs.Meant.{messages_are_meant}
use Rattle.pond_node.proofs.answering.reply.Goals as goal

pub returns-clause-sent : goal.returns-clause-sent
returns-clause-sent c = λ i.
    ap (map (packet i)) c.in_ok-push.ensures.items ∙ map-append (packet i) c.args.out.now.items _
    ∙ ap (λ m. map (packet i) c.args.out.now.items ++ record { from = Member i; to = Client c.args.request.now.client.0; message = m } ∷ []) (ap meaning c.in_ok-bytes.ensures.string ∙ messages_are_meant _ c.in_ok-bytes.ensures.allowed)
