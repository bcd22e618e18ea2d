use Rattle.std.proofs.Common.{◌++◌, map, ap, ◌∙◌}
use Rattle.ring_model.specs.Messages.{Member, to_clients}
use Rattle.message_model.specs.Meaning.{packet, meaning}
use Rattle.message_model.proofs.Meant.{messages_are_meant}
use Rattle.pond_node.proofs.answering.tell_made.Goals as goal

pub returns-clause-sent : goal.returns-clause-sent
returns-clause-sent c = λ g i clients.
    c.in_ok-send_to_clients.ensures.sent g i clients
    ∙ ap (λ m. map (packet i) c.args.out.now.items ++ to_clients g (Member i) m) (ap meaning c.in_ok-bytes.ensures.string ∙ messages_are_meant _ c.in_ok-bytes.ensures.allowed)
