use Rattle.ring_mail.proofs.Mailing.{none_lost}
use Rattle.ring_mail.proofs.kept.Mail.new.Goals as goal

pub returns-clause-none_lost : goal.returns-clause-none_lost
returns-clause-none_lost c = λ a. none_lost c.in_ok-empty_sets.field-0.items a c.in_ok-empty_sets.ensures.empty
