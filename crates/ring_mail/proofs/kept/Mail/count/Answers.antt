use Rattle.std.proofs.Common.{sym, ap, ◌∙◌, length, []}
use Rattle.std.proofs.lemmas.List.{length-map}
use Rattle.ring_mail.specs.Places.{place_of}
use Rattle.ring_mail.proofs.Keeping.{length-placed}
use Rattle.ring_mail.proofs.kept.Mail.count.Goals as goal

pub returns : goal.returns
returns c = λ sent done h. c.len.ensures ∙ c.args.self.now.order.ok.0 ∙ sym (length-map c.args.self.now.order.items place_of) ∙ ap length h.kept.order_is ∙ length-placed [] sent
