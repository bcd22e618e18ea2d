use Rattle.std.proofs.Common.{ap, ◌∙◌, Vec, length, ◌∷◌, ◌++◌, [], false}
use Rattle.std.specs.declared.alloc.Global.{Global}
use Rattle.ring_mail.specs.declared.kept.Kept.{Kept}
use Rattle.message_model.specs.Meaning.{who}
use Rattle.ring_mail.proofs.Keeping.{mail_pushed, all_sent}
use Rattle.ring_mail.proofs.kept.Mail.keep.Goals as goal

pub returns-clause-kept : goal.returns-clause-kept
returns-clause-kept c =
    λ sent done h.
    mail_pushed c.args.self.now c.link-link.result c.push.new.self c.index_mut.result.now c.index.result.now c.push-2.new.self (who c.args.from) (who c.args.to) c.args.bytes c.len-number.result
    (record { from = c.args.from; to = c.args.to; place = c.in-Ok.place }) sent done c.requires.0 c.requires.1 c.link-link.ensures
    (c.in_ok-push.ensures.items ∙ ap (λ (v : Vec Kept Global). v.items ++ record { bytes = c.args.bytes; number = c.len-number.result; delivered = false } ∷ []) c.index_mut.ensures.value) (c.len-number.ensures ∙ c.args.self.now.order.ok.0) c.in_ok-push-2.ensures.items
    (ap (λ k. record { from = who c.args.from; to = who c.args.to; place = k }) (c.in-Ok.ensures.1 ∙ c.len.ensures ∙ c.index.result.now.ok.0 ∙ ap (λ (v : Vec Kept Global). length v.items) c.index.ensures)) h

pub returns-clause-number : goal.returns-clause-number
returns-clause-number c = λ sent done h. c.len-number.ensures ∙ c.args.self.now.order.ok.0 ∙ all_sent c.args.self.now sent done h
