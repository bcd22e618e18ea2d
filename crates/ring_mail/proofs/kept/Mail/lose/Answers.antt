use Rattle.std.proofs.Common.{◌||◌, ◌∙◌, ap, slice_get, slice_set}
use Rattle.message_model.specs.Meaning.{who}
use Rattle.ring_model.specs.Places.{is_done, same_place}
use Rattle.ring_mail.specs.Skips.{has_lost}
use Rattle.ring_mail.specs.Mails.{number_of}
use Rattle.ring_mail.proofs.Mailing.{passed, or_last}
use Rattle.ring_mail.proofs.Passing.{lost_more}
use Rattle.ring_mail.proofs.kept.Mail.lose.Goals as goal

pub returns-clause-lost : goal.returns-clause-lost
returns-clause-lost c =
    lost_more c.args.self.now.lost.items c.index_mut.result.now c.insert.new.self c.link-link.result c.args.place (who c.args.from) (who c.args.to) c.requires.0 c.requires.1 c.link-link.ensures c.args.self.now.lose c.index_mut.ensures.value
    c.in_ok-insert.ensures.updates.0

pub returns-clause-mail : goal.returns-clause-mail
returns-clause-mail c = λ sent done h.
    record {
      kept = h.kept;
      waiting =
          passed c.args.self.now c.link-link.result c.args.place c.index.result.now c.index.result.now (who c.args.from) (who c.args.to) c.number_at-number.result c.pass.new.self.waiting.items
          (slice_set c.args.self.now.lost.items c.link-link.result c.insert.new.self) sent done done c.requires.0 c.requires.1 c.link-link.ensures c.index.ensures
          (c.number_at-number.ensures ∙ ap (λ xs. number_of (slice_get xs c.args.place)) c.deref.ensures.value) c.in_ok-pass.ensures.waits
          (λ i a e. ap (λ x. is_done done a || x) (returns-clause-lost c a) ∙ or_last (is_done done a) (has_lost c.args.self.now.lost.items a) (same_place (record { from = who c.args.from; to = who c.args.to; place = c.args.place }) a)) h;
      heads_are = c.in_ok-pass.ensures.heads h.heads_are;
    }
