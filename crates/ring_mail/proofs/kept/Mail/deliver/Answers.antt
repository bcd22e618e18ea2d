use Rattle.std.proofs.Common.{◌++◌, ◌∙◌, sym, ap, subst, Vec, slice_get}
use Rattle.ring_model.specs.Places.{delivery}
use Rattle.std.specs.declared.alloc.Global.{Global}
use Rattle.ring_mail.specs.declared.kept.Kept.{Kept}
use Rattle.message_model.specs.Meaning.{who}
use Rattle.ring_mail.specs.Mails.{IsLink, number_of}
use Rattle.ring_mail.proofs.Keeping.{mail_delivered, link_found}
use Rattle.ring_mail.proofs.Mailing.{passed, delivered_more}
use Rattle.ring_mail.proofs.kept.Mail.deliver.Goals as goal

pub returns-clause-value : goal.returns-clause-value
returns-clause-value c = λ sent done a b h.
    c.in_ok-found.ensures.value (who c.args.from) (who c.args.to) sent done
    (link_found c.args.self.now c.link-link.result c.index_mut.result.now c.index_mut.result.now (who c.args.from) (who c.args.to) sent done a b c.link-link.ensures c.index_mut.ensures.value h)

pub returns-clause-ok : goal.returns-clause-ok
returns-clause-ok c = λ sent done a b h.
    c.advance.ensures.mail sent (done ++ delivery sent (record { from = who c.args.from; to = who c.args.to; place = c.args.place }))
    (record {
      kept =
          mail_delivered c.args.self.now c.link-link.result c.take_out.new.kept c.index_mut.result.now (who c.args.from) (who c.args.to) c.args.place sent done a b c.link-link.ensures
          (λ sent done k. c.in_ok-found.ensures.ok (who c.args.from) (who c.args.to) sent done
          (subst (λ xs. IsLink xs (who c.args.from) (who c.args.to) sent done) (sym (ap (λ (v : Vec Kept Global). v.items) c.index_mut.ensures.value)) k)) h;
      waiting =
          passed c.args.self.now c.link-link.result c.args.place c.index.result.now c.index.result.now (who c.args.from) (who c.args.to) c.number_at-number.result c.pass.new.self.waiting.items c.args.self.now.lost.items sent done
          (done ++ delivery sent (record { from = who c.args.from; to = who c.args.to; place = c.args.place })) a b c.link-link.ensures c.index.ensures
          (c.number_at-number.ensures ∙ ap (λ xs. number_of (slice_get xs c.args.place)) c.deref.ensures.value) c.in_ok-pass.ensures.waits
          (delivered_more c.args.self.now.lost.items sent done (record { from = who c.args.from; to = who c.args.to; place = c.args.place })) h;
      heads_are = c.in_ok-pass.ensures.heads h.heads_are;
    })
