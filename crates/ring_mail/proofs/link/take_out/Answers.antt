use Rattle.std.proofs.Common.{sym, ap, subst, ◌∙◌, Some, length, ◌<◌, ◌++◌, arith}
use Rattle.ring_mail.specs.declared.kept.Kept.{Kept}
use Rattle.ring_mail.specs.Mails.{IsLink}
use Rattle.ring_mail.specs.Places.{packet_of}
use Rattle.ring_mail.proofs.Keeping.{link_left, link_value, delivery_there}
use Rattle.ring_mail.proofs.link.take_out.Goals as goal

pub returns-then-at-len-clause-ok : goal.returns-then-at-len-clause-ok
returns-then-at-len-clause-ok c = λ p q sent done h. link_left c.args.kept.now.items c.args.at p q sent done (omega (arith, c.args.kept.now.ok.0, c.len.ensures, c.if-at-len.true)) h

pub returns-clause-value : goal.returns-clause-value
returns-clause-value c = λ p q sent done h.
    let low : c.args.at < length c.args.kept.now.items = omega (arith, c.args.kept.now.ok.0, c.len.ensures, c.if-at-len.false) in
    ap (λ bytes. Some (packet_of p q bytes)) (c.in_ok-bytes.ensures ∙ ap (λ (e : Kept). e.bytes) c.index.ensures)
    ∙ sym (link_value c.args.kept.now.items c.args.at c.index.result.now p q sent done low h)

pub returns-clause-ok : goal.returns-clause-ok
returns-clause-ok c = λ p q sent done h.
    let low : c.args.at < length c.args.kept.now.items = omega (arith, c.args.kept.now.ok.0, c.len.ensures, c.if-at-len.false) in
    subst (λ ds. IsLink c.mark.new.kept.items p q sent (done ++ ds)) (sym (delivery_there sent _ _ (link_value c.args.kept.now.items c.args.at c.index.result.now p q sent done low h)))
    (c.mark.ensures p q sent done h)
