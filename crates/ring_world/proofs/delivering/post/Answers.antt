use Rattle.std.proofs.Common.{map, take, ◌++◌, ◌∷◌, [], subst, ◌∙◌, arith}
use Rattle.std.proofs.lemmas.List.{take_all}
use Rattle.message_model.specs.Meaning.{who}
use Rattle.ring_mail.specs.Places.{packet_of}
use Rattle.ring_mail.specs.Mails.{IsMail}
use Rattle.ring_world.specs.Deliveries.{packet_from}
use Rattle.ring_world.proofs.Stepping.{posted_more}
use Rattle.ring_world.proofs.delivering.post.Goals as goal

pub loop-one-preserved : goal.loop-one-preserved
loop-one-preserved c = record {
  mail = λ sent done h.
      subst (λ xs. IsMail c.push.new.self xs done) (posted_more (packet_from (who c.args.from)) sent c.args.out.now c.loop-one.one-index c.one-item.result c.loop-one-test.true c.one-item.is)
      (subst (λ b. IsMail c.push.new.self ((sent ++ map (packet_from (who c.args.from)) (take c.loop-one.one-index c.args.out.now)) ++ packet_of (who c.args.from) (who c.one-item.result.to) b ∷ []) done)
      c.in_ok-clone.ensures.cases (c.in_ok-push.ensures.mail _ done (c.loop-one.invariant.mail sent done h)));
  skips = c.in_ok-push.ensures.skips ∙ c.loop-one.invariant.skips;
}

pub returns-clause-mail : goal.returns-clause-mail
returns-clause-mail c = λ sent done h.
    subst (λ xs. IsMail c.loop-one.mail (sent ++ map (packet_from (who c.args.from)) xs) done) (take_all c.loop-one.one-index c.args.out.now (omega (arith, c.loop-one-test.false))) (c.loop-one.invariant.mail sent done h)
