use Rattle.std.proofs.Common.{ap, sym, ◌∙◌, refl}
use Rattle.std.proofs.lemmas.Bool.{ltb-true, eq-eqb}
use Rattle.std.proofs.lemmas.Option.{slice_get_read}
use Rattle.ring_mail.specs.Queues.{is_first, is_some_of}
use Rattle.ring_mail.proofs.kept.Queue.is_behind.Goals as goal

pub returns-in-Some : goal.returns-in-Some
returns-in-Some c = λ t. (
  c.in-Some.first.now,
  ltb-true c.in-Some.first.now c.args.number t,
  ap (λ o. is_first o c.in-Some.first.now) (slice_get_read c.args.self.now.waiting.items 676 c.args.link c.index.result.now (sym c.args.self.now.links) c.requires c.index.ensures)
      ∙ ap (λ o. is_some_of o c.in-Some.first.now) c.in-Some.ensures.first ∙ eq-eqb c.in-Some.first.now c.in-Some.first.now refl,
)
