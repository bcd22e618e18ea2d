use Rattle.std.proofs.Common.{refl, ap, true}
use Rattle.ring_mail.specs.declared.kept.Kept.{Kept}
use Rattle.ring_mail.proofs.Keeping.{link_marked}
use Rattle.ring_mail.proofs.link.mark.Goals as goal

pub returns : goal.returns
returns c = λ p q sent done h. link_marked c.args.kept.now.items c.args.at (record { bytes = c.index_mut.result.now.bytes; number = c.index_mut.result.now.number; delivered = true }) c.index_mut.result.now p q sent done c.requires refl (ap (λ (e : Kept). e.bytes) c.index_mut.ensures.value) (ap (λ (e : Kept). e.number) c.index_mut.ensures.value) h
