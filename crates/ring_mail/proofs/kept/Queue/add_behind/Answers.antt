use Rattle.std.proofs.Common.{sym, arith}
use Rattle.std.proofs.lemmas.Option.{slice_get_read}
use Rattle.ring_mail.proofs.Queueing.{behind}
use Rattle.ring_mail.proofs.kept.Queue.add_behind.Goals as goal

pub returns-clause-heads : goal.returns-clause-heads
returns-clause-heads c = λ h.
    behind c.args.self.now.waiting.items c.index_mut.result.now c.insert.new.self c.args.self.now.heads c.args.self.now.muted.items c.args.link c.args.number c.requires.behind.0 (omega (arith, c.args.self.now.links, c.requires.link))
    (slice_get_read c.args.self.now.waiting.items 676 c.args.link c.index_mut.result.now (sym c.args.self.now.links) c.requires.link c.index_mut.ensures.value) c.requires.behind.2 c.requires.behind.1 c.in_ok-insert.ensures.keys
    c.in_ok-insert.ensures.ordered h
