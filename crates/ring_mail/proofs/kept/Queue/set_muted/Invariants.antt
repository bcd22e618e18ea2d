use Rattle.std.proofs.Common.{◌≡◌}
use Rattle.ring_mail.specs.Queues.{IsQueue}
use Rattle.ring_mail.proofs.Queueing.{Shown}
use Rattle.ring_mail.proofs.kept.Queue.set_muted.Given as goal

abbrev pub invariant-loop-link : goal.invariant-loop-link
invariant-loop-link l = record {
  waiting : l.self.waiting ≡ l.fn.self.waiting;
  muted : l.self.muted ≡ l.initial.self.muted;
  shown : IsQueue l.fn.self → Shown l.self.waiting.items l.self.heads l.fn.self.muted.items l.self.muted.items l.link;
}
