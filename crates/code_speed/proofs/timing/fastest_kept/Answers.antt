use Rattle.std.proofs.Common.{subst, sym}
use Rattle.code_speed.proofs.timing.fastest_kept.Invariants.{Ready}
use Rattle.code_speed.proofs.timing.fastest_kept.Goals as goal

pub loop-init : goal.loop-init
loop-init g c = record { there = c.requires.there; indexes = c.requires.indexes; long = c.requires.long }

pub rebuild_kept_again-requires : goal.rebuild_kept_again-requires
rebuild_kept_again-requires g c = record { there = c.loop.invariant.there; indexes = c.loop.invariant.indexes; long = c.loop.invariant.long }

pub loop-preserved : goal.loop-preserved
loop-preserved g c = subst (λ code. Ready code c.args.from c.args.size c.args.parts.now) (sym c.rebuild_kept_again.ensures) c.loop.invariant
