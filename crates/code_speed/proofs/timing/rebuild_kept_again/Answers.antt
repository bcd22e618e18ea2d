use Rattle.std.proofs.Common.{subst, sym, refl, ◌∙◌}
use Rattle.code_speed.proofs.timing.rebuild_kept_again.Invariants.{Ready}
use Rattle.code_speed.proofs.timing.rebuild_kept_again.Goals as goal

pub loop-init : goal.loop-init
loop-init c = record { ready = record { there = c.requires.there; indexes = c.requires.indexes; long = c.requires.long }; same = refl }

pub rebuild_kept-requires : goal.rebuild_kept-requires
rebuild_kept-requires c = record { there = c.loop.invariant.ready.there; indexes = c.loop.invariant.ready.indexes; long = c.loop.invariant.ready.long }

pub loop-preserved : goal.loop-preserved
loop-preserved c = record {
  ready = subst (λ code. Ready code c.args.from c.args.size c.args.parts.now) (sym c.in_ok-rebuild_kept.ensures) c.loop.invariant.ready;
  same = c.in_ok-rebuild_kept.ensures ∙ c.loop.invariant.same;
}
