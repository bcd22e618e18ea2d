use Rattle.std.proofs.Common.{◌<◌, ◌∙◌, arith}
use Rattle.std.proofs.KnownBytes.{Appends-trans}
use Rattle.std.proofs.lemmas.Grind.{common_steps}
use Rattle.pond_base.proofs.Pieces.{take-more}
use Rattle.pond_base.proofs.writing.write_whole.Goals as goal

pub loop-done-preserved : goal.loop-done-preserved
loop-done-preserved g c = record {
  within = grind (arith, common_steps, c.in-Ok.ensures.bound);
  written = rw (take-more c.args.piece.now c.loop-done.done c.in-Ok.count) (Appends-trans _ _ _ _ _ c.loop-done.invariant.written c.in-Ok.ensures.bytes);
  kept = let some : 0 < c.in-Ok.count = omega arith in c.in-Ok.ensures.counted.kept some ∙ c.loop-done.invariant.kept;
}
