use Rattle.std.proofs.Common.{sym}
use Rattle.pond_program.proofs.Said.{run_says, gave_all}
use Rattle.pond_program.proofs.top.run_source.Goals as goal

pub returns-in-Ok : goal.returns-in-Ok
returns-in-Ok g c =
    run_says c.run_text.result _ _ c.in-Ok.text.items
    record {
      ended = c.in-Ok.ensures.ended;
      sound = c.in-Ok.ensures.counted;
      all = gave_all _ _ _ c.in-Ok.ensures.whole c.in-Ok.ensures.ended;
      small = c.in-Ok.ensures.small;
    }
    (rw c.deref.ensures.value at c.run_text.ensures)
