use Rattle.version_board.proofs.Noting.{longer}
use Rattle.version_board.proofs.writer.note_down.Goals as goal

pub returns-else-count-total-clause-begins : goal.returns-else-count-total-clause-begins
returns-else-count-total-clause-begins c = λ all is begins. longer c.args.history.now.list all c.args.noted.now.value begins
