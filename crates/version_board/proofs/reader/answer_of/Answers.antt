use Rattle.std.proofs.Common.{◌∙◌}
use Rattle.version_board.proofs.Reading.{answers}
use Rattle.version_board.proofs.reader.answer_of.Goals as goal

pub returns-in_ok-read_entry-in-Some : goal.returns-in_ok-read_entry-in-Some
returns-in_ok-read_entry-in-Some c =
    let read = c.in_ok-read_entry-in-Some in
    answers c.args.label.now c.args.board.now.list c.in-Some.entry.now read.field-0 c.in-Some.ensures read.ensures.version read.ensures.bytes (read.ensures.seen ∙ c.count.ensures)
