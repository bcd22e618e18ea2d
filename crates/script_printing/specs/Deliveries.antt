-- What is printed of a delivery that a world tells of.
use Rattle.std.specs.Prelude.{ℕ, List, ◌++◌, codes}
use Rattle.std.specs.Fmt.{decimal}
use Rattle.message_model.specs.Meaning.{who}
use Rattle.message_model.specs.Told.{Told}
use Rattle.text_model.specs.Blocks.{party_text, line_feed}

-- the line of a delivery, whose place a world counts from 1
abbrev pub told_line : Told → List ℕ
told_line t = party_text (who t.0) ++ codes " " ++ party_text (who t.1) ++ codes " " ++ decimal t.2 ++ line_feed
