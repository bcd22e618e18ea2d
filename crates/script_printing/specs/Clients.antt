-- What is printed of a client's request.
use Rattle.std.specs.Prelude.{ℕ, List, ◌++◌, codes, Option}
use Rattle.std.specs.Fmt.{decimal}
use Rattle.text_model.specs.Blocks.{belief_text, line_feed}

-- the line of a request: its number, and what is believed of it
abbrev pub request_line : ℕ → Option (List ℕ) → List ℕ
request_line number outcome = decimal number ++ codes " " ++ belief_text outcome ++ line_feed
