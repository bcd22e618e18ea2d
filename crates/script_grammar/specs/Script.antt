-- The script that a text is, or the first line with a fault, and its cause.
use Rattle.std.specs.Prelude.{ℕ, ◌+◌, List, [], ◌∷◌, ◌++◌, nat_le, ◌==◌, map, reverse, if◌then◌else◌, None, Result, Ok, Err}
use Rattle.std.specs.List.{flat_map, range_with_len}
use Rattle.guarded_update.specs.declared.setup.Place.{Place}
use Rattle.guarded_update.specs.declared.setup.Place.TheVariants.{Member}
use Rattle.guarded_update.specs.declared.setup.Setup.{Setup}
use Rattle.pond_base.specs.declared.numbers.ClientId.{ClientId}
use Rattle.pond_base.specs.declared.numbers.MemberId.{MemberId}
use Rattle.script_terms.specs.declared.cause.Cause.{Cause}
use Rattle.script_terms.specs.declared.cause.Cause.TheVariants as causes
use Rattle.script_terms.specs.declared.item.Item.{Item}
use Rattle.script_terms.specs.declared.item.Item.TheVariants.{Declared, Event}
use Rattle.script_terms.specs.declared.item.Placed.{Placed}
use Rattle.script_terms.specs.declared.line.Line.{Line}
use Rattle.script_terms.specs.declared.script.Script.{Script}
use Rattle.script_grammar.specs.Results.{◌>>=◌, where_holds}
use Rattle.script_grammar.specs.Words.{lines_of}
use Rattle.script_grammar.specs.Known.{Known, known}
use Rattle.script_grammar.specs.Steps.{line_of}

-- a refusal: a line, counted from 1, and its cause
pub record Refusal : Type 0 where
  pub line : ℕ
  pub cause : Cause

-- what lines say, without their numbers
abbrev pub items : List Placed → List Item
items placed = map (λ (p : Placed). p.item) placed

-- what earlier lines and the line of a number say, the newest first
abbrev pub line_after : ℕ → List Placed → List ℕ → Result (List Placed) Cause
line_after number earlier line = line_of (items earlier) line >>= λ found. Ok (map (λ item. record { line = number; item = item }) found ++ earlier)

-- what follows the line of a number, which is refused where it has a cause
abbrev pub at_line : {A B : Type 0} → ℕ → Result A Cause → (A → Result B Refusal) → Result B Refusal
at_line number (Ok x) f = f x
at_line number (Err cause) f = Err (record { line = number; cause = cause })

-- the event of a line with its number, if it is one
abbrev pub event_in : Placed → List (ℕ × Line)
event_in placed = elim placed.item [ Declared declaration ↦ [] | Event line ↦ (placed.line, line) ∷ [] ]

-- the setup that lines declare; the code is 16 of 32
abbrev pub setup_by : Known → Setup
setup_by k = record { f = k.ring; faulty = k.faulty; clients = k.clients; block = k.block; m = 16; n = 32; newer = None }

-- the member where a client reads: that of its home, and member 0 where it has none
abbrev pub home_of : List (ClientId × MemberId) → ℕ → MemberId
home_of [] number = record { 0 = 0 }
home_of (home ∷ homes) number = if home.0.0 == number then home.1 else home_of homes number

-- where each client reads, in the order of clients
abbrev pub homes_by : Known → List Place
homes_by k = map (λ client. Member (home_of k.homes client)) (range_with_len 0 k.clients)

-- the script of what lines say, the newest first
abbrev pub script_by : List Placed → Script
script_by placed = record {
  setup = setup_by (known (items placed));
  replicas = [];
  homes = homes_by (known (items placed));
  lines = flat_map event_in (reverse placed);
}

-- the script of earlier lines and the lines from a number on; the end is one line more, which wants the two first lines
abbrev pub script_from : ℕ → List Placed → List (List ℕ) → Result Script Refusal
script_from number earlier [] = at_line number (where_holds (nat_le 2 (known (items earlier)).last) causes.Order earlier) (λ all. Ok (script_by all))
script_from number earlier (line ∷ lines) = at_line number (line_after number earlier line) (λ all. script_from (number + 1) all lines)

-- the script that a text is
abbrev pub script_of : List ℕ → Result Script Refusal
script_of text = script_from 1 [] (lines_of text)
