-- What is known behind one more line.
use Rattle.std.specs.Prelude.{ℕ, ◌+◌, ◌++◌, List, Result, slice_index, slice_set, if◌then◌else◌}
use Rattle.std.specs.Option.{unwrap_or}
use Rattle.script_terms.specs.declared.cause.Cause.{Cause}
use Rattle.script_terms.specs.declared.cause.Cause.TheVariants as causes
use Rattle.script_terms.specs.declared.item.Item.{Item}
use Rattle.script_terms.specs.declared.item.Item.TheVariants.{Event}
use Rattle.script_terms.specs.declared.line.Line.TheVariants.{Submit}
use Rattle.script_grammar.specs.Results.{◌>>=◌, where_holds}
use Rattle.script_grammar.specs.Known.{Known, rank, ring_in, faulty_in, block_in, clients_in, home_in, is_request, is_event}
use Rattle.script_grammar.specs.Steps.{in_range, in_size}

-- the submits of each client behind a line that says an item
abbrev pub submits_after : Item → List ℕ → List ℕ
submits_after (Event (Submit client label clauses)) submits = slice_set submits client.0 (slice_index submits client.0 + 1)
submits_after item submits = submits

-- what is known with the faulty member, the home or the submit of a line
abbrev pub named_after : Item → Known → Known
named_after item k = record k { faulty = k.faulty ++ faulty_in item; homes = k.homes ++ home_in item; submits = submits_after item k.submits }

-- what is known behind a line that says an item
abbrev pub next : Item → Known → Known
next item k = record {
  last = rank item;
  ring = unwrap_or (ring_in item) k.ring;
  faulty = k.faulty ++ faulty_in item;
  block = unwrap_or (block_in item) k.block;
  clients = unwrap_or (clients_in item) k.clients;
  homes = k.homes ++ home_in item;
  submits = submits_after item k.submits;
  requests = (if is_request item then k.requests + 1 else k.requests);
  events = (if is_event item then k.events + 1 else k.events);
}

-- what a line says, where it is in range and size
abbrev pub checked : Known → Result Item Cause → Result Item Cause
checked k given = given >>= λ item. where_holds (in_range k item) causes.Range item >>= λ same. where_holds (in_size same) causes.Size same
