use Rattle.manifest.specs.Spelling.{entry_string}
use Rattle.manifest.specs.Grammar.{is_entry}
use Rattle.manifest.proofs.Rows.{IsReading}
use Rattle.manifest.proofs.reading.read_entries.Given as goal

abbrev pub invariant-loop-index : goal.invariant-loop-index
invariant-loop-index l = IsReading entry_string (is_entry l.n) l.count l._index l.fn.fields l.fields l.entries
