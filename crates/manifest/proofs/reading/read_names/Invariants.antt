use Rattle.manifest.specs.Spelling.{name_string}
use Rattle.manifest.specs.Grammar.{is_name}
use Rattle.manifest.proofs.Rows.{IsReading}
use Rattle.manifest.proofs.reading.read_names.Given as goal

abbrev pub invariant-loop-index : goal.invariant-loop-index
invariant-loop-index l = IsReading name_string is_name l.count l._index l.fn.fields l.fields l.names
