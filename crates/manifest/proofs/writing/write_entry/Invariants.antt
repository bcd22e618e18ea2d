use Rattle.std.proofs.Common.{◌≡◌, ◌++◌, drop}
use Rattle.std.specs.List.{flat_map}
use Rattle.manifest.specs.Spelling.{name_string, entry_string}
use Rattle.manifest.proofs.writing.write_entry.Given as goal

abbrev pub invariant-loop-name : goal.invariant-loop-name
invariant-loop-name l = l.out.items ++ flat_map name_string (drop l.name-index l.entry.fragments) ≡ l.fn.out.items ++ entry_string l.entry
