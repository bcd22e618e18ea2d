use Rattle.std.proofs.Common.{◌≡◌, ◌++◌, drop}
use Rattle.std.specs.List.{flat_map}
use Rattle.manifest.specs.Spelling.{entry_string, manifest_string}
use Rattle.manifest.proofs.writing.write.Given as goal

abbrev pub invariant-loop-entry : goal.invariant-loop-entry
invariant-loop-entry l = l.out.items ++ flat_map entry_string (drop l.entry-index l.manifest.entries) ≡ manifest_string l.manifest
