use Rattle.std.proofs.Common.{◌≡◌, drop}
use Rattle.manifest.specs.Grammar.{entry_named}
use Rattle.manifest.proofs.finding.find.Given as goal

abbrev pub invariant-loop-entry : goal.invariant-loop-entry
invariant-loop-entry l = entry_named (drop l.entry-index l.manifest.entries) l.name ≡ entry_named l.manifest.entries l.name
