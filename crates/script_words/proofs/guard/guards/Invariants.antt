use Rattle.std.proofs.Common.{◌≡◌, drop}
use Rattle.script_grammar.specs.Update.{gathered, guard_of}
use Rattle.script_words.specs.Groups.{groups_in}
use Rattle.script_words.proofs.Gathering.{with_front}
use Rattle.script_words.proofs.guard.guards.Given as goal

abbrev pub invariant-loop-group : goal.invariant-loop-group
invariant-loop-group l = with_front l.guards (gathered guard_of (groups_in (drop l.group-index l.groups))) ≡ gathered guard_of (groups_in l.groups)
