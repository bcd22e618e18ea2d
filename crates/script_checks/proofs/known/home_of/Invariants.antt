use Rattle.std.proofs.Common.{◌≡◌, drop}
use Rattle.script_grammar.specs.Script.{home_of}
use Rattle.script_checks.proofs.known.home_of.Given as goal

abbrev pub invariant-loop-home : goal.invariant-loop-home
invariant-loop-home l = home_of (drop l.home-index l.homes) l.client ≡ home_of l.homes l.client
