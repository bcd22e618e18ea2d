use Rattle.std.proofs.Common.{◌≡◌, map}
use Rattle.std.specs.List.{range_with_len}
use Rattle.guarded_update.specs.declared.setup.Place.TheVariants.{Member}
use Rattle.script_grammar.specs.Script.{home_of}
use Rattle.script_checks.proofs.known.Known.homes.Given as goal

abbrev pub invariant-loop-client : goal.invariant-loop-client
invariant-loop-client l = l.homes ≡ map (λ n. Member (home_of l.self.homes n)) (range_with_len 0 l.client)
