use Rattle.std.proofs.Common.{◌≡◌, drop, map}
use Rattle.script_grammar.specs.Update.{gathered, clause_of}
use Rattle.script_words.specs.Groups.{groups_in}
use Rattle.script_words.proofs.Gathering.{with_front}
use Rattle.script_words.proofs.clause.clauses_in.Given as goal

abbrev pub invariant-loop-part : goal.invariant-loop-part
invariant-loop-part l = with_front l.clauses (gathered clause_of (map (λ part. groups_in part.now) (drop l.part-index l.parts))) ≡ gathered clause_of (map (λ part. groups_in part.now) l.parts)
