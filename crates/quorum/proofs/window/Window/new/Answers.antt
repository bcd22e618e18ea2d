use Rattle.std.proofs.Common.{ap, ◌∙◌}
use Rattle.quorum.specs.Slots.{first_in, kept_at}
use Rattle.quorum.proofs.Keeping.{first_of, kept_nothing}
use Rattle.quorum.proofs.window.Window.new.Goals as goal

pub invariant_of-result : goal.invariant_of-result
invariant_of-result c = kept_nothing _ _ c.new.ensures.empty

pub returns-clause-votes : goal.returns-clause-votes
returns-clause-votes c = λ p s j. first_of 0 c.new.result.entries p s j ∙ ap (λ es. first_in (kept_at es s) p j) c.new.ensures.empty
