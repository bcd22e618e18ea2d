-- Why a step of a world that has not ended fails.
use Rattle.std.proofs.Common.{◌≡◌, ◌≢◌, false, Result, Err, sym, ◌∙◌, subst}
use Rattle.block_names.specs.declared.fault.StepFault.{StepFault}
use Rattle.block_names.specs.declared.fault.StepFault.TheVariants.{Ended}
use Rattle.pond_node.specs.declared.node.Node.{Node}
use Rattle.ring_world.specs.declared.state.World.{World}
use Rattle.ring_world.specs.Steps.{Ends}

-- it is not for having ended
pub not_ended : {X : Type 0} (old new : World Node) (r : Result X StepFault) (fault : StepFault) → r ≡ Err fault → Ends old new r → old.ended ≡ false → fault ≢ Ended
not_ended {X} old new r fault is ends going same =
    let spent : Ends {N = Node} {X = X} old new (Err Ended) = subst (λ f. Ends {N = Node} {X = X} old new (Err f)) same (subst (Ends {N = Node} {X = X} old new) is ends) in
    absurd (cc (sym going ∙ spent.0))
