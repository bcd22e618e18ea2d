-- Sites after their calls.
use Rattle.std.proofs.Common.{◌≡◌, ℕ, List, get_or, refl, subst, Bool, true, false, Result, Ok, Err, OnOk, OnErr, sym, ◌∙◌}
use Rattle.block_names.specs.Held.{Held}
use Rattle.block_names.specs.Faults.{step_fault}
use Rattle.block_names.specs.Growth.{IsClashIn, Keeps}
use Rattle.block_names.specs.Clashes.{IsClashAmong}
use Rattle.block_names.specs.declared.fault.NameFault.{NameFault}
use Rattle.block_names.specs.declared.fault.NameFault.TheVariants.{Clash, Memory}
use Rattle.block_names.specs.declared.fault.StepFault.{StepFault}
use Rattle.pond_node.specs.declared.node.Node.{Node}
use Rattle.pond_node.specs.Standing as node
use Rattle.ring_world.specs.declared.state.World.{World}
use Rattle.ring_world.specs.Steps.{IsStepClash, IsStepClashAmong}
use Rattle.ring_world.specs.Worlds.{IsKnown}
use Rattle.ring_world.proofs.Requests.{known_still}
use Rattle.pond_world.proofs.Made.{place_known}

-- what a world named stays known while the book grows
pub world_known : (h : List ℕ → List ℕ) (held now : Held) (w : World Node) → Keeps held now → IsKnown node.IsKnown h held w → IsKnown node.IsKnown h now w
world_known h held now w keeps k =
    known_still node.IsKnown h held now w w refl (λ i d low. place_known h held now (get_or w.members.nodes.items i d) keeps (k.nodes i d low)) keeps k

clash_back : (h : List ℕ → List ℕ) (now : Held) (Of : List ℕ → Type 0) (fault : NameFault) → IsStepClash h now Of (step_fault fault) → IsClashIn h now Of fault
clash_back h now Of (Clash old new) clash = clash
clash_back h now Of Memory clash = tt

-- the fault of a step is one of naming
pub named_clash : (h : List ℕ → List ℕ) (now : Held) (Of : List ℕ → Type 0) (fault : NameFault) (stepped : StepFault) → stepped ≡ step_fault fault → IsStepClash h now Of stepped → IsClashIn h now Of fault
named_clash h now Of fault stepped is clash = clash_back h now Of fault (subst (IsStepClash h now Of) is clash)

among_back : (h : List ℕ → List ℕ) (held : Held) (Of : List ℕ → Type 0) (fault : NameFault) → IsStepClashAmong h held Of (step_fault fault) → IsClashAmong h held Of fault
among_back h held Of (Clash old new) clash = clash
among_back h held Of Memory clash = tt

-- and is of the same strings
pub named_among : (h : List ℕ → List ℕ) (held : Held) (Of : List ℕ → Type 0) (fault : NameFault) (stepped : StepFault) → stepped ≡ step_fault fault → IsStepClashAmong h held Of stepped → IsClashAmong h held Of fault
named_among h held Of fault stepped is clash = among_back h held Of fault (subst (IsStepClashAmong h held Of) is clash)

-- a world that has not ended at the end had not ended before, where it ends at an error alone
pub still_going : {X E : Type 0} (result : Result X E) (new old : Bool) → OnOk result (new ≡ old) → OnErr result (new ≡ true) → new ≡ false → old ≡ false
still_going (Ok x) new old same ends e = sym same ∙ e
still_going (Err x) new old same ends e = absurd (cc (ends, e))
