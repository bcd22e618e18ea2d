-- What calls name, one after another.
use Rattle.std.proofs.Common.{List, [], ℕ, Contains, Result, Ok, Err, refl}
use Rattle.block_names.specs.Held.{Held}
use Rattle.block_names.specs.Growth.{Grew, IsClashIn, Keeps}
use Rattle.block_names.proofs.Clashed.{held_none, clash_among}
use Rattle.block_names.specs.Faults.{step_fault}
use Rattle.block_names.specs.declared.fault.NameFault.{NameFault}
use Rattle.block_names.specs.declared.fault.NameFault.TheVariants.{Clash, Memory}
use Rattle.block_names.proofs.Grown.{grew_none}
use Rattle.client_core.specs.Naming.{Names}
use Rattle.ring_world.specs.Steps.{IsStepClash, IsStepClashAmong}

-- a call that names nothing
pub names_none : {X : Type 0} (h : List ℕ → List ℕ) (held : Held) (x : X) → Names h [] held held (Ok x)
names_none h held x = (refl, grew_none h held (Contains []), held_none h held)

-- what was held before a call stays held
pub names_keep : {X : Type 0} (h : List ℕ → List ℕ) (strings : List (List ℕ)) (old new : Held) (r : Result X NameFault) → Names h strings old new r → Keeps old new
names_keep h strings old new (Ok x) named = named.1.kept
names_keep h strings old new (Err fault) named = named.0.kept

pub keeps_then : (a b c : Held) → Keeps a b → Keeps b c → Keeps a c
keeps_then a b c one two name string e = two name string (one name string e)

-- a fault of a call, as the fault of a step
pub step_clash : (h : List ℕ → List ℕ) (held : Held) (Of : List ℕ → Type 0) (f : NameFault) → IsClashIn h held Of f → IsStepClash h held Of (step_fault f)
step_clash h held Of (Clash old new) clash = clash
step_clash h held Of Memory clash = tt

-- it is of strings that were held before or are of a kind
pub step_among : (h : List ℕ → List ℕ) (held now : Held) (Of : List ℕ → Type 0) (f : NameFault) → Grew h held Of now → IsClashIn h now Of f → IsStepClashAmong h held Of (step_fault f)
step_among h held now Of (Clash old new) grew clash = clash_among h held now Of (Clash old new) grew clash
step_among h held now Of Memory grew clash = tt
