-- Parts that give lists, gathered one after another as a loop does.
use Rattle.std.proofs.Common.{◌≡◌, ◌∷◌, [], ◌++◌, List, Result, Ok, Err, refl, sym, ◌∙◌, ap, append_assoc}
use Rattle.std.proofs.lemmas.List.{append-nil}
use Rattle.script_terms.specs.declared.cause.Cause.{Cause}
use Rattle.script_terms.specs.declared.fault.LineFault.{LineFault}
use Rattle.script_terms.specs.declared.fault.LineFault.TheVariants.{Refused, Memory}
use Rattle.script_grammar.specs.Results.{◌>>=◌, Fails}
use Rattle.script_grammar.specs.Update.{gathered}

-- what was gathered before, and what is still gathered
abbrev pub with_front : {Y : Type 0} → List Y → Result (List Y) Cause → Result (List Y) Cause
with_front done given = given >>= λ more. Ok (done ++ more)

joined : {Y : Type 0} (done y : List Y) (r : Result (List Y) Cause) → with_front (done ++ y) r ≡ with_front done (r >>= λ ys. Ok (y ++ ys))
joined done y (Ok ys) = ap Ok (append_assoc done y ys)
joined done y (Err e) = refl

-- one part more
pub gather_more : {X Y : Type 0} (f : X → Result (List Y) Cause) (done y : List Y) (x : X) (xs : List X) (all : Result (List Y) Cause)
    → f x ≡ Ok y → with_front done (gathered f (x ∷ xs)) ≡ all → with_front (done ++ y) (gathered f xs) ≡ all
gather_more f done y x xs all e h = joined done y (gathered f xs) ∙ ap (λ r. with_front done (r >>= λ ys. gathered f xs >>= λ more. Ok (ys ++ more))) (sym e) ∙ h

-- a part with a fault
pub gather_fails : {X Y : Type 0} (f : X → Result (List Y) Cause) (done : List Y) (x : X) (xs : List X) (all : Result (List Y) Cause) (e : LineFault)
    → Fails e (f x) → with_front done (gathered f (x ∷ xs)) ≡ all → Fails e all
gather_fails f done x xs all Memory h i = tt
gather_fails f done x xs all (Refused cause) h i = sym i ∙ ap (λ r. with_front done (r >>= λ ys. gathered f xs >>= λ more. Ok (ys ++ more))) h

-- no part is left
pub gather_ends : {Y : Type 0} (done : List Y) (all : Result (List Y) Cause) → with_front done (Ok []) ≡ all → all ≡ Ok done
gather_ends done all h = sym h ∙ ap Ok (append-nil done)
