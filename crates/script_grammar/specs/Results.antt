-- Answers that may be a cause.
use Rattle.std.specs.Prelude.{◌≡◌, Bool, true, false, Option, Some, None, Result, Ok, Err}
use Rattle.script_terms.specs.declared.cause.Cause.{Cause}
use Rattle.script_terms.specs.declared.fault.LineFault.{LineFault}
use Rattle.script_terms.specs.declared.fault.LineFault.TheVariants as faults

-- what follows an answer; a cause stays
infixl 10 ◌>>=◌
abbrev pub ◌>>=◌ : {A B : Type 0} → Result A Cause → (A → Result B Cause) → Result B Cause
(Ok x) >>= f = f x
(Err cause) >>= f = Err cause

-- a value, or the cause where there is none
abbrev pub or_cause : {A : Type 0} → Cause → Option A → Result A Cause
or_cause cause (Some x) = Ok x
or_cause cause None = Err cause

-- a value where a test holds, or the cause
abbrev pub where_holds : {A : Type 0} → Bool → Cause → A → Result A Cause
where_holds true cause x = Ok x
where_holds false cause x = Err cause

-- a fault is the cause that is given, or want of memory
abbrev pub Fails : {Y : Type 0} → LineFault → Result Y Cause → Type 0
Fails faults.Memory given = Unit {0}
Fails (faults.Refused cause) given = given ≡ Err cause

-- what a function returns, seen by a view, is exactly the answer that is given, unless memory ran out
abbrev pub Gives : {X Y : Type 0} → (X → Y) → Result X LineFault → Result Y Cause → Type 0
Gives view (Ok x) given = given ≡ Ok (view x)
Gives view (Err fault) given = Fails fault given
