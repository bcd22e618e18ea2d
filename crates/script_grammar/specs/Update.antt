-- The grammar of an update.
use Rattle.std.specs.Prelude.{ℕ, zero, suc, Bool, List, [], ◌∷◌, length, take, drop, nat_le, true, false, ◌++◌, ◌||◌, if◌then◌else◌, codes, Option, Some, None, Result, Ok}
use Rattle.std.specs.List.{slice_split}
use Rattle.std.specs.Str.{bytes_eq}
use Rattle.std.specs.Option.{option_map, option_and_then}
use Rattle.guarded_update.specs.declared.update.Action.{Action}
use Rattle.guarded_update.specs.declared.update.Action.TheVariants.{Replace, Append, Truncate, Splice}
use Rattle.script_terms.specs.declared.cause.Cause.{Cause}
use Rattle.script_terms.specs.declared.line.LineClause.{LineClause}
use Rattle.script_terms.specs.declared.line.LineGuard.{LineGuard}
use Rattle.script_terms.specs.declared.line.LineGuard.TheVariants.{VersionIs, SizeIs, BlockIs}
use Rattle.script_grammar.specs.Results.{◌>>=◌}
use Rattle.script_grammar.specs.Classes.{number_at, data_at}

-- where a keyword of an update stands
pub data Place : Type 0 where
  AtClause : Place
  AtGuard : Place
  AfterGuard : Place
  AtAction : Place
  AfterAction : Place

-- an update ends behind an action
abbrev pub is_end : Place → Bool
is_end AfterAction = true
is_end place = false

-- how many words an action takes, if the word is one, and where the keyword behind them stands
abbrev pub action_role : List ℕ → Option (ℕ × Place)
action_role word =
    if bytes_eq word (codes "append") || bytes_eq word (codes "truncate") then Some (1, AfterAction)
    else (if bytes_eq word (codes "replace") || bytes_eq word (codes "delete") then Some (2, AfterAction)
    else (if bytes_eq word (codes "splice") then Some (3, AfterAction) else None))

-- how many words a guard takes, if the word is one, and where the keyword behind them stands
abbrev pub guard_role : List ℕ → Option (ℕ × Place)
guard_role word =
    if bytes_eq word (codes "version") || bytes_eq word (codes "size") then Some (1, AfterGuard)
    else (if bytes_eq word (codes "block") then Some (2, AfterGuard) else None)

-- how many words a keyword takes, if it fits at its place, and where the keyword behind them stands
abbrev pub role : Place → List ℕ → Option (ℕ × Place)
role AtClause word = if bytes_eq word (codes "if") then Some (0, AtGuard) else action_role word
role AtGuard word = guard_role word
role AfterGuard word = if bytes_eq word (codes "and") then Some (0, AtGuard) else (if bytes_eq word (codes "then") then Some (0, AtAction) else None)
role AtAction word = action_role word
role AfterAction word = if bytes_eq word (codes "+") then Some (0, AtAction) else (if bytes_eq word (codes "or") then Some (0, AtClause) else None)

-- words in groups, each a keyword with the words that it takes, whatever these are; at most so many groups
abbrev pub groups : ℕ → Place → List (List ℕ) → Option (List (List (List ℕ)))
groups most place [] = if is_end place then Some [] else None
groups zero place (word ∷ words) = None
groups (suc most) place (word ∷ words) =
    option_and_then (λ (r : ℕ × Place). if nat_le r.0 (length words) then option_map (λ rest. (word ∷ take r.0 words) ∷ rest) (groups most r.1 (drop r.0 words)) else None) (role place word)

-- the words of an update in groups
abbrev pub groups_of : List (List ℕ) → Option (List (List (List ℕ)))
groups_of words = groups (length words) AtClause words

-- the guard that a group is, if it is one
abbrev pub guard_of : List (List ℕ) → Result (List LineGuard) Cause
guard_of (keyword ∷ number ∷ []) =
    if bytes_eq keyword (codes "version") then (number_at number >>= λ n. Ok (VersionIs (record { 0 = n }) ∷ []))
    else (if bytes_eq keyword (codes "size") then (number_at number >>= λ n. Ok (SizeIs n ∷ [])) else Ok [])
guard_of (keyword ∷ place ∷ content ∷ []) =
    if bytes_eq keyword (codes "block") then (number_at place >>= λ p. data_at content >>= λ d. Ok (BlockIs p d ∷ [])) else Ok []
guard_of group = Ok []

-- the action that a group is, if it is one; a delete is a splice without content
abbrev pub action_of : List (List ℕ) → Result (List Action) Cause
action_of (keyword ∷ word ∷ []) =
    if bytes_eq keyword (codes "append") then (data_at word >>= λ d. Ok (Append d ∷ []))
    else (if bytes_eq keyword (codes "truncate") then (number_at word >>= λ n. Ok (Truncate n ∷ [])) else Ok [])
action_of (keyword ∷ offset ∷ word ∷ []) =
    if bytes_eq keyword (codes "replace") then (number_at offset >>= λ o. data_at word >>= λ d. Ok (Replace o d ∷ []))
    else (if bytes_eq keyword (codes "delete") then (number_at offset >>= λ o. number_at word >>= λ n. Ok (Splice o n [] ∷ [])) else Ok [])
action_of (keyword ∷ offset ∷ remove ∷ content ∷ []) =
    if bytes_eq keyword (codes "splice") then (number_at offset >>= λ o. number_at remove >>= λ n. data_at content >>= λ d. Ok (Splice o n d ∷ [])) else Ok []
action_of group = Ok []

-- what all of some parts give, one after another, or the first cause
abbrev pub gathered : {X Y : Type 0} → (X → Result (List Y) Cause) → List X → Result (List Y) Cause
gathered f [] = Ok []
gathered f (x ∷ xs) = f x >>= λ y. gathered f xs >>= λ ys. Ok (y ++ ys)

-- the clause of the groups between two words `or`
abbrev pub clause_of : List (List (List ℕ)) → Result (List LineClause) Cause
clause_of group = gathered guard_of group >>= λ guards. gathered action_of group >>= λ actions. Ok (record { guards = guards; actions = actions } ∷ [])

-- the word `or` alone
abbrev pub is_or : List (List ℕ) → Bool
is_or (word ∷ []) = bytes_eq word (codes "or")
is_or group = false

-- the clauses of an update in groups
abbrev pub clauses_of : List (List (List ℕ)) → Result (List LineClause) Cause
clauses_of groups = gathered clause_of (slice_split is_or groups)
