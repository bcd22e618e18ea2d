-- An update that words spell is within its limits.
use Rattle.std.proofs.Common.{◌≡◌, ◌≤◌, ◌∷◌, [], ℕ, List, Bool, true, false, ◌&&◌, ◌||◌, nat_le, map, sum, sum_by, length, refl, ◌∙◌, ap, arith}
use Rattle.std.specs.List.{list_all, AllByRecursion}
use Rattle.std.proofs.lemmas.Bool.{leb-true, le-leb}
use Rattle.std.proofs.lemmas.List.{length-map}
use Rattle.std.proofs.lemmas.List.Sums.{sum-map, sum_by-cons}
use Rattle.guarded_update.specs.declared.update.Action.{Action}
use Rattle.guarded_update.specs.declared.update.Action.TheVariants.{Replace, Append, Truncate, Splice}
use Rattle.guarded_update.specs.declared.update.Clause.{Clause}
use Rattle.guarded_update.specs.Fitting.{update_fits, clause_fits, action_fits, sizes_fit, guards_in, actions_in, content_in, content_of, content_length}
use Rattle.script_terms.specs.declared.line.LineClause.{LineClause}
use Rattle.script_terms.specs.declared.line.LineGuard.{LineGuard}
use Rattle.script_terms.specs.declared.line.LineGuard.TheVariants.{VersionIs, SizeIs, BlockIs}
use Rattle.script_grammar.specs.Asks.{changes}
use Rattle.script_grammar.specs.Steps.{update_in_size, content_size, is_small_guard}
use Rattle.text_model.specs.Requests.{clause_of, guard_of}
use Rattle.script_laws.specs.Limits.{GuardFits, update_of}
use Rattle.script_laws.proofs.Gathered.{and_true, and_first, and_second}
use Rattle.script_laws.proofs.Groups.{has_content, has_byte, ClauseActs}

-- an action with content that changes something fits
action_ok : (action : Action) → has_content action ≡ true → changes action ≡ true → action_fits action ≡ true
action_ok (Replace offset content) h c = h
action_ok (Append content) h c = h
action_ok (Truncate kept) h c = refl
action_ok (Splice offset remove content) h c = swapped (nat_le 1 (length content)) (nat_le 1 remove) c
  where
    swapped : (a b : Bool) → (a || b) ≡ true → (b || a) ≡ true
    swapped true true e = refl
    swapped true false e = refl
    swapped false true e = refl
    swapped false false e = e

actions_ok : (actions : List Action) → list_all has_content actions ≡ true → list_all changes actions ≡ true → list_all action_fits actions ≡ true
actions_ok [] h c = refl
actions_ok (action ∷ actions) h c =
    and_true (action_fits action) (list_all action_fits actions)
    (action_ok action (and_first (has_content action) (list_all has_content actions) h) (and_first (changes action) (list_all changes actions) c))
    (actions_ok actions (and_second (has_content action) (list_all has_content actions) h) (and_second (changes action) (list_all changes actions) c))

clauses_ok : (h : List ℕ → List ℕ) (clauses : List LineClause) → AllByRecursion ClauseActs clauses → list_all (λ (c : LineClause). list_all changes c.actions) clauses ≡ true
    → list_all clause_fits (map (clause_of h) clauses) ≡ true
clauses_ok h [] a c = refl
clauses_ok h (clause ∷ clauses) a c =
    and_true (clause_fits (clause_of h clause)) (list_all clause_fits (map (clause_of h) clauses))
    (and_true (nat_le 1 (length clause.actions)) (list_all action_fits clause.actions) (le-leb 1 (length clause.actions) (a.0).0)
    (actions_ok clause.actions (a.0).1 (and_first (list_all changes clause.actions) (list_all (λ (c : LineClause). list_all changes c.actions) clauses) c)))
    (clauses_ok h clauses a.1 (and_second (list_all changes clause.actions) (list_all (λ (c : LineClause). list_all changes c.actions) clauses) c))

same_sum : {X Y : Type 0} (f : Y → ℕ) (v : X → Y) (g : X → ℕ) → ((x : X) → f (v x) ≡ g x) → (xs : List X) → sum_by f (map v xs) ≡ sum_by g xs
same_sum f v g same [] = refl
same_sum f v g same (x ∷ xs) = omega (arith, sum_by-cons f (v x) (map v xs), sum_by-cons g x xs, same x, same_sum f v g same xs)

summed : {X Y : Type 0} (f : Y → ℕ) (v : X → Y) (g : X → ℕ) → ((x : X) → f (v x) ≡ g x) → (xs : List X) → sum (map f (map v xs)) ≡ sum_by g xs
summed f v g same xs = sum-map f (map v xs) ∙ same_sum f v g same xs

length_same : (action : Action) → content_length action ≡ content_size action
length_same (Replace offset content) = refl
length_same (Append content) = refl
length_same (Truncate kept) = refl
length_same (Splice offset remove content) = refl

content_same : (actions : List Action) → content_of actions ≡ sum_by content_size actions
content_same [] = refl
content_same (action ∷ actions) =
    omega (arith, sum-map content_length (action ∷ actions), sum-map content_length actions, sum_by-cons content_length action actions, sum_by-cons content_size action actions, length_same action, content_same actions)

few_clauses : (clauses : List LineClause) → AllByRecursion ClauseActs clauses → length clauses ≤ sum_by (λ (c : LineClause). length c.actions) clauses
few_clauses [] a = omega arith
few_clauses (clause ∷ clauses) a = omega (arith, sum_by-cons (λ (c : LineClause). length c.actions) clause clauses, (a.0).0, few_clauses clauses a.1)

-- the parts of a size
pub record Sizes (clauses : List LineClause) : Type 0 where
  pub actions : nat_le (sum_by (λ (c : LineClause). length c.actions) clauses) 16 ≡ true
  pub guards : nat_le (sum_by (λ (c : LineClause). length c.guards) clauses) 16 ≡ true
  pub content : nat_le (sum_by (λ (c : LineClause). sum_by content_size c.actions) clauses) 65536 ≡ true
  pub small : list_all (λ (c : LineClause). list_all is_small_guard c.guards) clauses ≡ true

pub sizes_of : (clauses : List LineClause) → update_in_size clauses ≡ true → Sizes clauses
sizes_of clauses e =
    let p = four (nat_le (sum_by (λ (c : LineClause). length c.actions) clauses) 16) (nat_le (sum_by (λ (c : LineClause). length c.guards) clauses) 16)
    (nat_le (sum_by (λ (c : LineClause). sum_by content_size c.actions) clauses) 65536) (list_all (λ (c : LineClause). list_all is_small_guard c.guards) clauses) e in
    record { actions = p.0; guards = p.1; content = p.2; small = p.3 }
  where
    four : (a b c d : Bool) → (a && b && c && d) ≡ true → (a ≡ true) × (b ≡ true) × (c ≡ true) × (d ≡ true)
    four true true true true e = (refl, refl, refl, refl)
    four true true true false e = absurd (cc)
    four true true false d e = absurd (cc)
    four true false c d e = absurd (cc)
    four false b c d e = absurd (cc)

all_three : (a b c : Bool) → a ≡ true → b ≡ true → c ≡ true → (a && b && c) ≡ true
all_three a b c x y z = rw (x, y, z) refl

all_four : (a b c d : Bool) → a ≡ true → b ≡ true → c ≡ true → d ≡ true → (a && b && c && d) ≡ true
all_four a b c d x y z w = rw (x, y, z, w) refl

-- an update that words spell, and that is in range and size, fits
pub submit_fits : (h : List ℕ → List ℕ) (clauses : List LineClause) → AllByRecursion ClauseActs clauses → 1 ≤ length clauses → list_all (λ (c : LineClause). list_all changes c.actions) clauses ≡ true
    → update_in_size clauses ≡ true → update_fits (update_of h clauses) ≡ true
submit_fits h clauses a l c e =
    let s = sizes_of clauses e in
    let cs = map (clause_of h) clauses in
    let same : length cs ≡ length clauses = length-map clauses (clause_of h) in
    let guards : guards_in cs ≡ sum_by (λ (c : LineClause). length c.guards) clauses = summed (λ (c : Clause). length c.guards) (clause_of h) (λ (c : LineClause). length c.guards) (λ c. length-map c.guards (guard_of h)) clauses in
    let actions : actions_in cs ≡ sum_by (λ (c : LineClause). length c.actions) clauses = summed (λ (c : Clause). length c.actions) (clause_of h) (λ (c : LineClause). length c.actions) (λ c. refl) clauses in
    let content : content_in cs ≡ sum_by (λ (c : LineClause). sum_by content_size c.actions) clauses =
    summed (λ (c : Clause). content_of c.actions) (clause_of h) (λ (c : LineClause). sum_by content_size c.actions) (λ c. content_same c.actions) clauses in
    let most = leb-true (sum_by (λ (c : LineClause). length c.actions) clauses) 16 s.actions in
    all_four (nat_le 1 (length cs)) (nat_le (length cs) 16) (list_all clause_fits cs) (sizes_fit cs)
    (le-leb 1 (length cs) (omega (arith, same, l))) (le-leb (length cs) 16 (omega (arith, same, few_clauses clauses a, most))) (clauses_ok h clauses a c)
    (all_three (nat_le (guards_in cs) 16) (nat_le (actions_in cs) 16) (nat_le (content_in cs) 65536)
    (ap (λ n. nat_le n 16) guards ∙ s.guards) (ap (λ n. nat_le n 16) actions ∙ s.actions) (ap (λ n. nat_le n 65536) content ∙ s.content))

guard_fits : (guard : LineGuard) → has_byte guard ≡ true → is_small_guard guard ≡ true → GuardFits guard
guard_fits (VersionIs version) b s = tt
guard_fits (SizeIs size) b s = tt
guard_fits (BlockIs place content) b s = (leb-true 1 (length content) b, leb-true (length content) 8192 s)

guards_fit : (guards : List LineGuard) → list_all has_byte guards ≡ true → list_all is_small_guard guards ≡ true → AllByRecursion GuardFits guards
guards_fit [] b s = tt
guards_fit (guard ∷ guards) b s = (
  guard_fits guard (and_first (has_byte guard) (list_all has_byte guards) b) (and_first (is_small_guard guard) (list_all is_small_guard guards) s),
  guards_fit guards (and_second (has_byte guard) (list_all has_byte guards) b) (and_second (is_small_guard guard) (list_all is_small_guard guards) s),
)

pub clauses_fit : (clauses : List LineClause) → AllByRecursion ClauseActs clauses → list_all (λ (c : LineClause). list_all is_small_guard c.guards) clauses ≡ true
    → AllByRecursion (λ (c : LineClause). AllByRecursion GuardFits c.guards) clauses
clauses_fit [] a s = tt
clauses_fit (clause ∷ clauses) a s = (
  guards_fit clause.guards (a.0).2 (and_first (list_all is_small_guard clause.guards) (list_all (λ (c : LineClause). list_all is_small_guard c.guards) clauses) s),
  clauses_fit clauses a.1 (and_second (list_all is_small_guard clause.guards) (list_all (λ (c : LineClause). list_all is_small_guard c.guards) clauses) s),
)
