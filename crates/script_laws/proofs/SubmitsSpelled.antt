-- What the first lines of a script submit has a spelling.
use Rattle.std.proofs.Common.{◌≡◌, ◌≤◌, ◌<◌, ◌+◌, ◌^◌, ◌==◌, ◌∷◌, [], ◌&&◌, ℕ, List, Bool, true, false, nat_le, nat_lt, map, sum, length, refl, arith}
use Rattle.std.specs.List.{list_all, AllByRecursion as Each}
use Rattle.std.proofs.lemmas.Bool.{leb-true, le-leb, lt-ltb}
use Rattle.std.proofs.lemmas.List.Sums.{sum-map, sum_by-cons, count_by-le-length}
use Rattle.guarded_update.specs.declared.request.Request.{Request}
use Rattle.guarded_update.specs.declared.setup.Setup.{Setup}
use Rattle.guarded_update.specs.declared.update.Action.{Action}
use Rattle.guarded_update.specs.declared.update.Action.TheVariants.{Replace, Append, Truncate, Splice}
use Rattle.guarded_update.specs.declared.update.Clause.{Clause}
use Rattle.guarded_update.specs.Fitting.{IsRequest, IsClause, IsGuard, IsAction, update_fits, clause_fits, sizes_fit, guards_in, actions_in, content_in, content_of, content_length}
use Rattle.script_terms.specs.declared.line.Line.{Line}
use Rattle.script_terms.specs.declared.line.Line.TheVariants.{Submit}
use Rattle.script_terms.specs.declared.line.LineClause.{LineClause}
use Rattle.script_terms.specs.declared.line.LineGuard.{LineGuard}
use Rattle.script_terms.specs.declared.line.LineGuard.TheVariants.{VersionIs, SizeIs, BlockIs}
use Rattle.script_laws.specs.Events.{SubmitsARequest}
use Rattle.script_laws.proofs.Submits.{one_request_a_line}
use Rattle.script_laws.specs.Limits.{LineFits, LinesFit, SetupFits, update_of}
use Rattle.script_laws.proofs.Gathered.{and_first, and_second}
use Rattle.script_laws.proofs.Turns.{few_are_submitted}
use Rattle.text_model.specs.Requests.{Numbered, guard_of, clause_of, count_of, submitted}
use Rattle.tree_format.specs.Strings.{leaf_string}
use Rattle.script_laws.specs.FirstLines.{NamesAreLong}
use Rattle.script_laws.proofs.Numbers.{is_short, action_short, guard_short, clause_short, LineSpelled}

short : (n : ℕ) → is_short n ≡ true → n < 2 ^ 32
short n e = omega (arith, leb-true n 4294967295 e)

-- ---- the parts of an update

guard_fits : (h : List ℕ → List ℕ) → NamesAreLong h → (guard : LineGuard) → guard_short guard ≡ true → IsGuard (guard_of h guard)
guard_fits h long (VersionIs version) e = short version.0 e
guard_fits h long (SizeIs size) e = short size e
guard_fits h long (BlockIs place content) e = (short place e, long (leaf_string content))

guards_fit : (h : List ℕ → List ℕ) → NamesAreLong h → (guards : List LineGuard) → list_all guard_short guards ≡ true → Each IsGuard (map (guard_of h) guards)
guards_fit h long [] e = tt
guards_fit h long (guard ∷ guards) e =
    (guard_fits h long guard (and_first (guard_short guard) (list_all guard_short guards) e), guards_fit h long guards (and_second (guard_short guard) (list_all guard_short guards) e))

action_fits : (action : Action) → content_length action ≤ 65536 → action_short action ≡ true → IsAction action
action_fits (Replace offset content) few e = (short offset e, omega (arith, few))
action_fits (Append content) few e = omega (arith, few)
action_fits (Truncate kept) few e = short kept e
action_fits (Splice offset remove content) few e = (short offset (and_first (is_short offset) (is_short remove) e), short remove (and_second (is_short offset) (is_short remove) e), omega (arith, few))

summed : {X : Type 0} (f : X → ℕ) (x : X) (xs : List X) → sum (map f (x ∷ xs)) ≡ f x + sum (map f xs)
summed f x xs = omega (arith, sum-map f (x ∷ xs), sum-map f xs, sum_by-cons f x xs)

actions_fit : (actions : List Action) → content_of actions ≤ 65536 → list_all action_short actions ≡ true → Each IsAction actions
actions_fit [] few e = tt
actions_fit (action ∷ actions) few e =
    let all = summed content_length action actions in (
      action_fits action (omega (arith, few, all)) (and_first (action_short action) (list_all action_short actions) e),
      actions_fit actions (omega (arith, few, all)) (and_second (action_short action) (list_all action_short actions) e),
    )

-- clauses of few guards and actions, and of little content
record AreFew (clauses : List Clause) : Type 0 where
  pub guards : guards_in clauses ≤ 16
  pub actions : actions_in clauses ≤ 16
  pub content : content_in clauses ≤ 65536

clauses_fit : (h : List ℕ → List ℕ) → NamesAreLong h → (clauses : List LineClause) → AreFew (map (clause_of h) clauses) → list_all clause_short clauses ≡ true → Each IsClause (map (clause_of h) clauses)
clauses_fit h long [] few e = tt
clauses_fit h long (clause ∷ clauses) few e =
    let made = clause_of h clause in
    let rest = map (clause_of h) clauses in
    let guards = summed (λ (c : Clause). length c.guards) made rest in
    let actions = summed (λ (c : Clause). length c.actions) made rest in
    let content = summed (λ (c : Clause). content_of c.actions) made rest in
    let own = and_first (clause_short clause) (list_all clause_short clauses) e in (
      record {
        few_guards = omega (arith, few.guards, guards);
        few_actions = omega (arith, few.actions, actions);
        guards = guards_fit h long clause.guards (and_first (list_all guard_short clause.guards) (list_all action_short clause.actions) own);
        actions = actions_fit clause.actions (omega (arith, few.content, content)) (and_second (list_all guard_short clause.guards) (list_all action_short clause.actions) own);
      },
      clauses_fit h long clauses (record { guards = omega (arith, few.guards, guards); actions = omega (arith, few.actions, actions); content = omega (arith, few.content, content) })
          (and_second (clause_short clause) (list_all clause_short clauses) e),
    )

-- ---- requests

all_three : (a b c : Bool) → a ≡ true → b ≡ true → c ≡ true → (a && b && c) ≡ true
all_three a b c x y z = rw (x, y, z) refl

second_and_fourth : (a b c d : Bool) → (a && b && c && d) ≡ true → (b ≡ true) × (d ≡ true)
second_and_fourth true true true true e = (refl, refl)
second_and_fourth true true true false e = absurd (cc)
second_and_fourth true true false d e = absurd (cc)
second_and_fourth true false c d e = absurd (cc)
second_and_fourth false b c d e = absurd (cc)

three : (a b c : Bool) → (a && b && c) ≡ true → (a ≡ true) × (b ≡ true) × (c ≡ true)
three true true true e = (refl, refl, refl)
three true true false e = absurd (cc)
three true false c e = absurd (cc)
three false b c e = absurd (cc)

-- an update that is within its limits has few clauses, guards and actions, and little content
few_of : (clauses : List Clause) → update_fits (record { clauses = clauses }) ≡ true → AreFew clauses × (length clauses ≤ 16)
few_of clauses e =
    let parts = second_and_fourth (nat_le 1 (length clauses)) (nat_le (length clauses) 16) (list_all clause_fits clauses) (sizes_fit clauses) e in
    let sizes = three (nat_le (guards_in clauses) 16) (nat_le (actions_in clauses) 16) (nat_le (content_in clauses) 65536) parts.1 in (
      record { guards = leb-true (guards_in clauses) 16 sizes.0; actions = leb-true (actions_in clauses) 16 sizes.1; content = leb-true (content_in clauses) 65536 sizes.2 },
      leb-true (length clauses) 16 parts.0,
    )

-- what a line submits after earlier ones
line_submits : (h : List ℕ → List ℕ) → NamesAreLong h → (setup : Setup) (earlier : List Numbered) (number : ℕ) (line : Line) → SetupFits setup → LineFits setup earlier line → LineSpelled (number, line) → SubmitsARequest h earlier line
line_submits h long setup earlier number (Submit client label clauses) declared fits spelled =
    let count = count_of client (submitted h earlier) in
    let made = map (clause_of h) clauses in
    let few = few_of made (fits.light.0.0 h) in
    let low : count < 1024 = omega (arith, count_by-le-length (λ (r : Request). r.client.0 == client.0) (submitted h earlier), few_are_submitted h earlier, fits.light.1) in
    record {
      fits = all_three (nat_lt client.0 16) (nat_le 1 (count + 1)) (update_fits (update_of h clauses)) (lt-ltb client.0 16 (omega (arith, fits.meets.0, declared.few_clients))) (le-leb 1 (count + 1) (omega arith)) (fits.light.0.0 h);
      places = record {
        number = omega (arith, low);
        label = spelled.0;
        few = omega (arith, few.1);
        clauses = clauses_fit h long clauses few.0 spelled.1;
      };
    }
line_submits h long setup earlier number line declared fits spelled = tt

pub lines_submit : (h : List ℕ → List ℕ) → NamesAreLong h → (setup : Setup) (lines : List Numbered) → SetupFits setup → LinesFit setup lines → Each LineSpelled lines → Each IsRequest (submitted h lines)
lines_submit h long setup [] declared fits spelled = tt
lines_submit h long setup (line ∷ earlier) declared fits spelled =
    one_request_a_line h earlier line (line_submits h long setup earlier line.0 line.1 declared fits.0 spelled.0) (lines_submit h long setup earlier declared fits.1 spelled.1)
