-- Sizes of updates that are within the limits.
use Rattle.std.proofs.Common.{◌≡◌, ℕ, ◌+◌, ◌<◌, ◌≤◌, ◌&&◌, Bool, true, false, List, [], ◌∷◌, length, map, nat_le, nat_lt, refl, ap, sym, ◌∙◌, arith}
use Rattle.std.specs.List.{list_all, sum}
use Rattle.std.proofs.lemmas.List.Sums.{sum-map, sum_by-cons}
use Rattle.guarded_update.specs.declared.update.Action.{Action}
use Rattle.guarded_update.specs.declared.update.Guard.{Guard}
use Rattle.guarded_update.specs.declared.update.Clause.{Clause}
use Rattle.guarded_update.specs.declared.request.Request.{Request}
use Rattle.guarded_update.specs.Fitting.{content_length, content_of, content_in, guards_in, actions_in, sizes_fit, clause_fits, update_fits, request_fits, guard_is_short, action_is_short, clause_is_short}

-- what has less than one item has none
pub nothing_left : {X : Type 0} (xs : List X) → length xs < 1 → xs ≡ []
nothing_left [] p = refl
nothing_left (x ∷ xs) p = absurd (omega arith)

pub and_parts : (a b : Bool) → (a && b) ≡ true → (a ≡ true) × (b ≡ true)
and_parts true b h = (refl, h)
and_parts false b h = absurd (cc)

pub both : (a b : Bool) → a ≡ true → b ≡ true → (a && b) ≡ true
both a b p q = rw p q

pub is_le : (n k : ℕ) → n ≤ k → nat_le n k ≡ true
is_le n k p = grind arith

pub le_of : (n k : ℕ) → nat_le n k ≡ true → n ≤ k
le_of n k p = grind arith

pub guards_are_short : (guards : List Guard) → list_all guard_is_short guards ≡ true
guards_are_short [] = refl
guards_are_short (guard ∷ guards) = guards_are_short guards

sum_more : {X : Type 0} (f : X → ℕ) (x : X) (xs : List X) → sum (map f (x ∷ xs)) ≡ f x + sum (map f xs)
sum_more f x xs = sum-map f (x ∷ xs) ∙ sum_by-cons f x xs ∙ ap (λ n. f x + n) (sym (sum-map f xs))

pub actions_are_short : (actions : List Action) → content_of actions ≤ 65536 → list_all action_is_short actions ≡ true
actions_are_short [] p = refl
actions_are_short (action ∷ actions) p =
    let more = sum_more content_length action actions in
    both (nat_le (content_length action) 65536) (list_all action_is_short actions) (is_le (content_length action) 65536 (omega (arith, more))) (actions_are_short actions (omega (arith, more)))

pub clauses_are_short : (clauses : List Clause) → guards_in clauses ≤ 16 → actions_in clauses ≤ 16 → content_in clauses ≤ 65536 → list_all clause_is_short clauses ≡ true
clauses_are_short [] p q r = refl
clauses_are_short (c ∷ clauses) p q r =
    let guards = sum_more (λ (d : Clause). length d.guards) c clauses in
    let actions = sum_more (λ (d : Clause). length d.actions) c clauses in
    let content = sum_more (λ (d : Clause). content_of d.actions) c clauses in
    let one = both (nat_le (length c.guards) 16) (nat_le (length c.actions) 16) (is_le (length c.guards) 16 (omega (arith, guards))) (is_le (length c.actions) 16 (omega (arith, actions))) in
    let two = both (nat_le (length c.guards) 16 && nat_le (length c.actions) 16) (nat_le (content_of c.actions) 65536) one (is_le (content_of c.actions) 65536 (omega (arith, content))) in
    both (clause_is_short c) (list_all clause_is_short clauses) two (clauses_are_short clauses (omega (arith, guards)) (omega (arith, actions)) (omega (arith, content)))

-- what a short clause says of its parts
pub short_parts : (c : Clause) → clause_is_short c ≡ true → (length c.guards ≤ 16) × (length c.actions ≤ 16) × (content_of c.actions ≤ 65536)
short_parts c h =
    let front = and_parts (nat_le (length c.guards) 16 && nat_le (length c.actions) 16) (nat_le (content_of c.actions) 65536) h in
    let parts = and_parts (nat_le (length c.guards) 16) (nat_le (length c.actions) 16) front.0 in
    (le_of (length c.guards) 16 parts.0, le_of (length c.actions) 16 parts.1, le_of (content_of c.actions) 65536 front.1)

-- the clauses of a request that fits are short
pub fitting_clauses : (r : Request) → request_fits r ≡ true → (length r.update.clauses ≤ 16) × (list_all clause_is_short r.update.clauses ≡ true)
fitting_clauses r h =
    let cs = r.update.clauses in
    let update = and_parts (nat_lt r.client.0 16 && nat_le 1 r.number) (update_fits r.update) h in
    let sizes = and_parts (nat_le 1 (length cs) && nat_le (length cs) 16 && list_all clause_fits cs) (sizes_fit cs) update.1 in
    let few = and_parts (nat_le 1 (length cs) && nat_le (length cs) 16) (list_all clause_fits cs) sizes.0 in
    let most = and_parts (nat_le 1 (length cs)) (nat_le (length cs) 16) few.0 in
    let content = and_parts (nat_le (guards_in cs) 16 && nat_le (actions_in cs) 16) (nat_le (content_in cs) 65536) sizes.1 in
    let counts = and_parts (nat_le (guards_in cs) 16) (nat_le (actions_in cs) 16) content.0 in
    (le_of (length cs) 16 most.1, clauses_are_short cs (le_of (guards_in cs) 16 counts.0) (le_of (actions_in cs) 16 counts.1) (le_of (content_in cs) 65536 content.1))
