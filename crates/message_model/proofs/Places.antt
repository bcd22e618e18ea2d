-- The tests of what is in the grammar hold exactly where it is.
use Rattle.std.proofs.Common.{◌≡◌, ℕ, ◌<◌, ◌^◌, Bool, true, ◌==◌, ◌&&◌, nat_lt, List, [], ◌∷◌, length, refl, arith}
use Rattle.std.specs.List.{list_all, AllByRecursion}
use Rattle.std.proofs.lemmas.Bool.Decides.{nat_tests, Decides-eqb}
use Rattle.pond_base.specs.Label.{is_label}
use Rattle.guarded_update.specs.declared.update.Action.{Action}
use Rattle.guarded_update.specs.declared.update.Action.TheVariants.{Replace, Append, Truncate, Splice}
use Rattle.guarded_update.specs.declared.update.Guard.{Guard}
use Rattle.guarded_update.specs.declared.update.Guard.TheVariants.{VersionIs, SizeIs, BlockIs}
use Rattle.guarded_update.specs.declared.update.Clause.{Clause}
use Rattle.guarded_update.specs.declared.request.Request.{Request}
use Rattle.guarded_update.specs.Fitting.{IsGuard, IsAction, IsClause, HasPlaces}
use Rattle.guarded_update.proofs.Sizes.{and_parts, both}
use Rattle.message_model.specs.Requests.{guard_has_places, action_has_places, clause_has_places, has_places}

pub lt_of : (n k : ℕ) → nat_lt n k ≡ true → n < k
lt_of n k p = grind (arith, nat_tests)

pub is_lt : (n k : ℕ) → n < k → nat_lt n k ≡ true
is_lt n k p = grind (arith, nat_tests)

pub is_eq : (n k : ℕ) → n ≡ k → (n == k) ≡ true
is_eq n k e = (Decides-eqb n k).1 e

pub eq_of : (n k : ℕ) → (n == k) ≡ true → n ≡ k
eq_of n k e = (Decides-eqb n k).0 e

all_of : {X : Type 0} (p : X → Bool) (P : X → Type 0) → ((x : X) → p x ≡ true → P x) → (xs : List X) → list_all p xs ≡ true → AllByRecursion P xs
all_of p P each [] h = tt
all_of p P each (x ∷ xs) h = let parts = and_parts (p x) (list_all p xs) h in (each x parts.0, all_of p P each xs parts.1)

all_are : {X : Type 0} (p : X → Bool) (P : X → Type 0) → ((x : X) → P x → p x ≡ true) → (xs : List X) → AllByRecursion P xs → list_all p xs ≡ true
all_are p P each [] h = refl
all_are p P each (x ∷ xs) h = both (p x) (list_all p xs) (each x h.0) (all_are p P each xs h.1)

guard_of : (g : Guard) → guard_has_places g ≡ true → IsGuard g
guard_of (VersionIs version) h = lt_of version.0 (2 ^ 32) h
guard_of (SizeIs size) h = lt_of size (2 ^ 32) h
guard_of (BlockIs place name) h = let parts = and_parts (nat_lt place (2 ^ 32)) (length name == 20) h in (lt_of place (2 ^ 32) parts.0, eq_of (length name) 20 parts.1)

is_guard : (g : Guard) → IsGuard g → guard_has_places g ≡ true
is_guard (VersionIs version) h = is_lt version.0 (2 ^ 32) h
is_guard (SizeIs size) h = is_lt size (2 ^ 32) h
is_guard (BlockIs place name) h = both (nat_lt place (2 ^ 32)) (length name == 20) (is_lt place (2 ^ 32) h.0) (is_eq (length name) 20 h.1)

action_of : (a : Action) → action_has_places a ≡ true → IsAction a
action_of (Replace offset content) h = let parts = and_parts (nat_lt offset (2 ^ 32)) (nat_lt (length content) (2 ^ 32)) h in (lt_of offset (2 ^ 32) parts.0, lt_of (length content) (2 ^ 32) parts.1)
action_of (Append content) h = lt_of (length content) (2 ^ 32) h
action_of (Truncate kept) h = lt_of kept (2 ^ 32) h
action_of (Splice offset remove content) h =
    let front = and_parts (nat_lt offset (2 ^ 32) && nat_lt remove (2 ^ 32)) (nat_lt (length content) (2 ^ 32)) h in
    let parts = and_parts (nat_lt offset (2 ^ 32)) (nat_lt remove (2 ^ 32)) front.0 in
    (lt_of offset (2 ^ 32) parts.0, lt_of remove (2 ^ 32) parts.1, lt_of (length content) (2 ^ 32) front.1)

is_action : (a : Action) → IsAction a → action_has_places a ≡ true
is_action (Replace offset content) h = both (nat_lt offset (2 ^ 32)) (nat_lt (length content) (2 ^ 32)) (is_lt offset (2 ^ 32) h.0) (is_lt (length content) (2 ^ 32) h.1)
is_action (Append content) h = is_lt (length content) (2 ^ 32) h
is_action (Truncate kept) h = is_lt kept (2 ^ 32) h
is_action (Splice offset remove content) h =
    both (nat_lt offset (2 ^ 32) && nat_lt remove (2 ^ 32)) (nat_lt (length content) (2 ^ 32)) (both (nat_lt offset (2 ^ 32)) (nat_lt remove (2 ^ 32)) (is_lt offset (2 ^ 32) h.0) (is_lt remove (2 ^ 32) h.1)) (is_lt (length content) (2 ^ 32) h.2)

clause_of : (c : Clause) → clause_has_places c ≡ true → IsClause c
clause_of c h =
    let a = nat_lt (length c.guards) 256 in let b = nat_lt (length c.actions) 256 in let p = list_all guard_has_places c.guards in let q = list_all action_has_places c.actions in
    let x = and_parts (a && b && p) q h in let y = and_parts (a && b) p x.0 in let z = and_parts a b y.0 in
    record { few_guards = lt_of (length c.guards) 256 z.0; few_actions = lt_of (length c.actions) 256 z.1; guards = all_of guard_has_places IsGuard guard_of c.guards y.1; actions = all_of action_has_places IsAction action_of c.actions x.1 }

is_clause : (c : Clause) → IsClause c → clause_has_places c ≡ true
is_clause c is =
    let a = nat_lt (length c.guards) 256 in let b = nat_lt (length c.actions) 256 in let p = list_all guard_has_places c.guards in let q = list_all action_has_places c.actions in
    both (a && b && p) q (both (a && b) p (both a b (is_lt (length c.guards) 256 is.few_guards) (is_lt (length c.actions) 256 is.few_actions)) (all_are guard_has_places IsGuard is_guard c.guards is.guards)) (all_are action_has_places IsAction is_action c.actions is.actions)

pub places_of : (r : Request) → has_places r ≡ true → HasPlaces r
places_of r h =
    let cs = r.update.clauses in
    let a = nat_lt r.number (2 ^ 32) in let b = is_label r.label in let p = nat_lt (length cs) 256 in let q = list_all clause_has_places cs in
    let x = and_parts (a && b && p) q h in let y = and_parts (a && b) p x.0 in let z = and_parts a b y.0 in
    record { number = lt_of r.number (2 ^ 32) z.0; label = z.1; few = lt_of (length cs) 256 y.1; clauses = all_of clause_has_places IsClause clause_of cs x.1 }

pub are_places : (r : Request) → HasPlaces r → has_places r ≡ true
are_places r is =
    let cs = r.update.clauses in
    let a = nat_lt r.number (2 ^ 32) in let b = is_label r.label in let p = nat_lt (length cs) 256 in let q = list_all clause_has_places cs in
    both (a && b && p) q (both (a && b) p (both a b (is_lt r.number (2 ^ 32) is.number) is.label) (is_lt (length cs) 256 is.few)) (all_are clause_has_places IsClause is_clause cs is.clauses)
