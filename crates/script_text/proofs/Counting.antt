-- What is known behind one more line, by what was known before it.
use Rattle.std.proofs.Common.{◌≡◌, ◌≢◌, ◌<◌, ◌≤◌, ◌+◌, ◌∷◌, [], ◌++◌, ◌==◌, ℕ, List, Bool, true, false, cond, ◌&&◌, nat_lt, length, map, set, get_or, reverse, arith, refl, sym, ◌∙◌, ap}
use Rattle.std.specs.List.{filter, flat_map, range_with_len}
use Rattle.std.proofs.lemmas.Bool.{eq-eqb, eqb-true, eqb-false}
use Rattle.std.proofs.lemmas.Bool.Decides.{nat_tests}
use borrow.Author.Tests.{ltb-true, ltb-false}
use Rattle.std.proofs.lemmas.Grind.{flat_map-append}
use Rattle.std.proofs.lemmas.List.{reverse-append, append-nil, length-set, get_or-set_same, get_or-set_other}
use Rattle.std.proofs.Math.ListN.{get_or-eq_default}
use Rattle.std.proofs.lemmas.List.Concat.{flat_map-cons}
use Rattle.std.proofs.lemmas.List.FromFn.{length-map-range_with_len, get_or-map-range_with_len, fill_by_all}
use Rattle.pond_base.specs.declared.numbers.ClientId.{ClientId}
use Rattle.pond_base.specs.declared.numbers.MemberId.{MemberId}
use Rattle.script_terms.specs.declared.item.Item.{Item}
use Rattle.script_terms.specs.declared.item.Item.TheVariants.{Event}
use Rattle.script_terms.specs.declared.line.Line.TheVariants.{Submit}
use Rattle.script_grammar.specs.Known.{Known, known, faulty_in, home_in, all_declared, is_request, is_event, is_submit_of, submits_of}
use Rattle.script_grammar.specs.Steps.{in_range}
use Rattle.script_checks.specs.Next.{next, submits_after}

-- a count with one more
counted_one : (b : Bool) (x : Item) (xs : List Item) → length (cond b (x ∷ xs) xs) ≡ cond b (length xs + 1) (length xs)
counted_one true x xs = omega arith
counted_one false x xs = refl

-- what lines declare, with one more
all_more : {X : Type 0} (f : Item → List X) (item : Item) (earlier : List Item) → all_declared f earlier ++ f item ≡ all_declared f (item ∷ earlier)
all_more f item earlier =
    let one : flat_map f (item ∷ []) ≡ f item = flat_map-cons f item [] ∙ append-nil (f item) in
    sym (ap (flat_map f) (reverse-append (item ∷ []) earlier) ∙ flat_map-append f (reverse earlier) (item ∷ []) ∙ ap (λ x. flat_map f (reverse earlier) ++ x) one)

-- the submits of one client, with one more
submit_more : (b : Bool) (x : Item) (xs : List Item) (n : ℕ) → b ≡ true → length xs ≡ n → n + 1 ≡ length (cond b (x ∷ xs) xs)
submit_more b x xs n e h = rw e (omega (arith, h))

submit_same : (b : Bool) (x : Item) (xs : List Item) → b ≡ false → length xs ≡ length (cond b (x ∷ xs) xs)
submit_same b x xs e = rw e refl

-- a count at one place, and at another
place_by : (f g : ℕ → ℕ) (xs : List ℕ) (client v k : ℕ) (b : Bool) → (client == k) ≡ b → length xs ≡ 16 → client < 16 → k < 16 → ((j : ℕ) → j < 16 → get_or xs j 0 ≡ f j)
    → v ≡ g client → ((j : ℕ) → j ≢ client → f j ≡ g j) → get_or (set xs client v) k 0 ≡ g k
place_by f g xs client v k true e long small low was here there =
    let same : client ≡ k = eqb-true client k e in
    ap (λ j. get_or (set xs client v) j 0) (sym same) ∙ get_or-set_same xs client v 0 (omega arith) ∙ here ∙ ap g same
place_by f g xs client v k false e long small low was here there =
    let other : k ≢ client = λ q. eqb-false client k e (sym q) in
    get_or-set_other xs client k v 0 other ∙ was k low ∙ there k other

-- one more of a client among the counts
set_one : (f g : ℕ → ℕ) (client : ℕ) → client < 16 → f client + 1 ≡ g client → ((k : ℕ) → k ≢ client → f k ≡ g k)
    → set (map f (range_with_len 0 16)) client (get_or (map f (range_with_len 0 16)) client 0 + 1) ≡ map g (range_with_len 0 16)
set_one f g client small here there =
    let long = length-map-range_with_len f 0 16 in
    let was = λ (j : ℕ) (h : j < 16). get_or-map-range_with_len f 0 16 j j 0 h (omega arith) in
    fill_by_all g (set (map f (range_with_len 0 16)) client (get_or (map f (range_with_len 0 16)) client 0 + 1)) 16 0 (length-set (map f (range_with_len 0 16)) client _ ∙ long)
    (λ k h. place_by f g (map f (range_with_len 0 16)) client _ k (client == k) refl long small h was (ap (λ x. x + 1) (was client small) ∙ here) there)

first_below : (n m : ℕ) (b : Bool) → nat_lt n m && b ≡ true → n < m
first_below n m b e = grind (arith, nat_tests)

apart : (client k : ℕ) → k ≢ client → (client == k) ≡ false
apart client k ne = grind (arith, nat_tests)

-- the submits of each client, with one more line
pub submits_more : (item : Item) (earlier : List Item) → (known earlier).clients ≤ 16 → in_range (known earlier) item ≡ true → submits_after item (map (submits_of earlier) (range_with_len 0 16)) ≡ map (submits_of (item ∷ earlier)) (range_with_len 0 16)
submits_more (Event (Submit client label clauses)) earlier few range =
    set_one (submits_of earlier) (submits_of (Event (Submit client label clauses) ∷ earlier)) client.0 (omega (arith, first_below client.0 (known earlier).clients _ range))
    (submit_more (client.0 == client.0) _ _ _ (eq-eqb client.0 client.0 refl) refl) (λ k ne. submit_same (client.0 == k) _ _ (apart client.0 k ne))
submits_more item earlier few range = refl

same_fields : (l r b c : ℕ) (f f2 : List MemberId) (h h2 : List (ClientId × MemberId)) (s s2 : List ℕ) (q q2 e e2 : ℕ) → f ≡ f2 → h ≡ h2 → s ≡ s2 → q ≡ q2 → e ≡ e2
    → let left : Known = record { last = l; ring = r; faulty = f; block = b; clients = c; homes = h; submits = s; requests = q; events = e } in
    let right : Known = record { last = l; ring = r; faulty = f2; block = b; clients = c; homes = h2; submits = s2; requests = q2; events = e2 } in left ≡ right
same_fields l r b c f f2 h h2 s s2 q q2 e e2 a1 a2 a3 a4 a5 = cc

-- what is known behind one more line
pub known_next : (item : Item) (earlier : List Item) → (known earlier).clients ≤ 16 → in_range (known earlier) item ≡ true → next item (known earlier) ≡ known (item ∷ earlier)
known_next item earlier few range =
    same_fields _ _ _ _ _ _ _ _ _ _ _ _ _ _ (all_more faulty_in item earlier) (all_more home_in item earlier) (submits_more item earlier few range)
    (sym (counted_one (is_request item) item (filter is_request earlier))) (sym (counted_one (is_event item) item (filter is_event earlier)))

-- no client has more submits than there are requests
fewer_by : (a b : Bool) (x y : Item) (xs ys : List Item) → (a ≡ true → b ≡ true) → length xs ≤ length ys → length (cond a (x ∷ xs) xs) ≤ length (cond b (y ∷ ys) ys)
fewer_by true true x y xs ys h le = omega arith
fewer_by false true x y xs ys h le = omega arith
fewer_by false false x y xs ys h le = le
fewer_by true false x y xs ys h le = absurd (cc (h refl))

is_among : (client : ℕ) (item : Item) → is_submit_of client item ≡ true → is_request item ≡ true
is_among client (Event (Submit c label clauses)) e = refl
is_among client item e = absurd (cc)

fewer : (client : ℕ) (earlier : List Item) → submits_of earlier client ≤ length (filter is_request earlier)
fewer client [] = omega arith
fewer client (item ∷ earlier) = fewer_by (is_submit_of client item) (is_request item) item item _ _ (is_among client item) (fewer client earlier)

count_by_place : (f : ℕ → ℕ) (client bound : ℕ) (b : Bool) → nat_lt client 16 ≡ b → f client ≤ bound → get_or (map f (range_with_len 0 16)) client 0 ≤ bound
count_by_place f client bound true e le = let small : client < 16 = ltb-true client 16 e in omega (arith, get_or-map-range_with_len f 0 16 client client 0 small (omega arith), le)
count_by_place f client bound false e le =
    let past : 16 ≤ client = ltb-false client 16 e in
    omega (arith, get_or-eq_default (map f (range_with_len 0 16)) 0 {n = client} (omega (arith, length-map-range_with_len f 0 16)))

pub few_submits : (earlier : List Item) (client : ℕ) → get_or (map (submits_of earlier) (range_with_len 0 16)) client 0 ≤ length (filter is_request earlier)
few_submits earlier client = count_by_place (submits_of earlier) client _ (nat_lt client 16) refl (fewer client earlier)
