-- Where things stand in lists, and runs.
use Rattle.std.proofs.Common.{◌≡◌, ℕ, zero, suc, ◌+◌, ◌-◌, ◌<◌, ◌≤◌, Bool, true, false, cond, ◌==◌, List, [], ◌∷◌, ◌++◌, length, map, get_or, slice_get, filter, flat_map, count_by, Contains, Option, Some, None, ◌⊎◌, inl, inr, ⊎_elim, refl, sym, ap, ap₂, ◌∙◌, subst, arith}
use Rattle.std.specs.List.{list_any, range_with_len, sum_by, AllByRecursion as Each}
use Rattle.std.specs.Option.{option_or}
use Rattle.std.proofs.lemmas.Bool.{eq-eqb, ne_eqb, cases_eq, or_left, or_right}
use Rattle.std.proofs.lemmas.List.Sums.{sum_by-cons, sum_by-le-sum_by}
use Rattle.std.proofs.lemmas.List.Elements.{Contains-append_left, Contains-append_right}
use Rattle.ring_model.specs.History.{first_said, go_on, run_of}
use Rattle.ring_model.specs.Laws.{IsPrefix}
use Rattle.ring_model.proofs.History.{same_some}

pub there_first : {X : Type 0} (x : X) (xs : List X) → Contains (x ∷ xs) x
there_first x xs = (0, omega arith, refl)

pub there_later : {X : Type 0} (y : X) (xs : List X) (x : X) → Contains xs x → Contains (y ∷ xs) x
there_later y xs x c = (suc c.0, omega arith, c.2)

-- cases on where it stands
pub there_cases : {X : Type 0} (y : X) (xs : List X) (x : X) → Contains (y ∷ xs) x → (y ≡ x) ⊎ Contains xs x
there_cases y xs x c = at c.0 c.1 c.2
  where
    at : (k : ℕ) → k < length (y ∷ xs) → get_or (y ∷ xs) k x ≡ x → (y ≡ x) ⊎ Contains xs x
    at zero h e = inl e
    at (suc k) h e = inr (k, omega arith, e)

pub there_none : {X : Type 0} (x : X) → Contains [] x → ⊥
there_none x c = omega (arith, c.1)

pub Each-there : {X : Type 0} (P : X → Type 0) (xs : List X) (x : X) → Each P xs → Contains xs x → P x
Each-there P [] x h c = absurd (there_none x c)
Each-there P (y ∷ xs) x h c = ⊎_elim (λ e. subst P e h.0) (λ d. Each-there P xs x h.1 d) (there_cases y xs x c)

pub there_map : {X Y : Type 0} (f : X → Y) (xs : List X) (x : X) → Contains xs x → Contains (map f xs) (f x)
there_map f [] x c = absurd (there_none x c)
there_map f (y ∷ xs) x c =
    ⊎_elim (λ e. subst (λ z. Contains (f y ∷ map f xs) (f z)) e (there_first (f y) (map f xs))) (λ d. there_later (f y) (map f xs) (f x) (there_map f xs x d)) (there_cases y xs x c)

pub there_flat : {X Y : Type 0} (f : X → List Y) (xs : List X) (x : X) (y : Y) → Contains xs x → Contains (f x) y → Contains (flat_map f xs) y
there_flat f [] x y c d = absurd (there_none x c)
there_flat f (z ∷ xs) x y c d =
    ⊎_elim (λ e. Contains-append_left (f z) (flat_map f xs) y (subst (λ u. Contains (f u) y) (sym e) d)) (λ k. Contains-append_right (f z) (flat_map f xs) y (there_flat f xs x y k d)) (there_cases z xs x c)

pub there_range : (n a k : ℕ) → a ≤ k → k < a + n → Contains (range_with_len a n) k
there_range zero a k low high = absurd (omega arith)
there_range (suc n) a k low high =
    ⊎_elim (λ e. subst (Contains (a ∷ range_with_len (a + 1) n)) e (there_first a (range_with_len (a + 1) n))) (λ apart. there_later a (range_with_len (a + 1) n) k (there_range n (a + 1) k (omega arith) (omega arith))) (cases_eq a k)

pub filter_there : {X : Type 0} (t : X → Bool) (xs : List X) (x : X) → Contains (filter t xs) x → Contains xs x
filter_there t [] x c = absurd (there_none x c)
filter_there {X} t (y ∷ xs) x c =
    elim (t y) as (λ b. Contains (cond b (y ∷ filter t xs) (filter t xs)) x → Contains (y ∷ xs) x) [
      | true ↦ λ d. ⊎_elim (λ e. subst (Contains (y ∷ xs)) e (there_first y xs)) (λ k. there_later y xs x (filter_there t xs x k)) (there_cases y (filter t xs) x d)
      | false ↦ λ d. there_later y xs x (filter_there t xs x d)
    ] c

pub there_filter : {X : Type 0} (t : X → Bool) (xs : List X) (x : X) → Contains xs x → t x ≡ true → Contains (filter t xs) x
there_filter t [] x c e = absurd (there_none x c)
there_filter {X} t (y ∷ xs) x c e =
    elim (t y) as (λ b. t y ≡ b → Contains (cond b (y ∷ filter t xs) (filter t xs)) x) [
      | true ↦ λ _. ⊎_elim (λ same. subst (Contains (y ∷ filter t xs)) same (there_first y (filter t xs))) (λ d. there_later y (filter t xs) x (there_filter t xs x d e)) (there_cases y xs x c)
      | false ↦ λ no. ⊎_elim (λ same. absurd (cc (no, ap t same, e))) (λ d. there_filter t xs x d e) (there_cases y xs x c)
    ] refl

pub any_there : {X : Type 0} (t : X → Bool) (xs : List X) (x : X) → Contains xs x → t x ≡ true → list_any t xs ≡ true
any_there t [] x c e = absurd (there_none x c)
any_there t (y ∷ xs) x c e =
    ⊎_elim (λ same. or_left (t y) (list_any t xs) (ap t same ∙ e)) (λ d. or_right (t y) (list_any t xs) (any_there t xs x d e)) (there_cases y xs x c)

-- what some entry says, something says first
pub said_there : {X Y : Type 0} (say : X → Option Y) (xs : List X) (x : X) (y : Y) → Contains xs x → say x ≡ Some y → (z : Y) × (first_said say xs ≡ Some z)
said_there say [] x y c e = absurd (there_none x c)
said_there {Y = Y} say (l ∷ older) x y c e =
    elim (first_said say older) as (λ (o : Option Y). first_said say older ≡ o → (z : Y) × (option_or o (say l) ≡ Some z)) [
      | Some z ↦ λ _. (z, refl)
      | None ↦ λ none.
          ⊎_elim (λ same. (y, ap say same ∙ e))
          (λ d. let r = said_there say older x y d e in absurd (cc (none, r.1)))
          (there_cases l older x c)
    ] refl

pub at_there : {X : Type 0} (xs : List X) (x : X) → Contains xs x → (k : ℕ) × (slice_get xs k ≡ Some x)
at_there [] x c = absurd (there_none x c)
at_there (y ∷ xs) x c = ⊎_elim (λ e. (0, ap Some e)) (λ d. let r = at_there xs x d in (suc r.0, r.1)) (there_cases y xs x c)

pub at_in : {X : Type 0} (xs : List X) (k : ℕ) (x : X) → slice_get xs k ≡ Some x → Contains xs x
at_in [] k x e = absurd (cc e)
at_in (y ∷ xs) zero x e = subst (Contains (y ∷ xs)) (same_some y x e) (there_first y xs)
at_in (y ∷ xs) (suc k) x e = there_later y xs x (at_in xs k x e)

pub at_short : {X : Type 0} (xs : List X) (k : ℕ) (x : X) → slice_get xs k ≡ Some x → k < length xs
at_short [] k x e = absurd (cc e)
at_short (y ∷ xs) zero x e = omega arith
at_short (y ∷ xs) (suc k) x e = let h = at_short xs k x e in omega arith

pub at_some : {X : Type 0} (xs : List X) (k : ℕ) → k < length xs → (x : X) × (slice_get xs k ≡ Some x)
at_some [] k h = absurd (omega arith)
at_some (y ∷ xs) zero h = (y, refl)
at_some (y ∷ xs) (suc k) h = at_some xs k (omega arith)

pub Each-from_there : {X : Type 0} (P : X → Type 0) (xs : List X) → ((x : X) → Contains xs x → P x) → Each P xs
Each-from_there P [] f = tt
Each-from_there P (x ∷ xs) f = (f x (there_first x xs), Each-from_there P xs (λ y c. f y (there_later x xs y c)))

-- an entry that stands twice in a list stands twice among those that pass a test with it
pub filter_twice : {X : Type 0} (t : X → Bool) (xs : List X) (a b : ℕ) (x : X) → a < b → slice_get xs a ≡ Some x → slice_get xs b ≡ Some x → t x ≡ true
    → (i : ℕ) × (j : ℕ) × (i < j) × (slice_get (filter t xs) i ≡ Some x) × (slice_get (filter t xs) j ≡ Some x)
filter_twice t [] a b x h ea eb p = absurd (cc ea)
filter_twice t (y ∷ ys) a zero x h ea eb p = absurd (omega arith)
filter_twice {X} t (y ∷ ys) zero (suc b) x h ea eb p =
    let same : y ≡ x = same_some y x ea in
    let r = at_there (filter t ys) x (there_filter t ys x (at_in ys b x eb) p) in
    subst (λ v. (i : ℕ) × (j : ℕ) × (i < j) × (slice_get (cond v (y ∷ filter t ys) (filter t ys)) i ≡ Some x) × (slice_get (cond v (y ∷ filter t ys) (filter t ys)) j ≡ Some x)) (sym (ap t same ∙ p))
    (0, suc r.0, omega arith, ea, r.1)
filter_twice {X} t (y ∷ ys) (suc a) (suc b) x h ea eb p =
    let r = filter_twice t ys a b x (omega arith) ea eb p in
    elim (t y) as (λ v. (i : ℕ) × (j : ℕ) × (i < j) × (slice_get (cond v (y ∷ filter t ys) (filter t ys)) i ≡ Some x) × (slice_get (cond v (y ∷ filter t ys) (filter t ys)) j ≡ Some x)) [
      | true ↦ (suc r.0, suc r.1, omega (arith, r.2), r.3, r.4)
      | false ↦ r
    ]

-- ---- runs

pub run_split : {Y : Type 0} (c : ℕ → Option Y) (done : List Y) (n s : ℕ) → IsPrefix done (run_of c n s) → run_of c n s ≡ done ++ run_of c (n - length done) (s + length done)
run_split c [] n s h = ap (λ k. run_of c k s) (omega arith) ∙ ap (run_of c (n - 0)) (omega arith)
run_split c (y ∷ ys) zero s h = absurd (cc h.1)
run_split {Y} c (y ∷ ys) (suc n) s h =
    elim (c s) as (λ o. IsPrefix (y ∷ ys) (go_on o (run_of c n (s + 1))) → go_on o (run_of c n (s + 1)) ≡ y ∷ (ys ++ run_of c (suc n - length (y ∷ ys)) (s + length (y ∷ ys)))) [
      | None ↦ λ k. absurd (cc k.1)
      | Some z ↦ λ k.
          let head : z ≡ y = cc k.1 in
          let tail : ys ++ k.0 ≡ run_of c n (s + 1) = cc k.1 in
          ap (λ x. x ∷ run_of c n (s + 1)) head
          ∙ ap (λ xs. y ∷ xs) (run_split c ys n (s + 1) (k.0, tail)
          ∙ ap (λ i. ys ++ run_of c i (s + 1 + length ys)) (omega arith) ∙ ap (λ i. ys ++ run_of c (suc n - length (y ∷ ys)) i) (omega arith))
    ] h

-- each entry of a run is what its place has
pub run_at : {Y : Type 0} (c : ℕ → Option Y) (n s k : ℕ) (y : Y) → slice_get (run_of c n s) k ≡ Some y → c (s + k) ≡ Some y
run_at c zero s k y e = absurd (cc e)
run_at {Y} c (suc n) s k y e = at (c s) refl k e (λ j. run_at c n (s + 1) j y)
  where
    at : (o : Option Y) → c s ≡ o → (k : ℕ) → slice_get (go_on o (run_of c n (s + 1))) k ≡ Some y → ((j : ℕ) → slice_get (run_of c n (s + 1)) j ≡ Some y → c (s + 1 + j) ≡ Some y) → c (s + k) ≡ Some y
    at None here k e rest = absurd (cc e)
    at (Some z) here zero e rest = ap c (omega arith) ∙ here ∙ e
    at (Some z) here (suc k) e rest = ap c (omega arith) ∙ rest k e

pub run_has : {Y : Type 0} (c : ℕ → Option Y) (n s k : ℕ) → k < length (run_of c n s) → (y : Y) × (c (s + k) ≡ Some y)
run_has c n s k h = let r = at_some (run_of c n s) k h in (r.0, run_at c n s k r.0 r.1)

pub run_same : {Y : Type 0} (a b : ℕ → Option Y) → ((s : ℕ) → a s ≡ b s) → (n s : ℕ) → run_of a n s ≡ run_of b n s
run_same a b f zero s = refl
run_same a b f (suc n) s = ap₂ go_on (f s) (run_same a b f n (s + 1))

pub run_none : {Y : Type 0} (a : ℕ → Option Y) (n s : ℕ) → a s ≡ None → run_of a n s ≡ []
run_none a zero s e = refl
run_none a (suc n) s e = ap (λ o. go_on o (run_of a n (s + 1))) e

-- a list that the places give in order is a prefix of the run
pub run_reaches : {Y : Type 0} (a : ℕ → Option Y) (xs : List Y) (n s : ℕ) → length xs ≤ n → ((k : ℕ) (y : Y) → slice_get xs k ≡ Some y → a (s + k) ≡ Some y) → IsPrefix xs (run_of a n s)
run_reaches a [] n s h f = (run_of a n s, refl)
run_reaches a (x ∷ xs) zero s h f = absurd (omega arith)
run_reaches a (x ∷ xs) (suc n) s h f =
    let here : a s ≡ Some x = ap a (omega arith) ∙ f 0 x refl in
    let rest = run_reaches a xs n (s + 1) (omega arith) (λ k y e. ap a (omega arith) ∙ f (suc k) y e) in
    (rest.0, ap (λ zs. x ∷ zs) rest.1 ∙ sym (ap (λ o. go_on o (run_of a n (s + 1))) here))

-- a place is in the run where each place up to it has something
pub run_there : {Y : Type 0} (a : ℕ → Option Y) (n s k : ℕ) (y : Y) → ((m : ℕ) → m < k → (z : Y) × (a (s + m) ≡ Some z)) → a (s + k) ≡ Some y → k < n → Contains (run_of a n s) y
run_there a zero s k y f e h = absurd (omega arith)
run_there a (suc n) s zero y f e h = rw (let g : a s ≡ Some y = ap a (omega arith) ∙ e in g) (there_first y (run_of a n (s + 1)))
run_there a (suc n) s (suc k) y f e h =
    let z = f 0 (omega arith) in
    let here : a s ≡ Some z.0 = ap a (omega arith) ∙ z.1 in
    rw here (there_later z.0 (run_of a n (s + 1)) y (run_there a n (s + 1) k y (λ m l. let r = f (suc m) (omega arith) in (r.0, ap a (omega arith) ∙ r.1)) (ap a (omega arith) ∙ e) (omega arith)))

-- ---- counting twice

sum_add : (F G : ℕ → ℕ) (xs : List ℕ) → sum_by (λ x. F x + G x) xs ≡ sum_by F xs + sum_by G xs
sum_add F G [] = refl
sum_add F G (x ∷ xs) = omega (arith, sum_by-cons (λ x. F x + G x) x xs, sum_by-cons F x xs, sum_by-cons G x xs, sum_add F G xs)

sum_same : (F G : ℕ → ℕ) (xs : List ℕ) → ((x : ℕ) → F x ≡ G x) → sum_by F xs ≡ sum_by G xs
sum_same F G [] h = refl
sum_same F G (x ∷ xs) h = omega (arith, sum_by-cons F x xs, sum_by-cons G x xs, h x, sum_same F G xs h)

none_below : (k n a : ℕ) → k < a → sum_by (λ c. cond (k == c) 1 0) (range_with_len a n) ≡ 0
none_below k zero a h = refl
none_below k (suc n) a h =
    let no : cond (k == a) 1 0 ≡ 0 = ap {B = ℕ} (λ b. cond b 1 0) (ne_eqb k a (λ e. omega arith)) in
    omega (arith, sum_by-cons (λ c. cond (k == c) 1 0) a (range_with_len (a + 1) n), no, none_below k n (a + 1) (omega arith))

one_place : (k n a : ℕ) → a ≤ k → k < a + n → sum_by (λ c. cond (k == c) 1 0) (range_with_len a n) ≡ 1
one_place k zero a low high = absurd (omega arith)
one_place k (suc n) a low high =
    ⊎_elim
    (λ same. let yes : cond (k == a) 1 0 ≡ 1 = ap {B = ℕ} (λ b. cond b 1 0) (eq-eqb k a (sym same)) in
    omega (arith, sum_by-cons (λ c. cond (k == c) 1 0) a (range_with_len (a + 1) n), yes, none_below k n (a + 1) (omega arith)))
    (λ other. let no : cond (k == a) 1 0 ≡ 0 = ap {B = ℕ} (λ b. cond b 1 0) (ne_eqb k a (λ e. other (sym e))) in
    omega (arith, sum_by-cons (λ c. cond (k == c) 1 0) a (range_with_len (a + 1) n), no, one_place k n (a + 1) (omega arith) (omega arith)))
    (cases_eq a k)

pub all_zero : (xs : List ℕ) → sum_by (λ c. 0) xs ≡ 0
all_zero [] = refl
all_zero (x ∷ xs) = omega (arith, sum_by-cons (λ c. 0) x xs, all_zero xs)

-- a list is as long as its parts by owner are together
pub by_owner : {X : Type 0} (owner : X → ℕ) (n : ℕ) (xs : List X) → Each (λ x. owner x < n) xs → sum_by (λ c. count_by (λ x. owner x == c) xs) (range_with_len 0 n) ≡ length xs
by_owner owner n [] h = all_zero (range_with_len 0 n)
by_owner owner n (x ∷ xs) h =
    omega (
      arith,
      sum_same (λ c. count_by (λ x. owner x == c) (x ∷ xs)) (λ c. cond (owner x == c) 1 0 + count_by (λ x. owner x == c) xs) (range_with_len 0 n) (λ c. sum_by-cons (λ y. cond (owner y == c) 1 0) x xs),
      sum_add (λ c. cond (owner x == c) 1 0) (λ c. count_by (λ x. owner x == c) xs) (range_with_len 0 n),
      one_place (owner x) n 0 (omega arith) (omega (arith, h.0)),
      by_owner owner n xs h.1,
    )

-- where each owner has as few in the one as in the other, the one is as short
pub short_by_owner : {X : Type 0} (owner : X → ℕ) (n : ℕ) (xs ys : List X) → Each (λ x. owner x < n) xs → Each (λ x. owner x < n) ys
    → ((c : ℕ) → count_by (λ x. owner x == c) xs ≤ count_by (λ x. owner x == c) ys) → length xs ≤ length ys
short_by_owner owner n xs ys hx hy f =
    omega (arith, by_owner owner n xs hx, by_owner owner n ys hy, sum_by-le-sum_by (λ c. count_by (λ x. owner x == c) xs) (λ c. count_by (λ x. owner x == c) ys) (range_with_len 0 n) f)
