-- What is newly owed for executed slots is owed for each of them in turn.
use Rattle.std.proofs.Common.{◌≡◌, ℕ, zero, suc, ◌+◌, ◌-◌, ◌<◌, ◌≤◌, Bool, true, false, cond, ◌&&◌, nat_le, List, [], ◌∷◌, ◌++◌, length, map, take, flat_map, Contains, Some, None, refl, sym, ap, ap₂, ◌∙◌, arith, append-nil, length-append}
use Rattle.std.specs.List.{range_with_len}
use Rattle.std.proofs.lemmas.List.FromFn.{map-range_with_len_more}
use Rattle.std.proofs.lemmas.Grind.{flat_map-append}
use Rattle.std.proofs.lemmas.Bool.{and_parts, leb-true}
use Rattle.std.proofs.Math.Seq.{take-append_seam}
use Rattle.ring_model.specs.Messages.{Ring, Letter, Packet}
use Rattle.ring_model.specs.Member.{news, newly, first_of, executed, executed_to, answers}
use Rattle.ring_model.specs.Laws.{IsPrefix}
use Rattle.ring_model.proofs.History.{first_of_from}
use Rattle.ring_model.proofs.Lists.{there_map, there_range, there_flat}
use Rattle.pond_node.specs.Answers.{longer}

range-append : (a n k : ℕ) → range_with_len a (n + k) ≡ range_with_len a n ++ range_with_len (a + n) k
range-append a zero k = ap₂ range_with_len (omega arith) (omega arith)
range-append a (suc n) k =
    let more : suc n + k ≡ suc (n + k) = omega arith in
    ap (range_with_len a) more ∙ ap (λ xs. a ∷ xs) (range-append (a + 1) n k ∙ ap (λ b. range_with_len (a + 1) n ++ range_with_len b k) (omega arith))

none_here : {X : Type 0} (F : ℕ → List X) (n a : ℕ) → ((s : ℕ) → a ≤ s → s < a + n → F s ≡ []) → flat_map F (range_with_len a n) ≡ []
none_here F zero a e = refl
none_here F (suc n) a e = ap₂ (λ xs ys. xs ++ ys) (e a (omega arith) (omega arith)) (none_here F n (a + 1) (λ s low high. e s (omega arith) (omega arith)))

same_here : {X : Type 0} (F G : ℕ → List X) (n a : ℕ) → ((s : ℕ) → a ≤ s → s < a + n → F s ≡ G s) → flat_map F (range_with_len a n) ≡ flat_map G (range_with_len a n)
same_here F G zero a e = refl
same_here F G (suc n) a e = ap₂ (λ xs ys. xs ++ ys) (e a (omega arith) (omega arith)) (same_here F G n (a + 1) (λ s low high. e s (omega arith) (omega arith)))

flat_over_map : {X Y Z : Type 0} (f : Y → List Z) (p : X → Y) (xs : List X) → flat_map f (map p xs) ≡ flat_map (λ x. f (p x)) xs
flat_over_map f p [] = refl
flat_over_map f p (x ∷ xs) = ap (λ ys. f (p x) ++ ys) (flat_over_map f p xs)

no_first : {Y : Type 0} (s : ℕ) (xs : List Y) → length xs < s → first_of s xs ≡ None
no_first s xs high = ap (λ b. cond b (Some (take s xs)) None) (by (nat_le 1 s && nat_le s (length xs)) refl)
  where
    by : (b : Bool) → (nat_le 1 s && nat_le s (length xs)) ≡ b → (nat_le 1 s && nat_le s (length xs)) ≡ false
    by true e = absurd (let low = leb-true s (length xs) (and_parts (nat_le 1 s) (nat_le s (length xs)) e).1 in omega arith)
    by false e = e

-- slots that were executed before are not newly so, those between are, and those beyond are not executed
between_slots : (n : ℕ) (f : List (List ℕ) → List Packet) (xs ys : List (List ℕ)) → length xs ≤ length ys → length ys ≤ n
    → flat_map (λ s. news (first_of s xs) (first_of s ys) f) (range_with_len 1 n) ≡ flat_map f (longer (length xs) ys)
between_slots n f xs ys up within =
    let F : ℕ → List Packet = λ s. news (first_of s xs) (first_of s ys) f in
    let a = length xs in
    let b = length ys in
    let parts : range_with_len 1 n ≡ range_with_len 1 a ++ (range_with_len (1 + a) (b - a) ++ range_with_len (1 + b) (n - b))
    = ap (range_with_len 1) (let e : n ≡ a + ((b - a) + (n - b)) = omega arith in e) ∙ range-append 1 a ((b - a) + (n - b))
    ∙ ap (λ zs. range_with_len 1 a ++ zs) (range-append (1 + a) (b - a) (n - b) ∙ ap (λ c. range_with_len (1 + a) (b - a) ++ range_with_len c (n - b)) (let e : 1 + a + (b - a) ≡ 1 + b = omega arith in e)) in
    let before : flat_map F (range_with_len 1 a) ≡ []
    = none_here F a 1 (λ s low high. ap (λ o. news o (first_of s ys) f) (first_of_from s xs low (omega arith))) in
    let now : flat_map F (range_with_len (1 + a) (b - a)) ≡ flat_map (λ s. f (take s ys)) (range_with_len (1 + a) (b - a))
    = same_here F (λ s. f (take s ys)) (b - a) (1 + a) (λ s low high. ap₂ (λ o u. news o u f) (no_first s xs (omega arith)) (first_of_from s ys (omega arith) (omega arith))) in
    let beyond : flat_map F (range_with_len (1 + b) (n - b)) ≡ []
    = none_here F (n - b) (1 + b) (λ s low high. ap₂ (λ o u. news o u f) (no_first s xs (omega arith)) (no_first s ys (omega arith))) in
    ap (flat_map F) parts
    ∙ flat_map-append F (range_with_len 1 a) (range_with_len (1 + a) (b - a) ++ range_with_len (1 + b) (n - b))
    ∙ ap₂ (λ zs ws. zs ++ ws) before (flat_map-append F (range_with_len (1 + a) (b - a)) (range_with_len (1 + b) (n - b)) ∙ ap₂ (λ zs ws. zs ++ ws) now beyond)
    ∙ append-nil (flat_map (λ s. f (take s ys)) (range_with_len (1 + a) (b - a)))
    ∙ ap (λ c. flat_map (λ s. f (take s ys)) (range_with_len c (b - a))) (let e : 1 + a ≡ suc a = omega arith in e)
    ∙ sym (flat_over_map f (λ c. take c ys) (range_with_len (suc a) (b - a)))

pub newly_answers : (g : Ring) (i : ℕ) (older got : List Letter) → length (executed g older) ≤ length (executed g got) → length (executed g got) ≤ g.slots
    → newly g (executed_to g older) (executed_to g got) (λ s xs. answers g i xs) ≡ flat_map (answers g i) (longer (length (executed g older)) (executed g got))
newly_answers g i older got up within = between_slots g.slots (answers g i) (executed g older) (executed g got) up within

-- ---- prefixes

pub prefix_taken : {X : Type 0} (xs ys : List X) → IsPrefix xs ys → take (length xs) ys ≡ xs
prefix_taken xs ys h = ap (take (length xs)) (sym h.1) ∙ take-append_seam xs h.0

pub prefix_short : {X : Type 0} (xs ys : List X) → IsPrefix xs ys → length xs ≤ length ys
prefix_short xs ys h = omega (arith, length-append xs h.0, ap length h.1)

-- the prefixes that are longer than so many, up to so many
abbrev pub between : {X : Type 0} → ℕ → ℕ → List X → List (List X)
between done to all = map (λ count. take count all) (range_with_len (suc done) (to - done))

pub none_between : {X : Type 0} (done : ℕ) (all : List X) → between done done all ≡ []
none_between done all = ap (λ n. map (λ count. take count all) (range_with_len (suc done) n)) (let e : done - done ≡ 0 = omega arith in e)

pub between_more : {X : Type 0} (done to : ℕ) (all : List X) → done ≤ to → between done (to + 1) all ≡ between done to all ++ take (to + 1) all ∷ []
between_more done to all low =
    ap (λ n. map (λ count. take count all) (range_with_len (suc done) n)) (let e : to + 1 - done ≡ to - done + 1 = omega arith in e) ∙ map-range_with_len_more (λ count. take count all) (suc done) (to - done) (to + 1) (omega arith)

pub flat_between : {X Z : Type 0} (f : List X → List Z) (done to : ℕ) (all : List X) → done ≤ to → flat_map f (between done (to + 1) all) ≡ flat_map f (between done to all) ++ f (take (to + 1) all)
flat_between f done to all low =
    ap (flat_map f) (between_more done to all low) ∙ flat_map-append f (between done to all) (take (to + 1) all ∷ [])
    ∙ ap (λ zs. flat_map f (between done to all) ++ zs) (append-nil (f (take (to + 1) all)))

-- each of them is among the longer ones
pub there_longer : {X : Type 0} (f : List X → List (List ℕ)) (done slot : ℕ) (all : List X) (y : List ℕ) → done < slot → slot ≤ length all → Contains (f (take slot all)) y → Contains (flat_map f (longer done all)) y
there_longer f done slot all y low high c =
    there_flat f (longer done all) (take slot all) y (there_map (λ count. take count all) (range_with_len (suc done) (length all - done)) slot (there_range (length all - done) (suc done) slot (omega arith) (omega arith))) c
