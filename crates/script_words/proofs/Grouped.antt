-- Groups of words.
use Rattle.std.proofs.Common.{◌≡◌, ◌+◌, ◌-◌, ◌<◌, ◌≤◌, ◌∷◌, [], ℕ, zero, suc, List, Ok, Option, Some, None, Bool, true, false, length, nat_le, take, drop, get_or, cond, map, ◌++◌, arith, refl, sym, ◌∙◌, ap, append_assoc, Err}
use Rattle.std.specs.List.{slice_split, onto_first}
use Rattle.script_terms.specs.declared.cause.Cause.TheVariants as causes
use Rattle.script_grammar.specs.Results.{or_cause}
use Rattle.std.specs.Option.{option_map}
use Rattle.std.proofs.lemmas.Bool.{le-leb, lt-leb}
use Rattle.std.proofs.lemmas.Grind.{common_steps}
use Rattle.script_grammar.specs.Update.{Place, action_of, groups, role}

-- groups that are too short or too long for an action
pub short_group : (g : List (List ℕ)) → length g < 2 → action_of g ≡ Ok []
short_group [] h = refl
short_group (a ∷ []) h = refl
short_group (a ∷ b ∷ g) h = absurd (omega arith)

pub long_group : (g : List (List ℕ)) → 4 < length g → action_of g ≡ Ok []
long_group [] h = refl
long_group (a ∷ []) h = refl
long_group (a ∷ b ∷ []) h = absurd (omega arith)
long_group (a ∷ b ∷ c ∷ []) h = absurd (omega arith)
long_group (a ∷ b ∷ c ∷ d ∷ []) h = absurd (omega arith)
long_group (a ∷ b ∷ c ∷ d ∷ e ∷ g) h = refl

here : (at : ℕ) (ws : List (List ℕ)) → at < length ws → drop at ws ≡ get_or ws at [] ∷ drop (at + 1) ws
here at ws h = grind (arith, common_steps)

left_over : (at : ℕ) (ws : List (List ℕ)) → length (drop (at + 1) ws) ≡ length ws - (at + 1)
left_over at ws = grind (arith, common_steps)

front : (at count : ℕ) (ws : List (List ℕ)) → at < length ws → take (1 + count) (drop at ws) ≡ get_or ws at [] ∷ take count (drop (at + 1) ws)
front at count ws h =
    let one : 1 + count ≡ suc count = omega arith in
    rw (here at ws h, one) refl

behind : (at count : ℕ) (ws : List (List ℕ)) → drop (at + 1 + count) ws ≡ drop count (drop (at + 1) ws)
behind at count ws = grind (arith, common_steps)

-- a group more
pub group_more : (m at count : ℕ) (ws : List (List ℕ)) (place next : Place) → at < length ws → role place (get_or ws at []) ≡ Some (count, next) → at + 1 + count ≤ length ws
    → groups (suc m) place (drop at ws) ≡ option_map (λ more. take (1 + count) (drop at ws) ∷ more) (groups m next (drop (at + 1 + count) ws))
group_more m at count ws place next h r within =
    let fits : nat_le count (length (drop (at + 1) ws)) ≡ true = le-leb _ _ (omega (arith, left_over at ws)) in
    rw (front at count ws h, behind at count ws, here at ws h, r, fits) refl

-- a word that does not fit
pub group_none : (most at : ℕ) (ws : List (List ℕ)) (place : Place) → at < length ws → role place (get_or ws at []) ≡ None → groups most place (drop at ws) ≡ None
group_none zero at ws place h r = rw (here at ws h) refl
group_none (suc most) at ws place h r = rw (here at ws h, r) refl

-- too few words behind a keyword
pub group_short : (most at count : ℕ) (ws : List (List ℕ)) (place next : Place) → at < length ws → role place (get_or ws at []) ≡ Some (count, next) → length ws < at + 1 + count → groups most place (drop at ws) ≡ None
group_short zero at count ws place next h r short = rw (here at ws h) refl
group_short (suc most) at count ws place next h r short =
    let lacks : nat_le count (length (drop (at + 1) ws)) ≡ false = lt-leb _ _ (omega (arith, left_over at ws)) in
    rw (here at ws h, r, lacks) refl

-- groups so far, and the rest of them
abbrev pub with_groups : List (List (List ℕ)) → Option (List (List (List ℕ))) → Option (List (List (List ℕ)))
with_groups done rest = option_map (λ more. done ++ more) rest

pub first_groups : (rest : Option (List (List (List ℕ)))) → with_groups [] rest ≡ rest
first_groups None = refl
first_groups (Some more) = refl

one_more : (done : List (List (List ℕ))) (group : List (List ℕ)) (rest : Option (List (List (List ℕ)))) → with_groups (done ++ group ∷ []) rest ≡ with_groups done (option_map (λ more. group ∷ more) rest)
one_more done group None = refl
one_more done group (Some more) = ap Some (append_assoc done (group ∷ []) more)

-- a step of the loop
pub step : (done : List (List (List ℕ))) (most at count : ℕ) (ws : List (List ℕ)) (place next : Place) (all : Option (List (List (List ℕ))))
    → at < length ws → role place (get_or ws at []) ≡ Some (count, next) → at + 1 + count ≤ length ws → length ws ≤ most + at → with_groups done (groups most place (drop at ws)) ≡ all
    → (m : ℕ) × (length ws ≤ m + (at + 1 + count)) × (with_groups (done ++ take (1 + count) (drop at ws) ∷ []) (groups m next (drop (at + 1 + count) ws)) ≡ all)
step done zero at count ws place next all h r within bound i = absurd (omega arith)
step done (suc m) at count ws place next all h r within bound i =
    (m, omega arith, one_more done _ _ ∙ ap (with_groups done) (sym (group_more m at count ws place next h r within)) ∙ i)

pub fails : (done : List (List (List ℕ))) (rest all : Option (List (List (List ℕ)))) → rest ≡ None → with_groups done rest ≡ all → or_cause causes.Words all ≡ Err causes.Words
fails done rest all e i = ap (or_cause causes.Words) (sym i ∙ ap (with_groups done) e)

onto : {A B : Type 0} (f : A → B) (x : A) (xss : List (List A)) → map (map f) (onto_first x xss) ≡ onto_first (f x) (map (map f) xss)
onto f x [] = refl
onto f x (xs ∷ xss) = refl

split_one : {A B : Type 0} (f : A → B) (p : B → Bool) (x : A) (t : Bool) (xs : List A) (parts : List (List A)) → map (map f) parts ≡ slice_split p (map f xs)
    → map (map f) (cond t ([] ∷ parts) (onto_first x parts)) ≡ cond t ([] ∷ slice_split p (map f xs)) (onto_first (f x) (slice_split p (map f xs)))
split_one f p x true xs parts h = ap (λ r. [] ∷ r) h
split_one f p x false xs parts h = onto f x parts ∙ ap (onto_first (f x)) h

pub split_map : {A B : Type 0} (f : A → B) (p : B → Bool) (xs : List A) → map (map f) (slice_split (λ x. p (f x)) xs) ≡ slice_split p (map f xs)
split_map f p [] = refl
split_map f p (x ∷ xs) = split_one f p x (p (f x)) xs (slice_split (λ y. p (f y)) xs) (split_map f p xs)
