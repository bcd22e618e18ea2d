-- What all of some parts give.
use Rattle.std.proofs.Common.{◌≡◌, ◌∷◌, [], ◌++◌, ◌≤◌, List, Bool, true, false, ◌&&◌, ◌⊎◌, inl, inr, length, Result, Ok, refl, sym, ◌∙◌, ap, arith, length-append}
use Rattle.std.specs.List.{list_all}
use Rattle.std.proofs.lemmas.List.Folds.{list_all-append}
use Rattle.script_terms.specs.declared.cause.Cause.{Cause}
use Rattle.script_grammar.specs.Results.{◌>>=◌}
use Rattle.script_grammar.specs.Update.{gathered}
use Rattle.script_grammar.proofs.Steps.{bind_ok}

pub and_true : (a b : Bool) → a ≡ true → b ≡ true → (a && b) ≡ true
and_true true true _ _ = refl
and_true true false _ e = absurd (cc)
and_true false b e _ = absurd (cc)

pub and_first : (a b : Bool) → (a && b) ≡ true → a ≡ true
and_first true b e = refl
and_first false b e = absurd (cc)

pub and_second : (a b : Bool) → (a && b) ≡ true → b ≡ true
and_second true b e = e
and_second false b e = absurd (cc)

pub and_three : (a b c : Bool) → (a && b && c) ≡ true → (a ≡ true) × (b ≡ true) × (c ≡ true)
and_three true true true e = (refl, refl, refl)
and_three true true false e = absurd (cc)
and_three true false c e = absurd (cc)
and_three false b c e = absurd (cc)

pub and_five : (a b c d f : Bool) → (a && b && c && d && f) ≡ true → (a ≡ true) × (b ≡ true) × (c ≡ true) × (d ≡ true) × (f ≡ true)
and_five true true true true true e = (refl, refl, refl, refl, refl)
and_five true true true true false e = absurd (cc)
and_five true true true false f e = absurd (cc)
and_five true true false d f e = absurd (cc)
and_five true false c d f e = absurd (cc)
and_five false b c d f e = absurd (cc)

-- where each part gives only what passes, all give only what passes
pub all_gathered : {X Y : Type 0} (f : X → Result (List Y) Cause) (p : Y → Bool) → ((x : X) (y : List Y) → f x ≡ Ok y → list_all p y ≡ true)
    → (xs : List X) (ys : List Y) → gathered f xs ≡ Ok ys → list_all p ys ≡ true
all_gathered f p h [] ys e = let same : [] ≡ ys = cc in ap (list_all p) (sym same)
all_gathered {Y = Y} f p h (x ∷ xs) ys e =
    let a = bind_ok (f x) (λ y. gathered f xs >>= λ rest. Ok (y ++ rest)) ys e in
    let b = bind_ok (gathered f xs) (λ rest. Ok (a.0 ++ rest)) ys a.2 in
    let same : a.0 ++ b.0 ≡ ys = cc in
    ap (list_all p) (sym same) ∙ (list_all-append p a.0 b.0 ∙ and_true (list_all p a.0) (list_all p b.0) (h x a.0 a.1) (all_gathered f p h xs b.0 b.1))

-- a part that gives something, where it gives anything
abbrev pub Gives : {X Y : Type 0} → (X → Result (List Y) Cause) → X → Type 0
Gives {Y = Y} f x = (y : List Y) → f x ≡ Ok y → 1 ≤ length y

-- one of the parts gives something
abbrev pub SomeGives : {X Y : Type 0} → (X → Result (List Y) Cause) → List X → Type 0
SomeGives f [] = ⊥
SomeGives f (x ∷ xs) = Gives f x ⊎ SomeGives f xs

pub some_gathered : {X Y : Type 0} (f : X → Result (List Y) Cause) (xs : List X) (ys : List Y) → SomeGives f xs → gathered f xs ≡ Ok ys → 1 ≤ length ys
some_gathered f [] ys h e = absurd h
some_gathered f (x ∷ xs) ys (inl h) e =
    let a = bind_ok (f x) (λ y. gathered f xs >>= λ rest. Ok (y ++ rest)) ys e in
    let b = bind_ok (gathered f xs) (λ rest. Ok (a.0 ++ rest)) ys a.2 in
    let same : a.0 ++ b.0 ≡ ys = cc in
    omega (arith, ap length same, length-append a.0 b.0, h a.0 a.1)
some_gathered f (x ∷ xs) ys (inr h) e =
    let a = bind_ok (f x) (λ y. gathered f xs >>= λ rest. Ok (y ++ rest)) ys e in
    let b = bind_ok (gathered f xs) (λ rest. Ok (a.0 ++ rest)) ys a.2 in
    let same : a.0 ++ b.0 ≡ ys = cc in
    omega (arith, ap length same, length-append a.0 b.0, some_gathered f xs b.0 h b.1)
