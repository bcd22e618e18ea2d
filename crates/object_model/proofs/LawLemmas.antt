-- The laws of objects.
use Rattle.std.proofs.Common.{◌≡◌, ℕ, zero, suc, ◌+◌, ◌-◌, ◌<◌, ◌≤◌, Bool, true, false, cond, List, [], ◌∷◌, ◌++◌, length, take, drop, map, filter, nat_le, Result, Ok, Err, refl, ap, subst, ◌∙◌, inl, inr, arith, length-append, length-drop, length-take-le, take-append-drop}
use Rattle.std.proofs.lemmas.Bool.{leb-true}
use Rattle.std.specs.List.{flat_map}
use Rattle.std.specs.Str.{bytes_eq}
use Rattle.guarded_update.specs.declared.update.Action.{Action}
use Rattle.guarded_update.specs.declared.update.Action.TheVariants.{Replace, Append, Truncate, Splice}
use Rattle.object_model.specs.Pieces.{pieces}
use Rattle.object_model.specs.Updates.{Refusal, OutOfRange, TooLong, act, and_then, act_all, largest, spliced}
use Rattle.object_model.specs.Folds.{Made, Effect, Makes, Refuses, Repeats, with_effect, versions_of}
use Rattle.object_model.specs.Laws.{IsOneMore}
use Rattle.object_model.proofs.PieceLemmas.{pieces_cons, pieces_nil}

-- the pieces joined are the list, where it has at most so many items
pub joined : {X : Type 0} (size n : ℕ) (xs : List X) → 0 < size → length xs ≤ n → flat_map (λ x. x) (pieces size xs) ≡ xs
joined size n [] p l = ap (flat_map (λ x. x)) (pieces_nil size p)
joined size zero (x ∷ xs) p l = absurd (omega arith)
joined size (suc n) (x ∷ xs) p l =
    let some : 0 < length (x ∷ xs) = omega arith in
    let less : length (drop size (x ∷ xs)) ≤ n = omega (arith, length-drop size (x ∷ xs)) in
    ap (flat_map (λ x. x)) (pieces_cons size (x ∷ xs) p some)
    ∙ ap (λ ys. take size (x ∷ xs) ++ ys) (joined size n (drop size (x ∷ xs)) p less)
    ∙ take-append-drop size (x ∷ xs)

-- what an effect on one label leaves of the versions of another or the same
pub with_effect_more : (label : List ℕ) (own : List ℕ) (e : Effect) (made : List Made) → IsOneMore (versions_of label made) (versions_of label (with_effect own e made))
with_effect_more label own (Makes content) made =
    elim (bytes_eq own label) as (λ b. IsOneMore (versions_of label made) (map (λ (m : Made). m.content) (cond b (record { label = own; content = content } ∷ filter (λ (m : Made). bytes_eq m.label label) made) (filter (λ (m : Made). bytes_eq m.label label) made)) ++ [] ∷ [])) [
      | true ↦ inr (content, refl)
      | false ↦ inl refl
    ]
with_effect_more label own (Refuses refusal) made = inl refl
with_effect_more label own Repeats made = inl refl

pub with_effect_other : (label : List ℕ) (own : List ℕ) (e : Effect) (made : List Made) → bytes_eq own label ≡ false → versions_of label (with_effect own e made) ≡ versions_of label made
with_effect_other label own (Makes content) made other =
    ap (λ b. map (λ (m : Made). m.content) (cond b (record { label = own; content = content } ∷ filter (λ (m : Made). bytes_eq m.label label) made) (filter (λ (m : Made). bytes_eq m.label label) made)) ++ [] ∷ []) other
with_effect_other label own (Refuses refusal) made other = refl
with_effect_other label own Repeats made other = refl

length-spliced : (offset remove : ℕ) (content bytes : List ℕ) → offset + remove ≤ length bytes → length (spliced offset remove content bytes) ≡ length bytes - remove + length content
length-spliced offset remove content bytes p =
    let front : length (take offset bytes) ≡ offset = length-take-le offset bytes (omega arith) in
    omega (arith, length-append (take offset bytes ++ content) (drop (offset + remove) bytes), length-append (take offset bytes) content, front, length-drop (offset + remove) bytes)

abbrev ok : List ℕ → Result (List ℕ) Refusal
ok bytes = Ok bytes

abbrev failed : Refusal → Result (List ℕ) Refusal
failed refusal = Err refusal

same_ok : (a b : List ℕ) → ok a ≡ ok b → a ≡ b
same_ok a b e = cc

no_ok : (refusal : Refusal) (a : List ℕ) → failed refusal ≡ ok a → ⊥
no_ok refusal a e = cc

-- a test that passed made bytes of an allowed length
short_if : (test : Bool) (bytes changed : List ℕ) (refusal : Refusal) → (test ≡ true → length bytes ≤ largest) → cond test (ok bytes) (failed refusal) ≡ ok changed → length changed ≤ largest
short_if true bytes changed refusal short e = subst (λ xs. length xs ≤ largest) (same_ok bytes changed e) (short refl)
short_if false bytes changed refusal short e = absurd (no_ok refusal changed e)

spliced_if : (within few : Bool) (bytes changed : List ℕ) → (within ≡ true → few ≡ true → length bytes ≤ largest)
    → cond within (cond few (ok bytes) (failed TooLong)) (failed OutOfRange) ≡ ok changed → length changed ≤ largest
spliced_if true few bytes changed short e = short_if few bytes changed TooLong (short refl) e
spliced_if false few bytes changed short e = absurd (no_ok OutOfRange changed e)

act_short : (action : Action) (bytes changed : List ℕ) → length bytes ≤ largest → act action bytes ≡ Ok changed → length changed ≤ largest
act_short (Replace offset content) bytes changed p e =
    short_if (nat_le (offset + length content) (length bytes)) (spliced offset (length content) content bytes) changed OutOfRange
    (λ within. let range : offset + length content ≤ length bytes = leb-true _ _ within in omega (arith, length-spliced offset (length content) content bytes range)) e
act_short (Append content) bytes changed p e =
    short_if (nat_le (length bytes + length content) largest) (bytes ++ content) changed TooLong
    (λ few. let most : length bytes + length content ≤ largest = leb-true _ _ few in omega (arith, length-append bytes content)) e
act_short (Truncate kept) bytes changed p e =
    short_if (nat_le kept (length bytes)) (take kept bytes) changed OutOfRange
    (λ within. let range : kept ≤ length bytes = leb-true _ _ within in omega (arith, length-take-le kept bytes range)) e
act_short (Splice offset remove content) bytes changed p e =
    spliced_if (nat_le (offset + remove) (length bytes)) (nat_le (length bytes - remove + length content) largest) (spliced offset remove content bytes) changed
    (λ within few.
    let range : offset + remove ≤ length bytes = leb-true _ _ within in
    let most : length bytes - remove + length content ≤ largest = leb-true _ _ few in
    omega (arith, length-spliced offset remove content bytes range)) e

-- a result whose value is passed on
passed_on : (first : Result (List ℕ) Refusal) (next : List ℕ → Result (List ℕ) Refusal) (changed : List ℕ)
    → ((middle : List ℕ) → first ≡ Ok middle → next middle ≡ Ok changed → length changed ≤ largest)
    → and_then first next ≡ ok changed → length changed ≤ largest
passed_on (Ok middle) next changed all e = all middle refl e
passed_on (Err refusal) next changed all e = absurd (no_ok refusal changed e)

pub act_all_short : (actions : List Action) (bytes changed : List ℕ) → length bytes ≤ largest → act_all actions bytes ≡ Ok changed → length changed ≤ largest
act_all_short [] bytes changed p e = subst (λ xs. length xs ≤ largest) (same_ok bytes changed e) p
act_all_short (action ∷ actions) bytes changed p e =
    passed_on (act action bytes) (act_all actions) changed (λ middle first rest. act_all_short actions middle changed (act_short action bytes middle p first) rest) e
