-- The lengths that actions leave.
use Rattle.std.proofs.Common.{◌≡◌, ℕ, ◌+◌, ◌-◌, ◌≤◌, List, [], ◌∷◌, ◌++◌, length, take, drop, nat_le, Bool, true, false, cond, Result, Ok, Err, refl, ap, ◌∙◌, arith}
use Rattle.std.proofs.lemmas.Bool.{leb-true}
use Rattle.std.proofs.lemmas.List.{length-take, length-drop, length-append}
use Rattle.guarded_update.specs.declared.update.Action.{Action}
use Rattle.guarded_update.specs.declared.update.Action.TheVariants.{Replace, Append, Truncate, Splice}
use Rattle.object_model.specs.Updates.{act, and_then, act_all, spliced, largest, Refusal, OutOfRange, TooLong}
use Rattle.object_fold.specs.Choice.{length_after, length_after_all, measured}

either : (b : Bool) (xs : List ℕ) (n : ℕ) (r : Refusal) → (b ≡ true → length xs ≡ n) → measured (cond b (Ok xs) (Err r)) ≡ cond b (Ok n) (Err r)
either true xs n r same = ap (λ k. Ok k) (same refl)
either false xs n r same = refl

either_of_two : (a b : Bool) (xs : List ℕ) (n : ℕ) → (a ≡ true → length xs ≡ n) → measured (cond a (cond b (Ok xs) (Err TooLong)) (Err OutOfRange)) ≡ cond a (cond b (Ok n) (Err TooLong)) (Err OutOfRange)
either_of_two true b xs n same = either b xs n TooLong (λ _. same refl)
either_of_two false b xs n same = refl

length-spliced : (offset remove : ℕ) (content bytes : List ℕ) → offset + remove ≤ length bytes → length (spliced offset remove content bytes) ≡ length bytes - remove + length content
length-spliced offset remove content bytes within =
    omega (arith, length-append (take offset bytes ++ content) (drop (offset + remove) bytes), length-append (take offset bytes) content, length-append (take offset bytes) (content ++ drop (offset + remove) bytes), length-append content (drop (offset + remove) bytes), length-take offset bytes, length-drop (offset + remove) bytes)

one_length : (action : Action) (bytes : List ℕ) → measured (act action bytes) ≡ length_after action (length bytes)
one_length (Replace offset content) bytes =
    either (nat_le (offset + length content) (length bytes)) (spliced offset (length content) content bytes) (length bytes) OutOfRange
    (λ t. let within = leb-true (offset + length content) (length bytes) t in omega (arith, within, length-spliced offset (length content) content bytes within))
one_length (Append content) bytes =
    ap measured (ap (λ n. cond (nat_le n largest) (Ok (bytes ++ content)) (Err TooLong)) refl)
    ∙ either (nat_le (length bytes + length content) largest) (bytes ++ content) (length bytes + length content) TooLong (λ t. length-append bytes content)
one_length (Truncate kept) bytes =
    either (nat_le kept (length bytes)) (take kept bytes) kept OutOfRange (λ t. let within = leb-true kept (length bytes) t in omega (arith, within, length-take kept bytes))
one_length (Splice offset remove content) bytes =
    either_of_two (nat_le (offset + remove) (length bytes)) (nat_le (length bytes - remove + length content) largest) (spliced offset remove content bytes) (length bytes - remove + length content)
    (λ t. length-spliced offset remove content bytes (leb-true (offset + remove) (length bytes) t))

goes_on : (r : Result (List ℕ) Refusal) (n : Result ℕ Refusal) (f : List ℕ → Result (List ℕ) Refusal) (g : ℕ → Result ℕ Refusal) → measured r ≡ n → ((bytes : List ℕ) → measured (f bytes) ≡ g (length bytes))
    → measured (and_then r f) ≡ elim n as (λ _. Result ℕ Refusal) [ Ok left ↦ g left | Err refusal ↦ Err refusal ]
goes_on (Ok bytes) n f g e same = same bytes ∙ ap (λ m. elim m as (λ _. Result ℕ Refusal) [ Ok left ↦ g left | Err refusal ↦ Err refusal ]) e
goes_on (Err x) n f g e same = ap (λ m. elim m as (λ _. Result ℕ Refusal) [ Ok left ↦ g left | Err refusal ↦ Err refusal ]) e

-- the length of what actions make is the length that they leave
pub all_lengths : (actions : List Action) (bytes : List ℕ) → measured (act_all actions bytes) ≡ length_after_all actions (length bytes)
all_lengths [] bytes = refl
all_lengths (action ∷ actions) bytes = goes_on (act action bytes) (length_after action (length bytes)) (act_all actions) (length_after_all actions) (one_length action bytes) (all_lengths actions)
