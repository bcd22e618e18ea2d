-- Histories, whose newest entry stands first: what was said stays said.
use Rattle.std.proofs.Common.{◌≡◌, ℕ, zero, suc, ◌+◌, ◌≤◌, Bool, true, false, cond, ◌&&◌, ◌||◌, nat_le, List, [], ◌∷◌, ◌++◌, length, take, slice_get, count_by, Option, Some, None, ◌⊎◌, inl, inr, refl, sym, ap, ◌∙◌, subst, arith, append_assoc, append-nil}
use Rattle.std.specs.List.{list_any, AllByRecursion as Each}
use Rattle.std.specs.Option.{option_or}
use Rattle.std.proofs.lemmas.List.Sums.{sum_by-le-sum_by}
use Rattle.std.proofs.lemmas.Bool.{and_parts, and_from, leb-true, le-leb}
use Rattle.std.proofs.lemmas.Slice.Eq.{bytes_eq-Decides}
use Rattle.ring_model.specs.Messages.{Ring, Letter, Message, Member, members}
use Rattle.ring_model.specs.History.{first_said, said_by, first_word, is_name, voters, passing, go_on, run_of}
use Rattle.ring_model.specs.Member.{first_of}
use Rattle.ring_model.specs.Laws.{IsPrefix}

pub same_some : {Y : Type 0} (x y : Y) → Some x ≡ Some y → x ≡ y
same_some x y e = cc

pub cond_some : {Y : Type 0} (b : Bool) (x y : Y) → cond b (Some x) None ≡ Some y → (b ≡ true) × (x ≡ y)
cond_some true x y e = (refl, same_some x y e)
cond_some false x y e = absurd (cc e)

-- ---- Each

pub Each-weaker : {X : Type 0} (P Q : X → Type 0) → ((x : X) → P x → Q x) → (xs : List X) → Each P xs → Each Q xs
Each-weaker P Q f [] h = tt
Each-weaker P Q f (x ∷ xs) h = (f x h.0, Each-weaker P Q f xs h.1)

pub Each-append : {X : Type 0} (P : X → Type 0) (xs ys : List X) → Each P xs → Each P ys → Each P (xs ++ ys)
Each-append P [] ys h k = k
Each-append P (x ∷ xs) ys h k = (h.0, Each-append P xs ys h.1 k)

pub Each-at : {X : Type 0} (P : X → Type 0) (xs : List X) (k : ℕ) (x : X) → Each P xs → slice_get xs k ≡ Some x → P x
Each-at P [] k x h e = absurd (cc e)
Each-at P (y ∷ xs) zero x h e = subst P (same_some y x e) h.0
Each-at P (y ∷ xs) (suc k) x h e = Each-at P xs k x h.1 e

-- ---- what is said first

pub said_stays : {X Y : Type 0} (say : X → Option Y) (x : X) (older : List X) (y : Y) → first_said say older ≡ Some y → first_said say (x ∷ older) ≡ Some y
said_stays say x older y e = ap (λ o. option_or o (say x)) e

-- what is said first has what each thing said has
pub said_holds : {X Y : Type 0} (say : X → Option Y) (P : X → Type 0) (Q : Y → Type 0) → ((x : X) (y : Y) → P x → say x ≡ Some y → Q y)
    → (xs : List X) (y : Y) → Each P xs → first_said say xs ≡ Some y → Q y
said_holds say P Q f [] y h e = absurd (cc e)
said_holds {Y = Y} say P Q f (x ∷ older) y h e =
    elim (first_said say older) as (λ (o : Option Y). first_said say older ≡ o → option_or o (say x) ≡ Some y → Q y) [
      | None ↦ λ _ now. f x y h.0 now
      | Some z ↦ λ before now. said_holds say P Q f older y h.1 (before ∙ now)
    ] refl e

pub any_holds : {X : Type 0} (t : X → Bool) (P : X → Type 0) (Q : Type 0) → ((x : X) → P x → t x ≡ true → Q)
    → (xs : List X) → Each P xs → list_any t xs ≡ true → Q
any_holds t P Q f [] h e = absurd (cc e)
any_holds t P Q f (x ∷ xs) h e =
    elim (t x) as (λ b. t x ≡ b → (b || list_any t xs) ≡ true → Q) [
      | true ↦ λ now _. f x h.0 now
      | false ↦ λ _ rest. any_holds t P Q f xs h.1 rest
    ] refl e

-- ---- what passes a test

pub passing_parts : {Y : Type 0} (p : Y → Bool) (o : Option Y) (y : Y) → passing p o ≡ Some y → (o ≡ Some y) × (p y ≡ true)
passing_parts p None y e = absurd (cc e)
passing_parts {Y} p (Some x) y e =
    elim (p x) as (λ b. p x ≡ b → cond b (Some x) None ≡ Some y → (Some x ≡ Some y) × (p y ≡ true)) [
      | true ↦ λ yes now. (now, subst (λ z. p z ≡ true) (same_some x y now) yes)
      | false ↦ λ _ now. absurd (cc now)
    ] refl e

pub passing_from : {Y : Type 0} (p : Y → Bool) (o : Option Y) (y : Y) → o ≡ Some y → p y ≡ true → passing p o ≡ Some y
passing_from p o y e t = ap (passing p) e ∙ ap (λ b. cond b (Some y) None) t

pub passing_stays : {Y : Type 0} (p q : Y → Bool) (o u : Option Y) (y : Y) → (o ≡ Some y → u ≡ Some y) → (p y ≡ true → q y ≡ true) → passing p o ≡ Some y → passing q u ≡ Some y
passing_stays p q o u y f t e = let parts = passing_parts p o y e in passing_from q u y (f parts.0) (t parts.1)

-- ---- votes

pub is_name_true : (d : List ℕ) (o : Option (List ℕ)) → is_name d o ≡ true → o ≡ Some d
is_name_true d None e = absurd (cc e)
is_name_true d (Some x) e = ap Some ((bytes_eq-Decides x d).0 e)

is_name_stays : (d : List ℕ) (o u : Option (List ℕ)) → is_name d o ≡ true → is_name d (option_or o u) ≡ true
is_name_stays d None u e = absurd (cc e)
is_name_stays d (Some x) u e = e

one_more : (a b : Bool) → (a ≡ true → b ≡ true) → cond a 1 0 ≤ cond b 1 0
one_more true true f = omega arith
one_more true false f = absurd (cc (f refl))
one_more false true f = omega arith
one_more false false f = omega arith

-- a test that passes wherever another does passes as often
pub count_grows : {X : Type 0} (p q : X → Bool) (xs : List X) → ((x : X) → p x ≡ true → q x ≡ true) → count_by p xs ≤ count_by q xs
count_grows p q xs f = sum_by-le-sum_by (λ x. cond (p x) 1 0) (λ x. cond (q x) 1 0) xs (λ x. one_more (p x) (q x) (f x))

pub voters_grow : (g : Ring) (say : Message → Option (List ℕ)) (d : List ℕ) (l : Letter) (older : List Letter) → voters g say d older ≤ voters g say d (l ∷ older)
voters_grow g say d l older =
    count_grows (λ j. is_name d (first_word (Member j) say older)) (λ j. is_name d (first_word (Member j) say (l ∷ older))) (members g)
    (λ j. is_name_stays d (first_word (Member j) say older) (said_by (Member j) say l))

pub enough_grows : (n a b : ℕ) → a ≤ b → nat_le n a ≡ true → nat_le n b ≡ true
enough_grows n a b h e = le-leb n b (omega (arith, leb-true n a e))

-- ---- prefixes and runs

pub prefix_self : {Y : Type 0} (xs : List Y) → IsPrefix xs xs
prefix_self xs = ([], append-nil xs)

pub prefix_cons : {Y : Type 0} (y : Y) (xs ys : List Y) → IsPrefix xs ys → IsPrefix (y ∷ xs) (y ∷ ys)
prefix_cons y xs ys h = (h.0, ap (λ zs. y ∷ zs) h.1)

pub prefix_trans : {Y : Type 0} (xs ys zs : List Y) → IsPrefix xs ys → IsPrefix ys zs → IsPrefix xs zs
prefix_trans xs ys zs h k = (h.0 ++ k.0, sym (append_assoc xs h.0 k.0) ∙ ap (λ us. us ++ k.0) h.1 ∙ k.1)

-- a run of more has the run as a prefix
pub run_grows : {Y : Type 0} (a b : ℕ → Option Y) → ((s : ℕ) (y : Y) → a s ≡ Some y → b s ≡ Some y) → (n s : ℕ) → IsPrefix (run_of a n s) (run_of b n s)
run_grows a b f zero s = ([], refl)
run_grows {Y} a b f (suc n) s =
    elim (a s) as (λ o. a s ≡ o → IsPrefix (go_on o (run_of a n (s + 1))) (go_on (b s) (run_of b n (s + 1)))) [
      | None ↦ λ _. (go_on (b s) (run_of b n (s + 1)), refl)
      | Some y ↦ λ e. subst (λ o. IsPrefix (y ∷ run_of a n (s + 1)) (go_on o (run_of b n (s + 1)))) (sym (f s y e)) (prefix_cons y (run_of a n (s + 1)) (run_of b n (s + 1)) (run_grows a b f n (s + 1)))
    ] refl

-- runs that never differ where both go on are prefixes of one another
pub run_agrees : {Y : Type 0} (a b : ℕ → Option Y) → ((s : ℕ) (y z : Y) → a s ≡ Some y → b s ≡ Some z → y ≡ z)
    → (n s : ℕ) → IsPrefix (run_of a n s) (run_of b n s) ⊎ IsPrefix (run_of b n s) (run_of a n s)
run_agrees a b f zero s = inl ([], refl)
run_agrees {Y} a b f (suc n) s = both (a s) (b s) refl refl (run_agrees a b f n (s + 1))
  where
    both : (o u : Option Y) → a s ≡ o → b s ≡ u → IsPrefix (run_of a n (s + 1)) (run_of b n (s + 1)) ⊎ IsPrefix (run_of b n (s + 1)) (run_of a n (s + 1))
        → IsPrefix (go_on o (run_of a n (s + 1))) (go_on u (run_of b n (s + 1))) ⊎ IsPrefix (go_on u (run_of b n (s + 1))) (go_on o (run_of a n (s + 1)))
    both None u _ _ _ = inl (go_on u (run_of b n (s + 1)), refl)
    both (Some y) None _ _ _ = inr (y ∷ run_of a n (s + 1), refl)
    both (Some y) (Some z) p q (inl h) = inl (subst (λ x. IsPrefix (y ∷ run_of a n (s + 1)) (x ∷ run_of b n (s + 1))) (f s y z p q) (prefix_cons y (run_of a n (s + 1)) (run_of b n (s + 1)) h))
    both (Some y) (Some z) p q (inr h) = inr (subst (λ x. IsPrefix (x ∷ run_of b n (s + 1)) (y ∷ run_of a n (s + 1))) (f s y z p q) (prefix_cons y (run_of b n (s + 1)) (run_of a n (s + 1)) h))

-- what each place has, each entry of a run has
pub run_holds : {Y : Type 0} (a : ℕ → Option Y) (P : Y → Type 0) → ((s : ℕ) (y : Y) → a s ≡ Some y → P y) → (n s : ℕ) → Each P (run_of a n s)
run_holds a P f zero s = tt
run_holds {Y} a P f (suc n) s =
    elim (a s) as (λ o. a s ≡ o → Each P (go_on o (run_of a n (s + 1)))) [
      | None ↦ λ _. tt
      | Some y ↦ λ e. (f s y e, run_holds a P f n (s + 1))
    ] refl

-- ---- the first of a list

pub first_of_parts : {Y : Type 0} (s : ℕ) (xs ys : List Y) → first_of s xs ≡ Some ys → (1 ≤ s) × (s ≤ length xs) × (take s xs ≡ ys)
first_of_parts s xs ys e =
    let h = cond_some (nat_le 1 s && nat_le s (length xs)) (take s xs) ys e in
    let p = and_parts (nat_le 1 s) (nat_le s (length xs)) h.0 in
    (leb-true 1 s p.0, leb-true s (length xs) p.1, h.1)

pub first_of_from : {Y : Type 0} (s : ℕ) (xs : List Y) → 1 ≤ s → s ≤ length xs → first_of s xs ≡ Some (take s xs)
first_of_from s xs low high = ap (λ b. cond b (Some (take s xs)) None) (and_from (nat_le 1 s) (nat_le s (length xs)) (le-leb 1 s low) (le-leb s (length xs) high))
