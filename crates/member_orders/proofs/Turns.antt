-- Turns are told apart by client and number.
use Rattle.std.proofs.Common.{◌≡◌, ℕ, ◌+◌, ◌<◌, Bool, true, false, cond, ◌==◌, ◌&&◌, List, length, Option, Some, None, is_some, get_or, set, nat_cmp, is_eq, refl, sym, ap, ap₂, ◌∙◌, arith, get_or-set_same, get_or-set_other}
use Rattle.std.specs.Option.{option_or}
use Rattle.std.specs.Ordering.{ordering_then}
use Rattle.std.specs.declared.cmp.Ordering.{Ordering}
use Rattle.std.specs.declared.cmp.Ordering.TheVariants.{Less, Equal, Greater}
use Rattle.std.specs.BTreeMap.{is_at}
use Rattle.std.proofs.lemmas.Bool.{eqb-true, eqb-false, and_parts}
use Rattle.std.proofs.lemmas.Bool.Decides.{nat_tests}
use Rattle.member_orders.specs.declared.orders.Turn.{Turn}
use Rattle.member_orders.specs.Views.{turn_cmp, is_turn}

then_equal : (x y : Ordering) → is_eq (ordering_then x y) ≡ (is_eq x && is_eq y)
then_equal Less y = refl
then_equal Equal y = refl
then_equal Greater y = refl

tie : (s k : ℕ) → is_eq (nat_cmp s k) ≡ (s == k)
tie s k = grind (arith, nat_tests)

abbrev pub turn : ℕ → ℕ → Turn
turn c n = record { client = c; number = n }

pub turn_test : (c n d k : ℕ) → is_at (turn_cmp (turn c n)) (turn d k) ≡ is_turn c n d k
turn_test c n d k = then_equal (nat_cmp c d) (nat_cmp n k) ∙ ap₂ (λ a b. a && b) (tie c d) (tie n k)

-- the first of a number that was not there
pub first_kept : (b : Bool) (o : Option (List ℕ)) (r : List ℕ) → (b ≡ true → o ≡ None) → cond b (Some r) o ≡ option_or o (cond b (Some r) None)
first_kept true o r f = sym (ap (λ u. option_or u (Some r)) (f refl))
first_kept false None r f = refl
first_kept false (Some q) r f = refl

-- the first of a number that is there
pub first_stays : (b : Bool) (o : Option (List ℕ)) (r : List ℕ) → (b ≡ true → is_some o ≡ true) → o ≡ option_or o (cond b (Some r) None)
first_stays b (Some q) r f = refl
first_stays true None r f = absurd (cc (f refl))
first_stays false None r f = refl

-- a test of a turn that passes
pub same_turn : {X : Type 0} (f : ℕ → ℕ → X) (c n d k : ℕ) → is_turn c n d k ≡ true → f d k ≡ f c n
same_turn f c n d k e =
    let parts = and_parts (c == d) (n == k) e in
    ap₂ f (sym (eqb-true c d parts.0)) (sym (eqb-true n k parts.1))

pub none_of : {X : Type 0} (o : Option X) → is_some o ≡ false → o ≡ None
none_of None e = refl
none_of (Some x) e = absurd (cc e)

-- one count is raised
pub raised : (counts : List ℕ) (c d : ℕ) → c < length counts → get_or (set counts c (get_or counts c 0 + 1)) d 0 ≡ cond (c == d) (get_or counts d 0 + 1) (get_or counts d 0)
raised counts c d low = by (c == d) refl
  where
    by : (b : Bool) → (c == d) ≡ b → get_or (set counts c (get_or counts c 0 + 1)) d 0 ≡ cond (c == d) (get_or counts d 0 + 1) (get_or counts d 0)
    by true e =
        let same = eqb-true c d e in
        ap (λ k. get_or (set counts c (get_or counts c 0 + 1)) k 0) (sym same) ∙ get_or-set_same counts c (get_or counts c 0 + 1) 0 low
        ∙ ap (λ k. get_or counts k 0 + 1) same ∙ sym (ap (λ b. cond b (get_or counts d 0 + 1) (get_or counts d 0)) e)
    by false e =
        get_or-set_other counts c d (get_or counts c 0 + 1) 0 (λ same. eqb-false c d e (sym same))
        ∙ sym (ap (λ b. cond b (get_or counts d 0 + 1) (get_or counts d 0)) e)
