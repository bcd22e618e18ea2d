-- Entries after one is put for a request.
use Rattle.std.proofs.Common.{◌≡◌, ℕ, ◌+◌, ◌*◌, Bool, true, false, cond, ◌==◌, nat_le, List, ◌∷◌, Option, Some, None, refl, sym, ap, subst, ◌∙◌, arith}
use Rattle.std.specs.Option.{option_or}
use Rattle.std.specs.Ordering.{nat_cmp, is_eq}
use Rattle.std.specs.BTreeMap.{is_at}
use Rattle.std.proofs.lemmas.Bool.Decides.{nat_tests}
use Rattle.ring_model.specs.Messages.{Member, Reply, Letter, Ring}
use Rattle.ring_model.specs.History.{first_word, passing}
use Rattle.ring_model.specs.Belief.{believed, replied}
use Rattle.client_core.specs.declared.entry.Entry.{Entry}
use Rattle.client_core.specs.Replies.{kept_at, first_at, value_at, count_at, RepliesStand}

tie : (s k : ℕ) → is_eq (nat_cmp s k) ≡ (s == k)
tie s k = grind (arith, nat_tests)

pub cond_none : {X : Type 0} (b : Bool) → ◌≡◌ {A = Option X} None (cond b None None)
cond_none true = refl
cond_none false = refl

pub or_none : {X : Type 0} (x : Option X) → option_or x None ≡ x
or_none None = refl
or_none (Some x) = refl

module _ (f member number : ℕ) (string : List ℕ) (es fs : List (ℕ × Entry)) (new : Entry)
    (put : (k : ℕ) → kept_at fs k ≡ cond (is_at (nat_cmp number) k) (Some new) (kept_at es k)) where
  put_at : (n : ℕ) → kept_at fs n ≡ cond (number == n) (Some new) (kept_at es n)
  put_at n = put n ∙ ap (λ b. cond b (Some new) (kept_at es n)) (tie number n)

  same : (n : ℕ) → (number == n) ≡ true → number ≡ n
  same n e = grind (arith, nat_tests, e)

  pub put_firsts : ((j : ℕ) → first_at (Some new) j ≡ option_or (first_at (kept_at es number) j) (cond (member == j) (Some string) None))
      → (n j : ℕ) → first_at (kept_at fs n) j ≡ option_or (first_at (kept_at es n) j) (cond (member == j) (cond (number == n) (Some string) None) None)
  put_firsts firsts n j = ap (λ k. first_at k j) (put_at n) ∙ each (number == n) refl
    where
      each : (b : Bool) → (number == n) ≡ b → first_at (cond b (Some new) (kept_at es n)) j ≡ option_or (first_at (kept_at es n) j) (cond (member == j) (cond b (Some string) None) None)
      each true e = firsts j ∙ ap (λ k. option_or (first_at (kept_at es k) j) (cond (member == j) (Some string) None)) (same n e)
      each false e = sym (ap (option_or (first_at (kept_at es n) j)) (sym (cond_none (member == j))) ∙ or_none (first_at (kept_at es n) j))

  pub put_values : value_at (Some new) ≡ option_or (value_at (kept_at es number)) (passing (λ s. nat_le (f + 1) (count_at (3 * f + 1) (first_at (Some new)) s)) (Some string))
      → (n : ℕ) → value_at (kept_at fs n) ≡ option_or (value_at (kept_at es n)) (passing (λ s. nat_le (f + 1) (count_at (3 * f + 1) (first_at (kept_at fs n)) s)) (cond (number == n) (Some string) None))
  put_values values n =
      subst (λ k. value_at k ≡ option_or (value_at (kept_at es n)) (passing (λ s. nat_le (f + 1) (count_at (3 * f + 1) (first_at k) s)) (cond (number == n) (Some string) None)))
      (sym (put_at n)) (each (number == n) refl)
    where
      each : (b : Bool) → (number == n) ≡ b
          → value_at (cond b (Some new) (kept_at es n)) ≡ option_or (value_at (kept_at es n)) (passing (λ s. nat_le (f + 1) (count_at (3 * f + 1) (first_at (cond b (Some new) (kept_at es n))) s)) (cond b (Some string) None))
      each true e = values ∙ ap (λ k. option_or (value_at (kept_at es k)) (passing (λ s. nat_le (f + 1) (count_at (3 * f + 1) (first_at (Some new)) s)) (Some string))) (same n e)
      each false e = sym (or_none (value_at (kept_at es n)))

-- a member's reply more
pub replies_more : (g : Ring) (f member number : ℕ) (string : List ℕ) (es fs : List (ℕ × Entry)) (got : List Letter) → g.f ≡ f
    → ((n j : ℕ) → first_at (kept_at fs n) j ≡ option_or (first_at (kept_at es n) j) (cond (member == j) (cond (number == n) (Some string) None) None))
    → ((n : ℕ) → value_at (kept_at fs n) ≡ option_or (value_at (kept_at es n)) (passing (λ s. nat_le (f + 1) (count_at (3 * f + 1) (first_at (kept_at fs n)) s)) (cond (number == n) (Some string) None)))
    → RepliesStand g es got → RepliesStand g fs (record { from = Member member; message = Reply number string } ∷ got)
replies_more g f member number string es fs got faulty firsts values stands = record {
  firsts = first;
  values = λ n.
      values n
      ∙ ap (λ m. option_or (value_at (kept_at es n)) (passing (λ s. nat_le (m + 1) (count_at (3 * m + 1) (first_at (kept_at fs n)) s)) (cond (number == n) (Some string) None))) (sym faulty)
      ∙ ap (λ x. option_or x (passing (λ s. nat_le (g.f + 1) (count_at (3 * g.f + 1) (first_at (kept_at fs n)) s)) (cond (number == n) (Some string) None))) (stands.values n)
      ∙ ap (λ (words : ℕ → Option (List ℕ)). option_or (believed g (replied n) got) (passing (λ s. nat_le (g.f + 1) (count_at (3 * g.f + 1) words s)) (cond (number == n) (Some string) None))) (λ i j. first n j i);
} where
  first : (n j : ℕ) → first_at (kept_at fs n) j ≡ first_word (Member j) (replied n) (record { from = Member member; message = Reply number string } ∷ got)
  first n j = firsts n j ∙ ap (λ x. option_or x (cond (member == j) (cond (number == n) (Some string) None) None)) (stands.firsts n j)
