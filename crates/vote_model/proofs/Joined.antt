-- A cast beside a letter, and a count beside the members' first words.
use Rattle.std.proofs.Common.{◌≡◌, ℕ, zero, suc, ◌+◌, ◌*◌, ◌<◌, ◌≤◌, [], count_by, Bool, true, false, cond, List, ◌∷◌, Option, Some, None, refl, ap, ◌∙◌, arith, nat_lt, ◌==◌}
use Rattle.std.specs.Option.{option_or}
use Rattle.std.proofs.lemmas.Bool.Decides.{nat_tests}
use Rattle.ring_model.specs.Messages.{Letter, Message, Member, Client, Party, Ring, same_party}
use Rattle.ring_model.specs.History.{first_word, said_by, is_name}
use Rattle.quorum.specs.declared.phase.Phase.{Phase}
use Rattle.quorum.specs.declared.phase.Phase.TheVariants.{Prepare, Commit}
use Rattle.quorum.specs.Slots.{said}
use Rattle.quorum.specs.Windows.{said_above}
use Rattle.vote_model.specs.Joins.{says, letter, CastJoins, CountJoins}
use Rattle.std.specs.List.{range_with_len, AllByRecursion as Each}
use Rattle.std.proofs.lemmas.List.Sums.{sum_by-cons}
use Rattle.std.proofs.lemmas.Bool.{ne_eqb}
use Rattle.ring_model.specs.World.{IsParty}
use Rattle.quorum.specs.Tallies.{senders, count}
use Rattle.quorum.specs.Tallies as tallies

cond_none : {X : Type 0} (b : Bool) → ◌≡◌ {A = Option X} None (cond b None None)
cond_none true = refl
cond_none false = refl

one_said : (phase : Phase) (slot sender : ℕ) (name : List ℕ) (p : Phase) (s j : ℕ) → said phase slot sender name p s j ≡ said_by (Member j) (says p s) (letter phase sender slot name)
one_said Prepare slot sender name Prepare s j = refl
one_said Commit slot sender name Commit s j = refl
one_said Prepare slot sender name Commit s j = cond_none (sender == j)
one_said Commit slot sender name Prepare s j = cond_none (sender == j)

pub cast_joins : CastJoins
cast_joins v w got phase slot sender name agrees floor votes p s j high =
    let low : v.floor < s = omega arith in
    let above : nat_lt v.floor s ≡ true = grind (arith, nat_tests, low) in
    votes p s j
    ∙ ap (λ o. option_or o (said_above v.floor phase slot sender name p s j)) (agrees p s j low)
    ∙ ap (option_or (first_word (Member j) (says p s) got)) (ap (λ b. cond b (said phase slot sender name p s j) None) above ∙ one_said phase slot sender name p s j)

or_none : {X : Type 0} (o : Option X) → option_or o None ≡ o
or_none None = refl
or_none (Some x) = refl

silent : {Y : Type 0} (g : Ring) (say : Message → Option Y) (j : ℕ) → 3 * g.f + 1 ≤ j → (got : List Letter) → Each (λ l. IsParty g l.from) got → first_word (Member j) say got ≡ None
silent g say j high [] h = refl
silent g say j high (l ∷ got) h =
    ap (λ b. option_or (first_word (Member j) say got) (cond b (say l.message) None)) (other l.from h.0) ∙ or_none (first_word (Member j) say got) ∙ silent g say j high got h.1
  where
    other : (p : Party) → IsParty g p → same_party p (Member j) ≡ false
    other (Member i) low = ne_eqb i j (λ e. omega arith)
    other (Client c) low = refl

count_range : (t : ℕ → Bool) (n m a : ℕ) → n ≤ m → ((j : ℕ) → a + n ≤ j → t j ≡ false) → count_by t (range_with_len a m) ≡ count_by t (range_with_len a n)
count_range t zero zero a h f = refl
count_range t (suc n) zero a h f = absurd (omega arith)
count_range t zero (suc m) a h f =
    let no : cond (t a) 1 0 ≡ 0 = ap {B = ℕ} (λ b. cond b 1 0) (f a (omega arith)) in
    omega (arith, sum_by-cons (λ j. cond (t j) 1 0) a (range_with_len (a + 1) m), no, count_range t zero m (a + 1) (omega arith) (λ j k. f j (omega arith)))
count_range t (suc n) (suc m) a h f =
    omega (arith, sum_by-cons (λ j. cond (t j) 1 0) a (range_with_len (a + 1) m), sum_by-cons (λ j. cond (t j) 1 0) a (range_with_len (a + 1) n), count_range t n m (a + 1) (omega arith) (λ j k. f j (omega arith)))

same_name : (d : List ℕ) (o : Option (List ℕ)) → tallies.is_name d o ≡ is_name d o
same_name d None = refl
same_name d (Some e) = refl

pub count_joins : CountJoins
unfolding senders
count_joins g v got p s d few known agrees high =
    ap (λ (t : ℕ → Bool). count_by t (range_with_len 0 10)) (λ i j. (ap (tallies.is_name d) (agrees p s j high) ∙ same_name d (first_word (Member j) (says p s) got)) i)
    ∙ count_range (λ j. is_name d (first_word (Member j) (says p s) got)) (3 * g.f + 1) 10 0 (omega arith) (λ j above. ap (is_name d) (silent g (says p s) j (omega arith) got known))
