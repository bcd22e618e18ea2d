-- What is kept of slots, and the first votes that are seen of it.
use Rattle.std.proofs.Common.{◌≡◌, ℕ, ◌<◌, ◌≤◌, Bool, true, false, cond, ◌==◌, ◌||◌, ◌^◌, List, [], ◌∷◌, Option, Some, None, is_some, refl, sym, ap, subst, ◌∙◌, arith, nat_le, nat_lt}
use Rattle.std.specs.Option.{option_or}
use Rattle.std.specs.Ordering.{nat_cmp}
use Rattle.std.specs.Cmp.{nat_cmp_total}
use Rattle.std.specs.List.{range_with_len}
use Rattle.std.specs.BTreeMap.{is_at}
use Rattle.std.specs.FinMap.{find, get, from_entries, get-from_entries}
use Rattle.std.proofs.lemmas.List.Folds.{list_any_at}
use Rattle.std.proofs.lemmas.List.FromFn.{get_or-range_with_len, length-range_with_len}
use Rattle.std.proofs.lemmas.Bool.Decides.{nat_tests}
use Rattle.quorum.specs.declared.phase.Phase.{Phase}
use Rattle.quorum.specs.declared.phase.Phase.TheVariants.{Prepare, Commit}
use Rattle.quorum.specs.declared.slot.Slot.{Slot}
use Rattle.quorum.specs.Tallies.{senders, count}
use Rattle.quorum.specs.Slots.{is_phase, first_in, said, is_voted, kept_at, IsKept}
use Rattle.quorum.specs.Windows.{Slots, Votes, first, said_above, has_vote}

find_is : (es : List (ℕ × Slot)) (s : ℕ) → find nat_cmp s es ≡ kept_at es s
find_is [] s = refl
find_is (e ∷ es) s = ap (cond (is_at (nat_cmp s) e.0) (Some e.1)) (find_is es s)

pub get_kept : (es : List (ℕ × Slot)) (s : ℕ) → get (from_entries {R = nat_cmp} es) s ≡ kept_at es s
get_kept es s = get-from_entries nat_cmp_total es s ∙ find_is es s

-- the first votes of a window whose slots these are
pub first_is : (v : Votes) (es : List (ℕ × Slot)) → from_entries es ≡ v.slots → (p : Phase) (s j : ℕ) → first v p s j ≡ first_in (kept_at es s) p j
first_is v es same p s j = ap (λ (m : Slots). first_in (get m s) p j) (sym same) ∙ ap (λ o. first_in o p j) (get_kept es s)

-- the first votes that are seen of what is kept
pub first_of : (floor : ℕ) (es : List (ℕ × Slot)) (p : Phase) (s j : ℕ) → first (record { floor = floor; slots = from_entries es }) p s j ≡ first_in (kept_at es s) p j
first_of floor es p s j = ap (λ o. first_in o p j) (get_kept es s)

pub has_vote_is : (v : Votes) (es : List (ℕ × Slot)) → from_entries es ≡ v.slots → (s : ℕ) → has_vote v s ≡ is_voted (first_in (kept_at es s))
has_vote_is v es same s = ap is_voted (λ i p j. first_is v es same p s j i)

pub is_none : {X : Type 0} (o : Option X) → is_some o ≡ false → o ≡ None
is_none None e = refl
is_none (Some x) e = absurd (cc e)

pub blank : is_voted (first_in None) ≡ false
unfolding senders
blank = refl

pub count_blank : (p : Phase) (name : List ℕ) → count (first_in None p) name ≡ 0
unfolding senders
count_blank p name = refl

-- a slot at which a sender has a vote
pub voted_by : (votes : Phase → ℕ → Option (List ℕ)) (p : Phase) (j : ℕ) → j < 10 → is_some (votes p j) ≡ true → is_voted votes ≡ true
unfolding senders
voted_by votes p j h e =
    list_any_at (λ k. is_some (votes Prepare k) || is_some (votes Commit k)) (range_with_len 0 10) j 0 (omega (arith, length-range_with_len 0 10))
    (ap (λ k. is_some (votes Prepare k) || is_some (votes Commit k)) (get_or-range_with_len 0 10 j 0 h ∙ omega arith) ∙ either p e)
  where
    either : (q : Phase) → is_some (votes q j) ≡ true → (is_some (votes Prepare j) || is_some (votes Commit j)) ≡ true
    either Prepare h = grind (arith, h)
    either Commit h = grind (arith, h)

-- nothing is kept at or below the floor
pub dropped : (floor : ℕ) (es : List (ℕ × Slot)) → IsKept floor es → (s : ℕ) → s ≤ floor → kept_at es s ≡ None
dropped floor es is s low =
    elim (is_some (kept_at es s)) as (λ b. is_some (kept_at es s) ≡ b → kept_at es s ≡ None) [
      | true ↦ λ e. absurd (omega (arith, is.above s e))
      | false ↦ is_none (kept_at es s)
    ] refl

pub kept_nothing : (floor : ℕ) (es : List (ℕ × Slot)) → es ≡ [] → IsKept floor es
kept_nothing floor es empty = subst (IsKept floor) (sym empty) (record { above = λ s e. absurd (cc e); within = λ s e. absurd (cc e); voted = λ s. sym blank })

-- the slots above a floor that rises
pub kept_above : (floor new : ℕ) (es fs : List (ℕ × Slot)) → ((s : ℕ) → kept_at fs s ≡ cond (nat_le s new) None (kept_at es s)) → IsKept floor es → IsKept new fs
kept_above floor new es fs rest is = record {
  above = λ s e. high (nat_le s new) (kept_at es s) refl (sym (ap is_some (rest s)) ∙ e);
  within = λ s e. is.within s (held (nat_le s new) (kept_at es s) (sym (ap is_some (rest s)) ∙ e));
  voted = λ s. ap is_some (rest s) ∙ each (nat_le s new) (kept_at es s) (is.voted s) ∙ ap (λ o. is_voted (first_in o)) (sym (rest s));
} where
  held : (b : Bool) (o : Option Slot) → is_some (cond b None o) ≡ true → is_some o ≡ true
  held true o e = absurd (cc e)
  held false o e = e

  high : {s : ℕ} (b : Bool) (o : Option Slot) → nat_le s new ≡ b → is_some (cond b None o) ≡ true → new < s
  high true o t e = absurd (cc e)
  high {s} false o t e = grind (arith, nat_tests, t)

  each : (b : Bool) (o : Option Slot) → is_some o ≡ is_voted (first_in o) → is_some (cond b None o) ≡ is_voted (first_in (cond b None o))
  each true o e = sym blank
  each false o e = e

or_none : {X : Type 0} (o : Option X) → option_or o None ≡ o
or_none None = refl
or_none (Some x) = refl

some_or : {X : Type 0} (o : Option X) (x : X) → is_some (option_or o (Some x)) ≡ true
some_or None x = refl
some_or (Some y) x = refl

or_true : (b : Bool) → (b || true) ≡ true
or_true true = refl
or_true false = refl

or_false : (b : Bool) → (b || false) ≡ b
or_false true = refl
or_false false = refl

-- the slots after a vote for a slot above the floor
module _ (floor seq sender : ℕ) (phase : Phase) (name : List ℕ) (es fs : List (ℕ × Slot)) (high : floor < seq) (few : sender < 10) (narrow : seq < 2 ^ 32)
    (votes : (p : Phase) (s j : ℕ) → first_in (kept_at fs s) p j ≡ option_or (first_in (kept_at es s) p j) (said phase seq sender name p s j))
    (kept : (s : ℕ) → is_some (kept_at fs s) ≡ (is_some (kept_at es s) || seq == s)) (is : IsKept floor es) where
  -- a slot that is kept then was so before, or is the vote's
  new_or_old : (P : ℕ → Type 0) → P seq → ((s : ℕ) → is_some (kept_at es s) ≡ true → P s) → (s : ℕ) → is_some (kept_at fs s) ≡ true → P s
  new_or_old P new old s e = each (is_some (kept_at es s)) (seq == s) refl refl (sym (kept s) ∙ e)
    where
      each : (a b : Bool) → is_some (kept_at es s) ≡ a → (seq == s) ≡ b → (a || b) ≡ true → P s
      each true b p q t = old s p
      each false true p q t = let same : seq ≡ s = grind (arith, nat_tests, q) in subst P same new
      each false false p q t = absurd (cc t)

  each_voted : (s : ℕ) (b : Bool) → (seq == s) ≡ b → is_some (kept_at fs s) ≡ is_voted (first_in (kept_at fs s))
  each_voted s true e =
      kept s ∙ ap (λ b. is_some (kept_at es s) || b) e ∙ or_true (is_some (kept_at es s))
      ∙ sym (voted_by (first_in (kept_at fs s)) phase sender few
      (ap is_some (votes phase s sender ∙ ap (option_or (first_in (kept_at es s) phase sender)) (own phase (sender == sender) (seq == s) (grind (arith, nat_tests)) e))
      ∙ some_or (first_in (kept_at es s) phase sender) name))
    where
      own : (p : Phase) (a b : Bool) → a ≡ true → b ≡ true → cond (is_phase p p) (cond a (cond b (Some name) None) None) None ≡ Some name
      own Prepare a b h k = ap (λ x. cond x (cond b (Some name) None) None) h ∙ ap (λ x. cond x (Some name) None) k
      own Commit a b h k = ap (λ x. cond x (cond b (Some name) None) None) h ∙ ap (λ x. cond x (Some name) None) k
  each_voted s false e =
      kept s ∙ ap (λ b. is_some (kept_at es s) || b) e ∙ or_false (is_some (kept_at es s)) ∙ is.voted s
      ∙ ap is_voted (λ i p j. (sym (votes p s j ∙ ap (option_or (first_in (kept_at es s) p j)) (other (is_phase phase p) (sender == j) (seq == s) e) ∙ or_none (first_in (kept_at es s) p j))) i)
    where
      other : (a b c : Bool) → c ≡ false → cond a (cond b (cond c (Some name) None) None) None ≡ None
      other true true c e = ap (λ x. cond x (Some name) None) e
      other true false c e = refl
      other false b c e = refl

  pub kept_cast : IsKept floor fs
  kept_cast = record {
    above = new_or_old (λ s. floor < s) high is.above;
    within = new_or_old (λ s. s < 2 ^ 32) narrow is.within;
    voted = λ s. each_voted s (seq == s) refl;
  }

pub first_above : (b : Bool) (o : Option Slot) (p : Phase) (j : ℕ) → first_in (cond b None o) p j ≡ cond b None (first_in o p j)
first_above true o p j = refl
first_above false o p j = refl

-- how many senders have a name as their first vote for a slot of which this is kept
pub count_is : (v : Votes) (es : List (ℕ × Slot)) → from_entries es ≡ v.slots → (p : Phase) (s : ℕ) (o : Option Slot) → kept_at es s ≡ o → (name : List ℕ) → count (first v p s) name ≡ count (first_in o p) name
count_is v es same p s o found name = ap (λ f. count f name) (λ i j. (first_is v es same p s j ∙ ap (λ x. first_in x p j) found) i)

-- what a vote for a slot above a floor says
above_floor : (floor : ℕ) (phase : Phase) (seq sender : ℕ) (name : List ℕ) → floor < seq → (p : Phase) (s j : ℕ) → said phase seq sender name p s j ≡ said_above floor phase seq sender name p s j
above_floor floor phase seq sender name high p s j = each (is_phase phase p) (sender == j) (seq == s) (nat_lt floor s) (λ e. grind (arith, nat_tests, e, high))
  where
    each : (a b c d : Bool) → (c ≡ true → d ≡ true) → cond a (cond b (cond c (Some name) None) None) None ≡ cond d (cond a (cond b (cond c (Some name) None) None) None) None
    each a b true d h = ap (λ x. cond x (cond a (cond b (Some name) None) None) None) (sym (h refl))
    each true true false true h = refl
    each true true false false h = refl
    each true false false true h = refl
    each true false false false h = refl
    each false b false true h = refl
    each false b false false h = refl

-- the first votes of a window after a vote above its floor
pub first_cast : (v w : Votes) (es fs : List (ℕ × Slot)) → from_entries es ≡ v.slots → from_entries fs ≡ w.slots → (phase : Phase) (seq sender : ℕ) (name : List ℕ) → v.floor < seq
    → ((p : Phase) (s j : ℕ) → first_in (kept_at fs s) p j ≡ option_or (first_in (kept_at es s) p j) (said phase seq sender name p s j))
    → (p : Phase) (s j : ℕ) → first w p s j ≡ option_or (first v p s j) (said_above v.floor phase seq sender name p s j)
first_cast v w es fs was now phase seq sender name high votes p s j =
    first_is w fs now p s j ∙ votes p s j
    ∙ ap (λ o. option_or o (said phase seq sender name p s j)) (sym (first_is v es was p s j))
    ∙ ap (option_or (first v p s j)) (above_floor v.floor phase seq sender name high p s j)
