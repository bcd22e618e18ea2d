-- What is kept decides what the letters do.
use Rattle.std.proofs.Common.{◌≡◌, ℕ, ◌+◌, ◌*◌, ◌<◌, Bool, true, false, cond, nat_le, List, length, Option, Some, None, is_some, option_map, ◌⊎◌, inl, inr, refl, sym, ap, ◌∙◌, arith}
use Rattle.std.specs.List.{list_any}
use Rattle.quorum.specs.declared.phase.Phase.{Phase}
use Rattle.quorum.specs.declared.phase.Phase.TheVariants as phase
use Rattle.ring_model.specs.Messages.{Ring, Letter, Member}
use Rattle.ring_model.specs.History.{first_word, voters, passing}
use Rattle.ring_model.specs.Member.{pre_prepares, prepares, commits, asks, endorsed, prepared, committed}
use Rattle.vote_model.specs.Joins.{says}
use Rattle.vote_model.proofs.Joined.{count_joins}
use Rattle.ring_member.specs.Views.{View, and_then, proposal, endorsed_in, is_voted, prepared_in, committed_in, ready_in}
use Rattle.ring_member.specs.Standing.{Live}

passing_map : {X Y : Type 0} (h : X → Y) (p : Y → Bool) (q : X → Bool) (o : Option X) → ((x : X) → p (h x) ≡ q x) → passing p (option_map h o) ≡ option_map h (passing q o)
passing_map h p q None e = refl
passing_map {X} {Y} h p q (Some x) e = ap (λ b. cond b (Some (h x)) None) (e x) ∙ each (q x)
  where
    each : (b : Bool) → cond b (Some (h x)) None ≡ option_map h (cond b (Some x) None)
    each true = refl
    each false = refl

pub endorsed_is : (g : Ring) (f : ℕ) (v : View) (got : List Letter) (s : ℕ) → Live g f v got → length v.done < s → endorsed_in v s ≡ option_map g.h (endorsed g got s)
endorsed_is g f v got s live high = ap (λ o. and_then o v.name) (live.proposed s high) ∙ by (first_word (Member 0) (pre_prepares s) got)
  where
    each : (r : List ℕ) (b : Bool) → cond b (Some (g.h r)) None ≡ option_map g.h (cond b (Some r) None)
    each r true = refl
    each r false = refl

    by : (o : Option (List ℕ)) → and_then o v.name ≡ option_map g.h (passing (λ r. list_any (asks g r) got) o)
    by None = refl
    by (Some r) = live.named r ∙ each r (list_any (asks g r) got)

-- the votes for a name are counted
voted_is : (g : Ring) (f : ℕ) (v : View) (got : List Letter) (s : ℕ) → Live g f v got → length v.done < s → (p : Phase) (d : List ℕ) → is_voted f p v s d ≡ nat_le (2 * g.f + 1) (voters g (says p s) d got)
voted_is g f v got s live high p d =
    ap (nat_le (2 * f + 1)) (count_joins g v.votes got p s d (omega (arith, live.faults, live.few)) live.declared live.voted (omega (arith, live.floor_is, high)))
    ∙ ap (λ k. nat_le (2 * k + 1) (voters g (says p s) d got)) (sym live.faults)

pub prepared_is : (g : Ring) (f : ℕ) (v : View) (got : List Letter) (s : ℕ) → Live g f v got → length v.done < s → prepared_in f v s ≡ option_map g.h (prepared g got s)
prepared_is g f v got s live high =
    ap (passing (is_voted f phase.Prepare v s)) (endorsed_is g f v got s live high)
    ∙ passing_map g.h (is_voted f phase.Prepare v s) (λ r. nat_le (2 * g.f + 1) (voters g (prepares s) (g.h r) got)) (endorsed g got s) (λ r. voted_is g f v got s live high phase.Prepare (g.h r))

committed_is : (g : Ring) (f : ℕ) (v : View) (got : List Letter) (s : ℕ) → Live g f v got → length v.done < s → committed_in f v s ≡ option_map g.h (committed g got s)
committed_is g f v got s live high =
    ap (passing (is_voted f phase.Commit v s)) (prepared_is g f v got s live high)
    ∙ passing_map g.h (is_voted f phase.Commit v s) (λ r. nat_le (2 * g.f + 1) (voters g (commits s) (g.h r) got)) (prepared g got s) (λ r. voted_is g f v got s live high phase.Commit (g.h r))

-- what passes is what was there, or nothing
abbrev Part : {X : Type 0} → Option X → Option X → Type 0
Part u o = (u ≡ None) ⊎ (u ≡ o)

passing_part : {X : Type 0} (p : X → Bool) (u o : Option X) → Part u o → Part (passing p u) o
passing_part p u o (inl e) = inl (ap (passing p) e)
passing_part {X} p u None (inr e) = inl (ap (passing p) e)
passing_part {X} p u (Some x) (inr e) = each (p x) (ap (passing p) e)
  where
    each : (b : Bool) → passing p u ≡ cond b (Some x) None → Part (passing p u) (Some x)
    each true k = inr k
    each false k = inl k

whole_part : {X Y : Type 0} (h : X → Y) (u o : Option X) → Part u o → cond (is_some (option_map h u)) o None ≡ u
whole_part h u o (inl e) = ap (λ x. cond (is_some (option_map h x)) o None) e ∙ sym e
whole_part {X} h u o (inr e) = ap (λ x. cond (is_some (option_map h x)) o None) e ∙ each o ∙ sym e
  where
    each : (o : Option X) → cond (is_some (option_map h o)) o None ≡ o
    each None = refl
    each (Some x) = refl

pub ready_is : (g : Ring) (f : ℕ) (v : View) (got : List Letter) (s : ℕ) → Live g f v got → length v.done < s → ready_in f v s ≡ committed g got s
ready_is g f v got s live high =
    let first = first_word (Member 0) (pre_prepares s) got in
    let part : Part (committed g got s) first
    = passing_part (λ r. nat_le (2 * g.f + 1) (voters g (commits s) (g.h r) got)) (prepared g got s) first
    (passing_part (λ r. nat_le (2 * g.f + 1) (voters g (prepares s) (g.h r) got)) (endorsed g got s) first
    (passing_part (λ r. list_any (asks g r) got) first first (inr refl))) in
    ap (λ o. cond (is_some o) (proposal v s) None) (committed_is g f v got s live high)
    ∙ ap (λ o. cond (is_some (option_map g.h (committed g got s))) o None) (live.proposed s high)
    ∙ whole_part g.h (committed g got s) first part
