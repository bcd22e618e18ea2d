-- Letters that reply nothing.
use Rattle.std.proofs.Common.{◌≡◌, ℕ, ◌+◌, ◌≤◌, Bool, true, false, cond, nat_le, List, [], ◌∷◌, Option, Some, None, count_by, refl, sym, ap, ◌∙◌, arith}
use Rattle.std.specs.Option.{option_or}
use Rattle.std.proofs.lemmas.Bool.{leb-true}
use Rattle.std.proofs.lemmas.Slice.Eq.{bytes_eq-Decides}
use Rattle.ring_model.specs.Messages.{Member, Client, Message, Letter, Ring, members, same_party}
use Rattle.ring_model.specs.History.{said_by, first_word, is_name, voters, passing}
use Rattle.ring_model.specs.Belief.{believed, replied}
use Rattle.ring_model.proofs.History.{passing_from, is_name_true, count_grows, enough_grows}
use Rattle.ring_model.proofs.Agreement.{said_by_parts}
use Rattle.ring_model.proofs.Lists.{all_zero}
use Rattle.client_core.specs.declared.entry.Entry.{Entry}
use Rattle.client_core.specs.Replies.{RepliesStand}
use Rattle.client_core.proofs.Replied.{cond_none, or_none}

-- a letter that does not say the name makes no vote for it
no_vote : (g : Ring) (say : Message → Option (List ℕ)) (d : List ℕ) (l : Letter) (older : List Letter) → is_name d (say l.message) ≡ false → voters g say d (l ∷ older) ≤ voters g say d older
no_vote g say d l older other =
    count_grows (λ j. is_name d (first_word (Member j) say (l ∷ older))) (λ j. is_name d (first_word (Member j) say older)) (members g)
    (λ j. silent (first_word (Member j) say older) (said_by (Member j) say l) (λ e.
    let says = (said_by_parts (Member j) say l d (is_name_true d (said_by (Member j) say l) e)).1 in
    cc (other, ap (is_name d) says, (bytes_eq-Decides d d).1 refl)))
  where
    silent : (o u : Option (List ℕ)) → (is_name d u ≡ true → ⊥) → is_name d (option_or o u) ≡ true → is_name d o ≡ true
    silent None u f e = absurd (f e)
    silent (Some x) u f e = e

-- what f+1 members say first lets something be believed
believed_some : (g : Ring) (say : Message → Option (List ℕ)) (d : List ℕ) (got : List Letter) → nat_le (g.f + 1) (voters g say d got) ≡ true → (v : List ℕ) × (believed g say got ≡ Some v)
believed_some g say d [] e = absurd (omega (arith, leb-true (g.f + 1) (voters g say d []) e, all_zero (members g)))
believed_some g say d (l ∷ older) e =
    elim (believed g say older) as (λ (o : Option (List ℕ)). believed g say older ≡ o → (v : List ℕ) × (option_or o (passing (λ v. nat_le (g.f + 1) (voters g say v (l ∷ older))) (say l.message)) ≡ Some v)) [
      | Some z ↦ λ _. (z, refl)
      | None ↦ λ none. fresh (λ h. believed_some g say d older h) none (is_name d (say l.message)) refl
    ] refl
  where
    fresh : (nat_le (g.f + 1) (voters g say d older) ≡ true → (v : List ℕ) × (believed g say older ≡ Some v)) → believed g say older ≡ None
        → (b : Bool) → is_name d (say l.message) ≡ b → (v : List ℕ) × (passing (λ v. nat_le (g.f + 1) (voters g say v (l ∷ older))) (say l.message) ≡ Some v)
    fresh before none true same = (d, passing_from (λ v. nat_le (g.f + 1) (voters g say v (l ∷ older))) (say l.message) d (is_name_true d (say l.message) same) e)
    fresh before none false other =
        let r = before (enough_grows (g.f + 1) (voters g say d (l ∷ older)) (voters g say d older) (no_vote g say d l older other) e) in
        absurd (cc (none, r.1))

-- a client's letter changes no belief
client_unheard : (g : Ring) (say : Message → Option (List ℕ)) (c : ℕ) (m : Message) (got : List Letter) → believed g say (record { from = Client c; message = m } ∷ got) ≡ believed g say got
client_unheard g say c m got = each (believed g say got) refl (say m)
  where
    same : (d : List ℕ) → voters g say d (record { from = Client c; message = m } ∷ got) ≡ voters g say d got
    same d = ap (λ (words : ℕ → Option (List ℕ)). count_by (λ j. is_name d (words j)) (members g)) (λ i j. or_none (first_word (Member j) say got) i)

    few : (d : List ℕ) → believed g say got ≡ None → (b : Bool) → nat_le (g.f + 1) (voters g say d got) ≡ b → b ≡ false
    few d none true e = absurd (cc (sym none ∙ (believed_some g say d got e).1))
    few d none false e = refl

    each : (o : Option (List ℕ)) → believed g say got ≡ o → (x : Option (List ℕ)) → option_or o (passing (λ v. nat_le (g.f + 1) (voters g say v (record { from = Client c; message = m } ∷ got))) x) ≡ o
    each (Some v) is x = refl
    each None is None = refl
    each None is (Some d) =
        ap (λ n. cond (nat_le (g.f + 1) n) (Some d) None) (same d) ∙ ap (λ b. cond b (Some d) None) (few d is (nat_le (g.f + 1) (voters g say d got)) refl)

pub replies_client : (g : Ring) (es : List (ℕ × Entry)) (c : ℕ) (m : Message) (got : List Letter) → RepliesStand g es got → RepliesStand g es (record { from = Client c; message = m } ∷ got)
replies_client g es c m got stands = record {
  firsts = λ n j. stands.firsts n j ∙ sym (or_none (first_word (Member j) (replied n) got));
  values = λ n. stands.values n ∙ sym (client_unheard g (replied n) c m got);
}

-- nor does one that is no reply
pub replies_unsaid : (g : Ring) (es : List (ℕ × Entry)) (l : Letter) (got : List Letter) → ((n : ℕ) → replied n l.message ≡ None) → RepliesStand g es got → RepliesStand g es (l ∷ got)
replies_unsaid g es l got none stands = record {
  firsts = λ n j.
      stands.firsts n j
      ∙ sym (ap (λ o. option_or (first_word (Member j) (replied n) got) (cond (same_party l.from (Member j)) o None)) (none n)
      ∙ ap (option_or (first_word (Member j) (replied n) got)) (sym (cond_none (same_party l.from (Member j)))) ∙ or_none (first_word (Member j) (replied n) got));
  values = λ n.
      stands.values n
      ∙ sym (ap (λ o. option_or (believed g (replied n) got) (passing (λ v. nat_le (g.f + 1) (voters g (replied n) v (l ∷ got))) o)) (none n) ∙ or_none (believed g (replied n) got));
}
