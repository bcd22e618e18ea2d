-- Of f+1 members one is correct.
use Rattle.std.proofs.Common.{◌≡◌, ℕ, ◌+◌, ◌*◌, ◌≤◌, Bool, true, not, ◌&&◌, ◌==◌, nat_le, List, [], ◌∷◌, length, drop, slice_get, count_by, Option, Some, None, bytes_eq, refl, ap, ◌∙◌, subst, arith, take-append-drop}
use Rattle.std.specs.List.{AllByRecursion as Each}
use Rattle.std.specs.Option.{option_or}
use Rattle.std.proofs.lemmas.Bool.{and_parts, eqb-true, leb-true, not-true}
use Rattle.std.proofs.lemmas.List.Sums.{sum_by-cons}
use Rattle.std.proofs.lemmas.Slice.Eq.{bytes_eq-Decides}
use Rattle.ring_model.specs.Messages.{Ring, Letter, Message, Reply, Heart, Sealed, Mark, Party, Member, Client, members, FewFaulty}
use Rattle.ring_model.specs.History.{first_word, said_by, is_name, voters, passing}
use Rattle.ring_model.specs.Member.{executed, first_of}
use Rattle.ring_model.specs.Belief.{believed, replied, beating, sealing}
use Rattle.ring_model.specs.World.{World, world, chosen}
use Rattle.ring_model.specs.Laws.{IsPrefix, Owes, Right, IsCorrect, BelievedIsOwed, BelievedHeart, BelievedSeal, BelievedReply}
use Rattle.ring_model.proofs.Counting.{counted, one_passes, in_range}
use Rattle.ring_model.proofs.History.{said_holds, passing_parts, is_name_true, prefix_trans, cond_some, first_of_parts}
use Rattle.ring_model.proofs.Stays.{at_stays}
use Rattle.ring_model.proofs.Owed.{all_owed}
use Rattle.ring_model.proofs.Agreement.{said_by_parts}
use Rattle.ring_model.proofs.Chosen.{in_chosen}

pub all_of : (xs : List ℕ) → count_by (λ i. true) xs ≡ length xs
all_of [] = refl
all_of (x ∷ xs) = omega (arith, sum_by-cons (λ (i : ℕ). 1) x xs, all_of xs)

-- f+1 members have a correct one among them
pub correct_one : (g : Ring) (p : ℕ → Bool) → FewFaulty g → g.f + 1 ≤ count_by p (members g) → (i : ℕ) × IsCorrect g i × (p i ≡ true)
correct_one g p few h =
    let r = one_passes (λ i. p i && true && not (g.is_faulty i)) (members g) (omega (arith, counted p (λ i. true) g.is_faulty (members g), all_of (members g), few, h)) in
    let parts = and_parts (p r.0 && true) (not (g.is_faulty r.0)) r.2 in
    (r.0, (in_range (3 * g.f + 1) r.0 r.1, not-true (g.is_faulty r.0) parts.1), (and_parts (p r.0) true parts.0).0)

pub believed_right : (g : Ring) → FewFaulty g → (w : World) → (c : Party) (say : Message → Option (List ℕ)) (v : List ℕ) (got : List Letter)
    → Each (λ l. Right g w l.from c l.message) got → believed g say got ≡ Some v
    → (i : ℕ) × (m : Message) × IsCorrect g i × (say m ≡ Some v) × Owes g i (w.got (Member i)) c m
believed_right g few w c say v [] right e = absurd (cc e)
believed_right g few w c say v (l ∷ older) right e =
    elim (believed g say older) as (λ (o : Option (List ℕ)). believed g say older ≡ o
    → option_or o (passing (λ v. nat_le (g.f + 1) (voters g say v (l ∷ older))) (say l.message)) ≡ Some v
    → (i : ℕ) × (m : Message) × IsCorrect g i × (say m ≡ Some v) × Owes g i (w.got (Member i)) c m) [
      | Some z ↦ λ before now. believed_right g few w c say v older right.1 (before ∙ now)
      | None ↦ λ _ now.
          let enough = passing_parts (λ v. nat_le (g.f + 1) (voters g say v (l ∷ older))) (say l.message) v now in
          let i = correct_one g (λ j. is_name v (first_word (Member j) say (l ∷ older))) few (leb-true (g.f + 1) (voters g say v (l ∷ older)) enough.1) in
          said_holds (said_by (Member i.0) say) (λ l. Right g w l.from c l.message)
          (λ z. z ≡ v → (i : ℕ) × (m : Message) × IsCorrect g i × (say m ≡ Some v) × Owes g i (w.got (Member i)) c m)
          (λ x z h says same.
          let parts = said_by_parts (Member i.0) say x z says in
          let mine = subst (λ p. Right g w p c x.message) parts.0 h in
          (i.0, x.message, i.1, parts.1 ∙ ap Some same, mine i.1.1))
          (l ∷ older) v right (is_name_true v (first_word (Member i.0) say (l ∷ older)) i.2) refl
    ] refl e

pub believed_is_owed : BelievedIsOwed
believed_is_owed g few events legal c say v e = believed_right g few (world g events) c say v ((world g events).got c) ((all_owed g events legal).got c) e

-- ---- kinds

pub beating_is : (o : List ℕ) (v : ℕ) (m : Message) (n : List ℕ) → beating o v m ≡ Some n → m ≡ Heart o v n
beating_is o v (Heart p w x) n e =
    let h = cond_some (bytes_eq p o && w == v) x n e in
    let parts = and_parts (bytes_eq p o) (w == v) h.0 in
    let a = (bytes_eq-Decides p o).0 parts.0 in
    let b = eqb-true w v parts.1 in
    cc h.1
beating_is o v _ n e = absurd (cc e)

pub sealing_is : (o : List ℕ) (v : ℕ) (m : Message) (n : List ℕ) → sealing o v m ≡ Some n → m ≡ Sealed o v n
sealing_is o v (Sealed p w x) n e =
    let h = cond_some (bytes_eq p o && w == v) x n e in
    let parts = and_parts (bytes_eq p o) (w == v) h.0 in
    let a = (bytes_eq-Decides p o).0 parts.0 in
    let b = eqb-true w v parts.1 in
    cc h.1
sealing_is o v _ n e = absurd (cc e)

pub replied_is : (k : ℕ) (m : Message) (n : List ℕ) → replied k m ≡ Some n → m ≡ Reply k n
replied_is k (Reply j x) n e =
    let h = cond_some (j == k) x n e in
    let b = eqb-true j k h.0 in
    cc h.1
replied_is k _ n e = absurd (cc e)

pub taken_prefix : {Y : Type 0} (s : ℕ) (ys xs : List Y) → first_of s ys ≡ Some xs → IsPrefix xs ys
taken_prefix s ys xs e = let p = first_of_parts s ys xs e in subst (λ zs. IsPrefix zs ys) p.2 (drop s ys, take-append-drop s ys)

pub believed_heart : BelievedHeart
believed_heart g few events legal clear c o v n e =
    let w = world g events in
    let b = believed_is_owed g few events legal c (beating o v) n e in
    let owed = subst (Owes g b.0 (w.got (Member b.0)) c) (beating_is o v b.1 n b.3) b.4 in
    (owed.1, prefix_trans owed.1 (executed g (w.got (Member b.0))) (chosen g w) (taken_prefix owed.0 (executed g (w.got (Member b.0))) owed.1 owed.2) (in_chosen g few w (all_owed g events legal) clear b.0 b.2), owed.3)

pub believed_seal : BelievedSeal
believed_seal g few events legal clear c o v n e =
    let w = world g events in
    let b = believed_is_owed g few events legal c (sealing o v) n e in
    let owed = subst (Owes g b.0 (w.got (Member b.0)) c) (sealing_is o v b.1 n b.3) b.4 in
    let prefix = in_chosen g few w (all_owed g events legal) clear b.0 b.2 in
    let more = g.seals_stay (executed g (w.got (Member b.0))) prefix.0 in
    let m : Mark = record { object = o; version = v; name = n } in
    (owed.0, subst (λ zs. slice_get (g.seals zs) owed.0 ≡ Some m) prefix.1 (subst (λ us. slice_get us owed.0 ≡ Some m) more.1 (at_stays (g.seals (executed g (w.got (Member b.0)))) more.0 owed.0 m owed.1)))

pub client_is : (a b : ℕ) → Client a ≡ Client b → b ≡ a
client_is a b e = cc e

pub believed_reply : BelievedReply
believed_reply g few events legal clear c n v e =
    let w = world g events in
    let b = believed_is_owed g few events legal (Client c) (replied n) v e in
    let owed = subst (Owes g b.0 (w.got (Member b.0)) (Client c)) (replied_is n b.1 v b.3) b.4 in
    (owed.1, owed.2, prefix_trans owed.1 (executed g (w.got (Member b.0))) (chosen g w) (taken_prefix owed.0 (executed g (w.got (Member b.0))) owed.1 owed.3) (in_chosen g few w (all_owed g events legal) clear b.0 b.2), owed.4, client_is c (g.owner owed.2) owed.5, owed.6, owed.7)
