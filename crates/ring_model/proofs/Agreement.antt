-- Two quorums share a correct member, which sent one Prepare for the slot.
use Rattle.std.proofs.Common.{◌≡◌, ℕ, ◌+◌, ◌*◌, ◌≤◌, true, false, cond, ◌==◌, nat_le, nat_lt, List, [], ◌∷◌, ◌++◌, length, Contains, Option, Some, None, refl, sym, ap, ◌∙◌, subst₂, arith, length-append, append-nil, subst}
use Rattle.std.specs.List.{list_any, AllByRecursion as Each}
use Rattle.std.proofs.lemmas.Bool.{eqb-true, and_parts, leb-true, ltb-true, ltb-false}
use Rattle.std.proofs.lemmas.Slice.Eq.{bytes_eq-Decides}
use Rattle.ring_model.specs.Messages.{Ring, Letter, Message, Request, Prepare, Commit, Party, Member, Client, same_party, FewFaulty}
use Rattle.ring_model.specs.History.{said_by, first_word, is_name, voters}
use Rattle.ring_model.specs.Member.{pre_prepares, prepares, commits, is_request, asks, endorsed, prepared, committed}
use Rattle.ring_model.specs.World.{World, world, longest}
use Rattle.ring_model.specs.Laws.{IsPrefix, NoClash, Right, IsSound, OneName, OnlySubmitted}
use Rattle.ring_model.proofs.History.{same_some, said_holds, any_holds, passing_parts, is_name_true, run_holds, Each-weaker, prefix_self}
use Rattle.ring_model.proofs.Counting.{quorums_share}
use Rattle.ring_model.proofs.Owed.{all_owed, same_party_true}

-- ---- what a letter is that says something

pub said_by_parts : {Y : Type 0} (p : Party) (say : Message → Option Y) (l : Letter) (y : Y) → said_by p say l ≡ Some y → (l.from ≡ p) × (say l.message ≡ Some y)
said_by_parts {Y} p say l y e =
    elim (same_party l.from p) as (λ b. same_party l.from p ≡ b → cond b (say l.message) None ≡ Some y → (l.from ≡ p) × (say l.message ≡ Some y)) [
      | true ↦ λ same now. (same_party_true l.from p same, now)
      | false ↦ λ _ now. absurd (cc now)
    ] refl e

pub here : {Y : Type 0} (t s : ℕ) (x y : Y) → cond (t == s) (Some x) None ≡ Some y → (t ≡ s) × (x ≡ y)
here {Y} t s x y e =
    elim (t == s) as (λ b. (t == s) ≡ b → cond b (Some x) None ≡ Some y → (t ≡ s) × (x ≡ y)) [
      | true ↦ λ same now. (eqb-true t s same, same_some x y now)
      | false ↦ λ _ now. absurd (cc now)
    ] refl e

pub prepares_is : (s : ℕ) (m : Message) (d : List ℕ) → prepares s m ≡ Some d → m ≡ Prepare s d
prepares_is s (Prepare t x) d e = let h = here t s x d e in cc
prepares_is s _ d e = absurd (cc e)

pub commits_is : (s : ℕ) (m : Message) (d : List ℕ) → commits s m ≡ Some d → m ≡ Commit s d
commits_is s (Commit t x) d e = let h = here t s x d e in cc
commits_is s _ d e = absurd (cc e)

pub is_request_true : (r : List ℕ) (m : Message) → is_request r m ≡ true → m ≡ Request r
is_request_true r (Request t) e = ap Request ((bytes_eq-Decides t r).0 e)
is_request_true r _ e = absurd (cc e)

-- ---- the first vote of a correct member is what it owes

-- what a party's first word says, it may have sent
pub word_right : {Y : Type 0} (g : Ring) (w : World) → IsSound g w → (p q : Party) (say : Message → Option Y) (y : Y) (m : Message)
    → ((x : Message) → say x ≡ Some y → x ≡ m) → first_word p say (w.got q) ≡ Some y → Right g w p q m
word_right {Y} g w sound p q say y m only e =
    said_holds (said_by p say) (λ l. Right g w l.from q l.message) (λ z. y ≡ z → Right g w p q m)
    (λ l z right says same.
    let parts = said_by_parts p say l z says in
    subst₂ (λ f x. Right g w f q x) parts.0 (only l.message (parts.1 ∙ ap Some (sym same))) right)
    (w.got q) y (sound.got q) e refl

-- two quorums of first Prepares are for one name
pub one_name : (g : Ring) → FewFaulty g → (w : World) → IsSound g w → (j k : Party) (s : ℕ) (a b : List ℕ)
    → prepared g (w.got j) s ≡ Some a → prepared g (w.got k) s ≡ Some b → g.h a ≡ g.h b
one_name g few w sound j k s a b ea eb =
    let va = passing_parts (λ r. nat_le (2 * g.f + 1) (voters g (prepares s) (g.h r) (w.got j))) (endorsed g (w.got j) s) a ea in
    let vb = passing_parts (λ r. nat_le (2 * g.f + 1) (voters g (prepares s) (g.h r) (w.got k))) (endorsed g (w.got k) s) b eb in
    let i = quorums_share g (λ i. is_name (g.h a) (first_word (Member i) (prepares s) (w.got j))) (λ i. is_name (g.h b) (first_word (Member i) (prepares s) (w.got k))) few
    (leb-true (2 * g.f + 1) (voters g (prepares s) (g.h a) (w.got j)) va.1) (leb-true (2 * g.f + 1) (voters g (prepares s) (g.h b) (w.got k)) vb.1) in
    let oa = word_right g w sound (Member i.0) j (prepares s) (g.h a) (Prepare s (g.h a)) (λ x. prepares_is s x (g.h a)) (is_name_true (g.h a) (first_word (Member i.0) (prepares s) (w.got j)) i.2) i.4 in
    let ob = word_right g w sound (Member i.0) k (prepares s) (g.h b) (Prepare s (g.h b)) (λ x. prepares_is s x (g.h b)) (is_name_true (g.h b) (first_word (Member i.0) (prepares s) (w.got k)) i.3) i.4 in
    sym oa.2 ∙ ap g.h (same_some oa.0 ob.0 (sym oa.1 ∙ ob.1)) ∙ ob.2

pub one_name_always : OneName
one_name_always g few events legal = one_name g few (world g events) (all_owed g events legal)

-- ---- only what was submitted

pub endorsed_submitted : (g : Ring) (w : World) → IsSound g w → (j : Party) (s : ℕ) (r : List ℕ) → endorsed g (w.got j) s ≡ Some r → Contains w.submits r
endorsed_submitted g w sound j s r e =
    let asked = passing_parts (λ r. list_any (asks g r) (w.got j)) (first_word (Member 0) (pre_prepares s) (w.got j)) r e in
    any_holds (asks g r) (λ l. Right g w l.from j l.message) (Contains w.submits r)
    (λ l right t.
    let parts = and_parts (same_party l.from (Client (g.owner r))) (is_request r l.message) t in
    let h = subst₂ (λ f x. Right g w f j x) (same_party_true l.from (Client (g.owner r)) parts.0) (is_request_true r l.message parts.1) right in
    h.0)
    (w.got j) (sound.got j) asked.1

pub committed_parts : (g : Ring) (got : List Letter) (s : ℕ) (r : List ℕ) → committed g got s ≡ Some r → (prepared g got s ≡ Some r) × (endorsed g got s ≡ Some r)
committed_parts g got s r e =
    let p = passing_parts (λ t. nat_le (2 * g.f + 1) (voters g (commits s) (g.h t) got)) (prepared g got s) r e in
    (p.0, (passing_parts (λ t. nat_le (2 * g.f + 1) (voters g (prepares s) (g.h t) got)) (endorsed g got s) r p.0).0)

pub only_submitted : OnlySubmitted
only_submitted g events legal j =
    let w = world g events in
    run_holds (committed g (w.got j)) (Contains w.submits) (λ s r e. endorsed_submitted g w (all_owed g events legal) j s r (committed_parts g (w.got j) s r e).1) g.slots 1

-- ---- one list

pub one_request : (g : Ring) → FewFaulty g → (w : World) → IsSound g w → NoClash g w.submits → (j k : Party) (s : ℕ) (a b : List ℕ)
    → committed g (w.got j) s ≡ Some a → committed g (w.got k) s ≡ Some b → a ≡ b
one_request g few w sound clear j k s a b ea eb =
    let pa = committed_parts g (w.got j) s a ea in
    let pb = committed_parts g (w.got k) s b eb in
    clear a b (endorsed_submitted g w sound j s a pa.1) (endorsed_submitted g w sound k s b pb.1) (one_name g few w sound j k s a b pa.0 pb.0)

pub longest_long : {Y : Type 0} (xss : List (List Y)) → Each (λ xs. length xs ≤ length (longest xss)) xss
longest_long [] = tt
longest_long {Y} (xs ∷ xss) =
    elim (nat_lt (length xs) (length (longest xss))) as (λ b. nat_lt (length xs) (length (longest xss)) ≡ b → Each (λ ys. length ys ≤ length (cond b (longest xss) xs)) (xs ∷ xss)) [
      | true ↦ λ e. (let h = ltb-true (length xs) (length (longest xss)) e in omega arith, longest_long xss)
      | false ↦ λ e.
          let h = ltb-false (length xs) (length (longest xss)) e in
          (omega arith, Each-weaker (λ ys. length ys ≤ length (longest xss)) (λ ys. length ys ≤ length xs) (λ ys k. omega arith) xss (longest_long xss))
    ] refl

-- a prefix that is no shorter is the whole
pub prefix_same : {Y : Type 0} (xs ys : List Y) → IsPrefix xs ys → length ys ≤ length xs → xs ≡ ys
prefix_same {Y = Y} xs ys h short = whole h.0 h.1
  where
    whole : (rest : List Y) → xs ++ rest ≡ ys → xs ≡ ys
    whole [] e = sym (append-nil xs) ∙ e
    whole (x ∷ rest) e = absurd (omega (arith, length-append xs (x ∷ rest), ap length e))

pub prefix_whole : {Y : Type 0} (xs ys : List Y) → IsPrefix xs ys → length ys ≤ length xs → IsPrefix ys xs
prefix_whole xs ys h short = subst (λ zs. IsPrefix zs xs) (prefix_same xs ys h short) (prefix_self xs)
