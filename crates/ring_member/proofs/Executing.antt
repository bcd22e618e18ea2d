-- What is executed as letters come.
use Rattle.std.proofs.Common.{◌≡◌, ℕ, suc, ◌+◌, ◌-◌, ◌<◌, ◌≤◌, Bool, true, false, cond, ◌==◌, nat_le, List, [], ◌∷◌, ◌++◌, length, Option, Some, None, is_some, refl, sym, ap, ◌∙◌, arith, append-nil, append_assoc, length-append, ⊎_elim}
use Rattle.std.proofs.lemmas.Bool.{ne_eqb}
use Rattle.std.proofs.lemmas.Bool.Decides.{nat_tests}
use Rattle.quorum.specs.Windows.{first}
use Rattle.ring_model.specs.Messages.{Ring, Letter}
use Rattle.ring_model.specs.History.{go_on, run_of}
use Rattle.ring_model.specs.Member.{committed, executed}
use Rattle.ring_model.proofs.History.{prefix_self}
use Rattle.ring_model.proofs.Lists.{run_split, run_none}
use Rattle.std.proofs.lemmas.List.{append_cancel_left}
use Rattle.std.proofs.lemmas.Bool.{cases_lt}
use Rattle.ring_model.proofs.Stays.{executed_grows}
use Rattle.ring_member.specs.Views.{View, inner, ready_in, Executes}
use Rattle.ring_member.specs.Standing.{Live, Ran, Stands}
use Rattle.ring_member.proofs.Deciding.{ready_is}

-- after one more letter, what was executed is in front of what is
pub ran_after : (g : Ring) (f : ℕ) (v w : View) (l : Letter) (got : List Letter) → Stands g f v got → w.done ≡ v.done → Ran g w (l ∷ got)
ran_after g f v w l got st same =
    let xs = executed g got in
    let c = committed g (l ∷ got) in
    run_split c xs g.slots 1 (executed_grows g l got)
    ∙ ap (λ n. xs ++ run_of c (n - length xs) (1 + length xs)) st.live.limit
    ∙ ap (λ ys. ys ++ run_of c (65536 - length ys) (1 + length ys)) (sym (same ∙ st.ran))

-- where the next slot can't be executed, all is done
pub ran_stops : (g : Ring) (f : ℕ) (v : View) (got : List Letter) → Live g f v got → Ran g v got → ready_in f v (length v.done + 1) ≡ None → Stands g f v got
ran_stops g f v got live ran never =
    let none : committed g got (1 + length v.done) ≡ None
    = ap (committed g got) (omega arith) ∙ sym (ready_is g f v got (length v.done + 1) live (omega arith)) ∙ never in
    record { live = live; ran = sym (ran ∙ ap (λ xs. v.done ++ xs) (run_none (committed g got) (65536 - length v.done) (1 + length v.done) none) ∙ append-nil v.done) }

-- nor where all slots are executed
pub ran_full : (g : Ring) (f : ℕ) (v : View) (got : List Letter) → Live g f v got → Ran g v got → 65536 ≤ length v.done → Stands g f v got
ran_full g f v got live ran full =
    let zeros : 65536 - length v.done ≡ 0 = omega arith in
    record { live = live; ran = sym (ran ∙ ap (λ n. v.done ++ run_of (committed g got) n (1 + length v.done)) zeros ∙ append-nil v.done) }

run_more : {Y : Type 0} (c : ℕ → Option Y) (n k s t : ℕ) (y : Y) → n ≡ suc k → t ≡ s + 1 → c s ≡ Some y → run_of c n s ≡ y ∷ run_of c k t
run_more c n k s t y e u h = ap (λ i. run_of c i s) e ∙ ap (λ o. go_on o (run_of c k (s + 1))) h ∙ ap (λ j. y ∷ run_of c k j) (sym u)

-- the next slot
pub ran_more : (g : Ring) (f : ℕ) (v w : View) (r : List ℕ) (got : List Letter) → Live g f v got → Ran g v got → length v.done < 65536 → ready_in f v (length v.done + 1) ≡ Some r → Executes v r w → Ran g w got
ran_more g f v w r got live ran low now does =
    let c = committed g got in
    let n = length v.done in
    let here : c (1 + n) ≡ Some r = ap c (omega arith) ∙ sym (ready_is g f v got (n + 1) live (omega arith)) ∙ now in
    let long : length w.done ≡ n + 1 = omega (arith, ap length does.done_is, length-append v.done (r ∷ [])) in
    ran
    ∙ ap (λ xs. v.done ++ xs) (run_more c (65536 - n) (65536 - length w.done) (1 + n) (1 + length w.done) r (omega arith) (omega arith) here)
    ∙ sym (append_assoc v.done (r ∷ []) (run_of c (65536 - length w.done) (1 + length w.done)))
    ∙ ap (λ xs. xs ++ run_of c (65536 - length w.done) (1 + length w.done)) (sym does.done_is)

off : {X : Type 0} (s t : ℕ) (x y : X) → (s ≡ t → ⊥) → cond (s == t) x y ≡ y
off s t x y apart = ap (λ b. cond b x y) (ne_eqb s t apart)

pub executes_live : (g : Ring) (f : ℕ) (v w : View) (r : List ℕ) (got : List Letter) → Live g f v got → Executes v r w → Live g f w got
executes_live g f v w r got live does =
    let n = length v.done in
    let long : length w.done ≡ n + 1 = omega (arith, ap length does.done_is, length-append v.done (r ∷ [])) in
    let above : (s : ℕ) → length w.done < s → w.slot s ≡ v.slot s = λ s h. does.slots s ∙ off s (n + 1) None (v.slot s) (λ e. omega arith) in
    record {
      faults = live.faults;
      few = live.few;
      limit = live.limit;
      declared = live.declared;
      floor_is = does.floor_is ∙ sym long;
      voted = λ p s j high.
          does.first_votes p s j
          ∙ ap (λ b. cond b None (first v.votes p s j)) (let no : nat_le s (n + 1) ≡ false = grind (arith, nat_tests, does.floor_is, high) in no)
          ∙ live.voted p s j (omega (arith, live.floor_is, does.floor_is, high));
      proposed = λ s h. ap inner (above s h) ∙ live.proposed s (omega arith);
      named = λ q. does.names q ∙ live.named q;
      kept = λ s h. ap is_some (above s h) ∙ live.kept s (omega arith);
      dropped = λ s h. gone s h (s == n + 1) refl;
      beyond = λ s h. late s (s == n + 1) h;
    }
  where
    gone : (s : ℕ) → s ≤ length w.done → (b : Bool) → (s == length v.done + 1) ≡ b → w.slot s ≡ None
    gone s h true e = does.slots s ∙ ap (λ b. cond b None (v.slot s)) e
    gone s h false e =
        let apart : s ≤ length v.done = grind (arith, nat_tests, e, h, ap length does.done_is, length-append v.done (r ∷ [])) in
        does.slots s ∙ ap (λ b. cond b None (v.slot s)) e ∙ live.dropped s apart

    either : (b : Bool) (o : Option (Option (List ℕ))) → o ≡ None → cond b None o ≡ None
    either true o e = refl
    either false o e = e

    late : (s : ℕ) (b : Bool) → 65536 < s → w.slot s ≡ None
    late s b h = does.slots s ∙ either (s == length v.done + 1) (v.slot s) (live.beyond s h)

-- ---- a letter that changes nothing

-- where all that can be is executed, the next slot can't be
idle : (g : Ring) (f : ℕ) (v : View) (got : List Letter) → Stands g f v got → length v.done < 65536 → ready_in f v (length v.done + 1) ≡ None
idle g f v got st low =
    let n = length v.done in
    let c = committed g got in
    let xs = executed g got in
    let split : xs ≡ v.done ++ run_of c (65536 - n) (1 + n)
    = run_split c xs g.slots 1 (prefix_self xs)
    ∙ ap (λ k. xs ++ run_of c (k - length xs) (1 + length xs)) st.live.limit
    ∙ ap (λ ys. ys ++ run_of c (65536 - length ys) (1 + length ys)) (sym st.ran) in
    let rest : run_of c (65536 - n) (1 + n) ≡ [] = append_cancel_left v.done (run_of c (65536 - n) (1 + n)) [] (sym split ∙ sym st.ran ∙ sym (append-nil v.done)) in
    ready_is g f v got (n + 1) st.live (omega arith) ∙ ap c (omega arith)
    ∙ elim (c (1 + n)) as (λ (o : Option (List ℕ)). c (1 + n) ≡ o → o ≡ None) [
      | None ↦ λ e. refl
      | Some y ↦ λ e. absurd (let more = run_more c (65536 - n) (65536 - (n + 1)) (1 + n) (1 + (n + 1)) y (omega (arith, low)) (omega arith) e in cc (more, rest))
    ] refl

pub late_stands : (g : Ring) (f : ℕ) (v : View) (l : Letter) (got : List Letter) → Stands g f v got → Live g f v (l ∷ got) → Stands g f v (l ∷ got)
late_stands g f v l got st live =
    let ran = ran_after g f v v l got st refl in
    ⊎_elim (λ low. ran_stops g f v (l ∷ got) live ran (idle g f v got st low)) (λ full. ran_full g f v (l ∷ got) live ran full) (cases_lt (length v.done) 65536)
