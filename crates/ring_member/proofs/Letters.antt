-- What is kept stands for one letter more.
use Rattle.std.proofs.Common.{◌≡◌, ℕ, ◌+◌, ◌*◌, ◌<◌, ◌≤◌, Bool, true, false, cond, ◌==◌, ◌&&◌, ◌||◌, List, ◌∷◌, length, Option, Some, None, is_some, bytes_eq, refl, sym, ap, ◌∙◌, subst, arith}
use Rattle.std.specs.List.{list_any}
use Rattle.std.specs.Option.{option_or}
use Rattle.std.proofs.lemmas.Bool.{ne_eqb, eq-eqb}
use Rattle.std.proofs.lemmas.Bool.Decides.{nat_tests}
use Rattle.std.proofs.lemmas.Slice.Eq.{bytes_eq-Decides}
use Rattle.quorum.specs.declared.phase.Phase.{Phase}
use Rattle.quorum.specs.declared.phase.Phase.TheVariants as phase
use Rattle.quorum.specs.Windows.{Votes}
use Rattle.ring_model.specs.Messages.{Ring, Letter, Message, Party, Member}
use Rattle.ring_model.specs.History.{said_by, first_word}
use Rattle.ring_model.specs.Member.{pre_prepares, asks}
use Rattle.ring_model.specs.World.{IsParty}
use Rattle.vote_model.specs.Joins.{AgreesWith, says, letter}
use Rattle.vote_model.proofs.Joined.{cast_joins}
use Rattle.ring_member.specs.Views.{View, inner, proposal, Casts, Proposes, Hears}
use Rattle.ring_member.specs.Standing.{order, request_of, is_for, has_letter, Live}

pub or_none : {Y : Type 0} (o : Option Y) → option_or o None ≡ o
or_none None = refl
or_none (Some y) = refl

cond_none : {X : Type 0} (b : Bool) → ◌≡◌ {A = Option X} (cond b None None) None
cond_none true = refl
cond_none false = refl

same_test : (s t : ℕ) → (s == t) ≡ (t == s)
same_test s t = grind (arith, nat_tests)

-- ---- a letter that says nothing of the slots above n, and asks for nothing

pub record Quiet (g : Ring) (n : ℕ) (l : Letter) : Type 0 where
  pub party : IsParty g l.from
  pub orders : (s : ℕ) → n < s → said_by (Member 0) (pre_prepares s) l ≡ None
  pub votes : (p : Phase) (s j : ℕ) → n < s → said_by (Member j) (says p s) l ≡ None
  pub asking : (r : List ℕ) → asks g r l ≡ false
  pub other : (s : ℕ) → n < s → is_for s l.from l.message ≡ false

word_same : {Y : Type 0} (p : Party) (say : Message → Option Y) (l : Letter) (got : List Letter) → said_by p say l ≡ None → first_word p say (l ∷ got) ≡ first_word p say got
word_same p say l got e = ap (option_or (first_word p say got)) e ∙ or_none (first_word p say got)

pub quiet_live : (g : Ring) (f : ℕ) (v : View) (got : List Letter) (l : Letter) → Live g f v got → Quiet g (length v.done) l → Live g f v (l ∷ got)
quiet_live g f v got l live quiet = record {
  faults = live.faults;
  few = live.few;
  limit = live.limit;
  declared = (quiet.party, live.declared);
  floor_is = live.floor_is;
  voted = λ p s j high. live.voted p s j high ∙ sym (word_same (Member j) (says p s) l got (quiet.votes p s j (omega (arith, live.floor_is, high))));
  proposed = λ s high. live.proposed s high ∙ sym (word_same (Member 0) (pre_prepares s) l got (quiet.orders s high));
  named = λ r. live.named r ∙ ap (λ b. cond (b || list_any (asks g r) got) (Some (g.h r)) None) (sym (quiet.asking r));
  kept = λ s high. live.kept s high ∙ ap (λ b. b || has_letter got s) (sym (quiet.other s high));
  dropped = live.dropped;
  beyond = live.beyond;
}

off_slot : {Y : Type 0} (t s : ℕ) (x : Y) → (t ≡ s → ⊥) → cond (t == s) (Some x) None ≡ None
off_slot t s x e = ap (λ b. cond b (Some x) None) (ne_eqb t s e)

-- a vote for an executed slot
pub late_vote : (g : Ring) (n : ℕ) (p : Phase) (k t : ℕ) (d : List ℕ) → k < 3 * g.f + 1 → t ≤ n → Quiet g n (letter p k t d)
late_vote g n phase.Prepare k t d seat late = record {
  party = seat;
  orders = λ s high. cond_none (k == 0);
  votes = votes_none;
  asking = λ r. refl;
  other = λ s high. ne_eqb t s (λ e. omega arith);
} where
  votes_none : (p : Phase) (s j : ℕ) → n < s → said_by (Member j) (says p s) (letter phase.Prepare k t d) ≡ None
  votes_none phase.Prepare s j high = ap (λ o. cond (k == j) o None) (off_slot t s d (λ e. omega arith)) ∙ cond_none (k == j)
  votes_none phase.Commit s j high = cond_none (k == j)
late_vote g n phase.Commit k t d seat late = record {
  party = seat;
  orders = λ s high. cond_none (k == 0);
  votes = votes_none;
  asking = λ r. refl;
  other = λ s high. ne_eqb t s (λ e. omega arith);
} where
  votes_none : (p : Phase) (s j : ℕ) → n < s → said_by (Member j) (says p s) (letter phase.Commit k t d) ≡ None
  votes_none phase.Commit s j high = ap (λ o. cond (k == j) o None) (off_slot t s d (λ e. omega arith)) ∙ cond_none (k == j)
  votes_none phase.Prepare s j high = cond_none (k == j)

-- an order of an executed slot
pub late_order : (g : Ring) (n t : ℕ) (r : List ℕ) → t ≤ n → Quiet g n (order t r)
late_order g n t r late = record {
  party = omega arith;
  orders = λ s high. off_slot t s r (λ e. omega arith);
  votes = votes_none;
  asking = λ q. refl;
  other = λ s high. ne_eqb t s (λ e. omega arith);
} where
  votes_none : (p : Phase) (s j : ℕ) → n < s → said_by (Member j) (says p s) (order t r) ≡ None
  votes_none phase.Prepare s j high = cond_none (0 == j)
  votes_none phase.Commit s j high = cond_none (0 == j)

-- ---- one slot changes

module _ (t n : ℕ) (old new : ℕ → Option (Option (List ℕ))) (change : Option (List ℕ) → Option (List ℕ)) (slots : (s : ℕ) → new s ≡ cond (s == t) (Some (change (inner (old s)))) (old s)) where
  pub changed_at : (s : ℕ) → (s == t) ≡ true → inner (new s) ≡ change (inner (old s))
  changed_at s e = ap inner (slots s ∙ ap (λ b. cond b (Some (change (inner (old s)))) (old s)) e)

  pub same_off : (s : ℕ) → (s == t) ≡ false → new s ≡ old s
  same_off s e = slots s ∙ ap (λ b. cond b (Some (change (inner (old s)))) (old s)) e

  pub kept_more : (s : ℕ) (b : Bool) → is_some (old s) ≡ b → is_some (new s) ≡ ((t == s) || b)
  kept_more s b e = ap is_some (slots s) ∙ each (s == t) ∙ ap (λ x. x || is_some (old s)) (same_test s t) ∙ ap (λ x. (t == s) || x) e
    where
      each : (x : Bool) → is_some (cond x (Some (change (inner (old s)))) (old s)) ≡ (x || is_some (old s))
      each true = refl
      each false = refl

  pub dropped_still : (s : ℕ) → (s ≡ t → ⊥) → old s ≡ None → new s ≡ None
  dropped_still s apart e = same_off s (ne_eqb s t apart) ∙ e

-- ---- a vote

vote_word : (p : Phase) (k t : ℕ) (d : List ℕ) (got : List Letter) (s : ℕ) → first_word (Member 0) (pre_prepares s) (letter p k t d ∷ got) ≡ first_word (Member 0) (pre_prepares s) got
vote_word phase.Prepare k t d got s = word_same (Member 0) (pre_prepares s) (letter phase.Prepare k t d) got (cond_none (k == 0))
vote_word phase.Commit k t d got s = word_same (Member 0) (pre_prepares s) (letter phase.Commit k t d) got (cond_none (k == 0))

vote_asks : (g : Ring) (p : Phase) (k t : ℕ) (d : List ℕ) (got : List Letter) (r : List ℕ) → list_any (asks g r) (letter p k t d ∷ got) ≡ list_any (asks g r) got
vote_asks g phase.Prepare k t d got r = refl
vote_asks g phase.Commit k t d got r = refl

vote_for : (p : Phase) (k t : ℕ) (d : List ℕ) (got : List Letter) (s : ℕ) → has_letter (letter p k t d ∷ got) s ≡ ((t == s) || has_letter got s)
vote_for phase.Prepare k t d got s = refl
vote_for phase.Commit k t d got s = refl

vote_party : (g : Ring) (p : Phase) (k t : ℕ) (d : List ℕ) → k < 3 * g.f + 1 → IsParty g (letter p k t d).from
vote_party g phase.Prepare k t d seat = seat
vote_party g phase.Commit k t d seat = seat

abbrev stay : Option (List ℕ) → Option (List ℕ)
stay o = o

-- where nothing is proposed anew
pub proposal_same : (t : ℕ) (v w : View) → ((s : ℕ) → w.slot s ≡ cond (s == t) (Some (proposal v s)) (v.slot s)) → (s : ℕ) → proposal w s ≡ proposal v s
proposal_same t v w slots s = ap inner (slots s) ∙ each (s == t)
  where
    each : (b : Bool) → inner (cond b (Some (proposal v s)) (v.slot s)) ≡ proposal v s
    each true = refl
    each false = refl

pub cast_live : (g : Ring) (f : ℕ) (v w : View) (got : List Letter) (p : Phase) (k t : ℕ) (d : List ℕ) → Live g f v got → Casts v p t k d w → length v.done < t → t ≤ 65536 → k < 3 * g.f + 1
    → Live g f w (letter p k t d ∷ got)
cast_live g f v w got p k t d live does above low seat = record {
  faults = live.faults;
  few = live.few;
  limit = live.limit;
  declared = (vote_party g p k t d seat, live.declared);
  floor_is = does.floor_is ∙ live.floor_is ∙ ap length (sym does.done_is);
  voted = cast_joins v.votes w.votes got p t k d live.voted does.floor_is does.first_votes;
  proposed = λ s high. proposal_same t v w does.slots s ∙ live.proposed s (omega (arith, high, ap length does.done_is)) ∙ sym (vote_word p k t d got s);
  named = λ r. does.names r ∙ live.named r ∙ ap (λ b. cond b (Some (g.h r)) None) (sym (vote_asks g p k t d got r));
  kept = λ s high. kept_more t 0 v.slot w.slot stay does.slots s (has_letter got s) (live.kept s (omega (arith, high, ap length does.done_is))) ∙ sym (vote_for p k t d got s);
  dropped = λ s h. dropped_still t 0 v.slot w.slot stay does.slots s (λ e. omega (arith, e, h, above, ap length does.done_is)) (live.dropped s (omega (arith, h, ap length does.done_is)));
  beyond = λ s h. dropped_still t 0 v.slot w.slot stay does.slots s (λ e. omega arith) (live.beyond s h);
}

-- ---- an order

agree_same : (v : Votes) (w : Votes) (l : Letter) (got : List Letter) → w ≡ v → AgreesWith v got → ((p : Phase) (s j : ℕ) → said_by (Member j) (says p s) l ≡ None) → AgreesWith w (l ∷ got)
agree_same v w l got same agrees silent = subst (λ u. AgreesWith u (l ∷ got)) (sym same) (λ p s j high. agrees p s j high ∙ sym (word_same (Member j) (says p s) l got (silent p s j)))

order_silent : (t : ℕ) (r : List ℕ) (p : Phase) (s j : ℕ) → said_by (Member j) (says p s) (order t r) ≡ None
order_silent t r phase.Prepare s j = cond_none (0 == j)
order_silent t r phase.Commit s j = cond_none (0 == j)

pub propose_live : (g : Ring) (f : ℕ) (v w : View) (got : List Letter) (t : ℕ) (r : List ℕ) → Live g f v got → Proposes v t r w → length v.done < t → t ≤ 65536 → Live g f w (order t r ∷ got)
propose_live g f v w got t r live does above low = record {
  faults = live.faults;
  few = live.few;
  limit = live.limit;
  declared = (omega arith, live.declared);
  floor_is = ap (λ (u : Votes). u.floor) does.votes_are ∙ live.floor_is ∙ ap length (sym does.done_is);
  voted = agree_same v.votes w.votes (order t r) got does.votes_are live.voted (order_silent t r);
  proposed = λ s high. orders s (live.proposed s (omega (arith, high, ap length does.done_is)));
  named = λ q. does.names q ∙ live.named q;
  kept = λ s high. kept_more t 0 v.slot w.slot (λ o. option_or o (Some r)) does.slots s (has_letter got s) (live.kept s (omega (arith, high, ap length does.done_is)));
  dropped = λ s h. dropped_still t 0 v.slot w.slot (λ o. option_or o (Some r)) does.slots s (λ e. omega (arith, e, h, above, ap length does.done_is)) (live.dropped s (omega (arith, h, ap length does.done_is)));
  beyond = λ s h. dropped_still t 0 v.slot w.slot (λ o. option_or o (Some r)) does.slots s (λ e. omega arith) (live.beyond s h);
} where
  each : (o : Option (Option (List ℕ))) (u : Option (List ℕ)) (b : Bool) → inner o ≡ u → inner (cond b (Some (option_or (inner o) (Some r))) o) ≡ option_or u (cond b (Some r) None)
  each o u true e = ap (λ x. option_or x (Some r)) e
  each o u false e = e ∙ sym (or_none u)

  orders : (s : ℕ) → proposal v s ≡ first_word (Member 0) (pre_prepares s) got → proposal w s ≡ first_word (Member 0) (pre_prepares s) (order t r ∷ got)
  orders s e = ap inner (does.slots s) ∙ each (v.slot s) (first_word (Member 0) (pre_prepares s) got) (s == t) e ∙ ap (λ b. option_or (first_word (Member 0) (pre_prepares s) got) (cond b (Some r) None)) (same_test s t)

-- ---- a request from its client

request_silent : (g : Ring) (r : List ℕ) (p : Phase) (s j : ℕ) → said_by (Member j) (says p s) (request_of g r) ≡ None
request_silent g r phase.Prepare s j = refl
request_silent g r phase.Commit s j = refl

pub asks_itself : (g : Ring) (r q : List ℕ) → asks g q (request_of g r) ≡ bytes_eq r q
asks_itself g r q = each (bytes_eq r q) refl
  where
    each : (b : Bool) → bytes_eq r q ≡ b → ((g.owner r == g.owner q) && bytes_eq r q) ≡ bytes_eq r q
    each true e = ap (λ x. x && bytes_eq r q) (eq-eqb (g.owner r) (g.owner q) (ap g.owner ((bytes_eq-Decides r q).0 e)))
    each false e = ap (λ x. (g.owner r == g.owner q) && x) e ∙ none (g.owner r == g.owner q) ∙ sym e
      where
        none : (x : Bool) → (x && false) ≡ false
        none true = refl
        none false = refl

pub hear_live : (g : Ring) (f : ℕ) (v w : View) (got : List Letter) (r n : List ℕ) → Live g f v got → Hears v r n w → n ≡ g.h r → g.owner r < g.clients → Live g f w (request_of g r ∷ got)
hear_live g f v w got r n live does name party = record {
  faults = live.faults;
  few = live.few;
  limit = live.limit;
  declared = (party, live.declared);
  floor_is = ap (λ (u : Votes). u.floor) does.votes_are ∙ live.floor_is ∙ ap length (sym does.done_is);
  voted = agree_same v.votes w.votes (request_of g r) got does.votes_are live.voted (request_silent g r);
  proposed = λ s high. ap inner (does.slots s) ∙ live.proposed s (omega (arith, high, ap length does.done_is)) ∙ sym (word_same (Member 0) (pre_prepares s) (request_of g r) got refl);
  named = λ q. does.names q ∙ each q (bytes_eq r q) refl ∙ ap (λ b. cond (b || list_any (asks g q) got) (Some (g.h q)) None) (sym (asks_itself g r q));
  kept = λ s high. ap is_some (does.slots s) ∙ live.kept s (omega (arith, high, ap length does.done_is));
  dropped = λ s h. does.slots s ∙ live.dropped s (omega (arith, h, ap length does.done_is));
  beyond = λ s h. does.slots s ∙ live.beyond s h;
} where
  each : (q : List ℕ) (b : Bool) → bytes_eq r q ≡ b → cond (bytes_eq r q) (Some n) (v.name q) ≡ cond (bytes_eq r q || list_any (asks g q) got) (Some (g.h q)) None
  each q true e = ap (λ b. cond b (Some n) (v.name q)) e ∙ ap Some (name ∙ ap g.h ((bytes_eq-Decides r q).0 e)) ∙ ap (λ b. cond (b || list_any (asks g q) got) (Some (g.h q)) None) (sym e)
  each q false e = ap (λ b. cond b (Some n) (v.name q)) e ∙ live.named q ∙ ap (λ b. cond (b || list_any (asks g q) got) (Some (g.h q)) None) (sym e)
