-- What look-ups find.
use Rattle.std.proofs.Common.{◌≡◌, ℕ, ◌+◌, ◌*◌, ◌<◌, ◌≤◌, min, Bool, true, false, cond, not, ◌&&◌, List, [], ◌∷◌, ◌++◌, length, find, Some, None, option_map, Contains, ⊎_elim, sym, ap, ◌∙◌, subst, arith, length-append, append_assoc}
use Rattle.std.specs.List.{AllByRecursion as Each}
use Rattle.ring_model.specs.Messages.{Ring, Letter, Party as Who, Packet as Sent, Member, same_party}
use Rattle.ring_model.specs.Member.{executed}
use Rattle.ring_model.specs.World.{Event, world, IsLegal, correct, chosen}
use Rattle.ring_model.specs.Laws.{IsCorrect}
use Rattle.ring_model.proofs.History.{same_some}
use Rattle.ring_model.proofs.Lists.{there_none, Each-there}
use Rattle.ring_model.proofs.Agreement.{only_submitted}
use Rattle.ring_model.proofs.Chosen.{all_correct, longest_of}
use Rattle.ring_mail.specs.declared.kept.Mail.{Mail}
use Rattle.ring_mail.specs.declared.kept.Note.{Note}
use Rattle.ring_model.specs.Places.{Place, placed, places, is_done}
use Rattle.ring_mail.specs.Places.{place_of}
use Rattle.ring_mail.specs.Mails.{IsMail}
use Rattle.ring_mail.proofs.Keeping.{filter-short}
use Rattle.ring_world.specs.declared.members.Members.{Members}
use Rattle.ring_world.specs.Bests.{IsBest}
use Rattle.ring_world.specs.Crew.{AreMembers}
use Rattle.message_model.specs.Told.{Told, told, counted}
use Rattle.ring_world.specs.Standing.{Standing}
use Rattle.ring_world.proofs.Correct.{none_correct}
use Rattle.ring_world.proofs.Standing.{down}
use Rattle.ring_world.proofs.Stepping.{all_few, told_place}

-- ---- what is pending

-- a place is less than the number of messages
placed_low : (before xs : List Sent) → Each (λ (a : Place). a.place < length (before ++ xs)) (placed before xs)
placed_low before [] = tt
placed_low before (x ∷ xs) = (
  let short = filter-short (λ (y : Sent). same_party y.from x.from && same_party y.to x.to) before in
      let size = length-append before (x ∷ xs) in
      omega (arith, short, size),
  subst (λ (ys : List Sent). Each (λ (a : Place). a.place < length ys) (placed (before ++ x ∷ []) xs)) (append_assoc before (x ∷ []) xs) (placed_low (before ++ x ∷ []) xs),
)

find_holds : {X : Type 0} (P : X → Type 0) (t : X → Bool) (xs : List X) (x : X) → Each P xs → find t xs ≡ Some x → P x
find_holds P t [] x h e = absurd (cc e)
find_holds P t (y ∷ xs) x h e =
    elim (t y) as (λ b. cond b (Some y) (find t xs) ≡ Some x → P x) [
      | true ↦ λ f. subst P (same_some y x f) h.0
      | false ↦ λ f. find_holds P t xs x h.1 f
    ] e

-- the message that is found, counted from 1
pub found_told : (m : Mail) (sent : List Sent) (done : List Place) (n : Note) (t : Told) → IsMail m sent done → Some (place_of n) ≡ find (λ a. not (is_done done a)) (places sent) → t ≡ (n.from, n.to, min (n.place + 1) 4294967295)
    → Some (told t) ≡ option_map counted (find (λ a. not (is_done done a)) (places sent))
found_told m sent done n t h found is =
    let low = find_holds (λ (a : Place). a.place < length sent) (λ a. not (is_done done a)) (places sent) (place_of n) (placed_low [] sent) (sym found) in
    let few = all_few m sent done h in
    let next : min (n.place + 1) 4294967295 ≡ n.place + 1 = omega (arith, low, few) in
    ap Some (told_place n (min (n.place + 1) 4294967295) t is next) ∙ ap (option_map counted) found

pub found_none : (sent : List Sent) (done : List Place) → None ≡ find (λ a. not (is_done done a)) (places sent) → None ≡ option_map counted (find (λ a. not (is_done done a)) (places sent))
found_none sent done found = ap (option_map counted) found

-- ---- the best member

-- the correct member that is kept is one
kept_correct : {N : Type 0} (stands : Standing N) (g : Ring) (m : Members N) (got : Who → List Letter) (archived : ℕ → ℕ) → AreMembers stands g m got archived → IsCorrect g m.correct
kept_correct stands g m got archived h =
    let less : m.correct < 3 * g.f + 1 = omega (arith, m.there.0, h.count) in
    (less, down (g.is_faulty m.correct) (sym m.there.1 ∙ h.there_are m.correct None less))

-- a best one is found, and it has a node
pub best_there : {N : Type 0} (stands : Standing N) (g : Ring) (m : Members N) (got : Who → List Letter) (archived : ℕ → ℕ) → AreMembers stands g m got archived → IsBest g got 0 (3 * g.f + 1) None → (Y : Type 0) → Y
best_there stands g m got archived h none Y =
    let right = kept_correct stands g m got archived h in
    let low : 0 ≤ m.correct = omega arith in
    let high : m.correct < 0 + (3 * g.f + 1) = omega (arith, right.0) in
    let wrong = none_correct g 0 (3 * g.f + 1) m.correct none low high in
    absurd (cc (wrong, right.1))

-- ---- the committed list

-- whatever is committed was asked for
pub chosen_asked : (g : Ring) (events : List Event) → IsLegal g events → (string : List ℕ) → Contains (chosen g (world g events)) string → Contains (world g events).submits string
chosen_asked g events legal string there =
    ⊎_elim (λ none. absurd (there_none string (subst (λ strings. Contains strings string) none there)))
    (λ some.
    Each-there (Contains (world g events).submits) (executed g ((world g events).got (Member some.0))) string (only_submitted g events legal (Member some.0))
    (subst (λ strings. Contains strings string) some.2 there))
    (longest_of (IsCorrect g) (λ i. executed g ((world g events).got (Member i))) (correct g) (all_correct g))
