use Rattle.std.proofs.Common.{◌≡◌, ◌+◌, ◌-◌, ◌<◌, ◌≤◌, ◌++◌, ◌∷◌, Some, ℕ, arith, refl, sym, ◌∙◌, ap, length, get_or, drop, take, [], List, Option}
use Rattle.std.proofs.lemmas.List.{length-map, get_or-map, take-map, drop-map, map_push}
use Rattle.std.specs.Borrow.{Bor}
use Rattle.script_grammar.specs.Update.{AtClause, Place, role, groups, groups_of}
use Rattle.script_words.specs.Views.{place_view}
use Rattle.script_words.specs.Groups.{texts, groups_in}
use Rattle.script_words.proofs.Grouped.{first_groups, group_none, group_short, step, fails, with_groups}
use Rattle.script_words.proofs.grouping.groups.Goals as goal

sized : (words : List (Bor (List ℕ))) → groups (length words) AtClause (texts words) ≡ groups_of (texts words)
sized words = ap (λ n. groups n AtClause (texts words)) (sym (length-map words (λ word. word.now)))

role_here : (words : List (Bor (List ℕ))) (at : ℕ) (place : Place) (found : Option (ℕ × Place)) → at < length words → found ≡ role place (get_or words at (record { ref_ptr = (0, 0); now = [] })).now → role place (get_or (texts words) at []) ≡ found
role_here words at place found h e = ap (role place) (get_or-map (λ w. w.now) words at _ [] h) ∙ sym e

group_here : (words : List (Bor (List ℕ))) (at count : ℕ) → at + 1 + count ≤ length words → texts (take (at + 1 + count - at) (drop at words)) ≡ take (1 + count) (drop at (texts words))
group_here words at count h =
    let n : at + 1 + count - at ≡ 1 + count = omega arith in
    rw n (sym (ap (take (1 + count)) (drop-map (λ w. w.now) at words) ∙ take-map (λ w. w.now) (1 + count) (drop at words)))

pub loop-at-init : goal.loop-at-init
loop-at-init c = (omega arith, length c.args.words.now, omega arith, rw c.new-groups.ensures.items (first_groups _ ∙ sized c.args.words.now))

pub returns-in_default : goal.returns-in_default
returns-in_default c =
    let within : c.loop-at.at < length (texts c.args.words.now) = simp length-map c.loop-at-test.true in
    fails (groups_in c.loop-at.groups.items) _ (groups_of (texts c.args.words.now)) (group_none c.loop-at.invariant.1 c.loop-at.at (texts c.args.words.now) (place_view c.loop-at.place) within (role_here c.args.words.now c.loop-at.at _ _ c.loop-at-test.true c.in_default.ensures.role)) c.loop-at.invariant.3

pub returns-then-words-end : goal.returns-then-words-end
returns-then-words-end c =
    let within : c.loop-at.at < length (texts c.args.words.now) = simp length-map c.loop-at-test.true in
    fails (groups_in c.loop-at.groups.items) _ (groups_of (texts c.args.words.now)) (group_short c.loop-at.invariant.1 c.loop-at.at c.in-Some.count (texts c.args.words.now) (place_view c.loop-at.place) (place_view c.in-Some.next) within (role_here c.args.words.now c.loop-at.at _ _ c.loop-at-test.true c.in-Some.ensures.role) (simp length-map (omega arith))) c.loop-at.invariant.3

scans : (words : List (Bor (List ℕ))) (items more : List (Bor (List (Bor (List ℕ))))) (group : Bor (List (Bor (List ℕ)))) (most at count : ℕ) (place next : Place)
    → at < length words → Some (count, next) ≡ role place (get_or words at (record { ref_ptr = (0, 0); now = [] })).now → at + 1 + count ≤ length words → length words ≤ most + at
    → group.now ≡ take (at + 1 + count - at) (drop at words) → more ≡ items ++ group ∷ [] → with_groups (groups_in items) (groups most place (drop at (texts words))) ≡ groups_of (texts words)
    → (at + 1 + count ≤ length words) × (m : ℕ) × (length words ≤ m + (at + 1 + count)) × (with_groups (groups_in more) (groups m next (drop (at + 1 + count) (texts words))) ≡ groups_of (texts words))
scans words items more group most at count place next h r within bound g p i =
    let sizes : length (texts words) ≡ length words = length-map words (λ word. word.now) in
    let pushed : groups_in more ≡ groups_in items ++ take (1 + count) (drop at (texts words)) ∷ [] =
    ap groups_in p ∙ map_push (λ x. texts x.now) items group ∙ ap (λ x. groups_in items ++ x ∷ []) (ap texts g ∙ group_here words at count within) in
    let s = step (groups_in items) most at count (texts words) place next (groups_of (texts words)) (rw sizes h) (role_here words at place _ h r) (rw sizes within) (rw sizes bound) i in
    (within, s.0, omega (arith, s.1, sizes), ap (λ x. with_groups x (groups s.0 next (drop (at + 1 + count) (texts words)))) pushed ∙ s.2)

pub loop-at-preserved : goal.loop-at-preserved
loop-at-preserved c =
    scans c.args.words.now c.loop-at.groups.items _ _ c.loop-at.invariant.1 c.loop-at.at c.in-Some.count (place_view c.loop-at.place) (place_view c.in-Some.next) c.loop-at-test.true c.in-Some.ensures.role c.if-words-end.false c.loop-at.invariant.2 refl c.in_ok-push.ensures.items c.loop-at.invariant.3
