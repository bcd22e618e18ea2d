-- Counting over the senders.
use Rattle.std.proofs.Common.{◌≡◌, ◌+◌, List, [], ◌∷◌, length, map, Option, None, Bool, cond, get_or, refl, sym, ap, ◌∙◌}
use Rattle.std.specs.List.{count_by, range_with_len}
use Rattle.std.proofs.lemmas.List.FromFn.{fill_by_all}
use Rattle.std.proofs.lemmas.List.Sums.{sum_by-cons}
use Rattle.quorum.specs.Tallies.{senders}

count_by-map : {X Y : Type 0} (p : Y → Bool) (f : X → Y) (xs : List X) → count_by p (map f xs) ≡ count_by (λ x. p (f x)) xs
count_by-map p f [] = refl
count_by-map {X} {Y} p f (x ∷ xs) =
    sum_by-cons (λ (y : Y). cond (p y) 1 0) (f x) (map f xs)
    ∙ ap (λ n. cond (p (f x)) 1 0 + n) (count_by-map p f xs)
    ∙ sym (sum_by-cons (λ (x : X). cond (p (f x)) 1 0) x xs)

-- what ten seats have, counted by sender
pub count_by-seats : {Y : Type 0} (p : Option Y → Bool) (seats : List (Option Y)) → length seats ≡ 10
    → count_by p seats ≡ count_by (λ j. p (get_or seats j None)) senders
unfolding senders
count_by-seats p seats ten =
    ap (count_by p) (fill_by_all (λ j. get_or seats j None) seats 10 None ten (λ k h. refl))
    ∙ count_by-map p (λ j. get_or seats j None) (range_with_len 0 10)
