-- The boards that guard the definitions, computed.
use Rattle.std.proofs.Common.{ℕ, ◌≢◌, ◌<◌, ◌≤◌, lit<, lit≤, inl, refl, arith}
use Rattle.vote_words_model.specs.Places.{IsPlace}
use Rattle.vote_words_model.specs.Schedules.{one_member, OneMemberDecides, TwoWordsAreNoQuorum}

positive : (n : ℕ) → 0 < n → n ≢ 0
positive n h e = omega arith

pub one_member_decides : OneMemberDecides
one_member_decides =
    let here : IsPlace one_member 1 0 = ((lit≤ tt, lit≤ tt), lit< tt) in
    ((lit< tt, here, (lit< tt, (here, lit≤ tt), (lit< tt, here, (lit< tt, (here, positive 9 (lit< tt), lit< tt, inl refl), tt)))), lit≤ tt)

pub two_words_are_no_quorum : TwoWordsAreNoQuorum
two_words_are_no_quorum = ((λ h. let three : 3 ≤ 2 = h in absurd (omega arith)), lit≤ tt)
