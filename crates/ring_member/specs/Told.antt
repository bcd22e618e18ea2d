-- What is newly owed to members.
use Rattle.std.specs.Prelude.{ℕ, cond, List, [], ◌∷◌, ◌++◌, flat_map}
use Rattle.std.specs.List.{range_with_len}
use Rattle.ring_model.specs.Messages.{Ring, Letter, Message, Prepare, Commit}
use Rattle.ring_model.specs.Member.{endorsed, prepared}
use Rattle.quorum.specs.declared.phase.Phase.TheVariants as phase
use Rattle.member_orders.specs.Told.{news_of}
use Rattle.ring_member.specs.Views.{View, is_order, is_voted}

-- the Prepares and the Commits that are owed after and were not before, by slot
abbrev pub prepares_told : Ring → List Letter → List Letter → List Message
prepares_told g older got = flat_map (λ s. news_of (endorsed g older s) (endorsed g got s) (λ r. Prepare s (g.h r))) (range_with_len 1 g.slots)

abbrev pub commits_told : Ring → List Letter → List Letter → List Message
commits_told g older got = flat_map (λ s. news_of (prepared g older s) (prepared g got s) (λ r. Commit s (g.h r))) (range_with_len 1 g.slots)

abbrev pub votes_told : Ring → List Letter → List Letter → List Message
votes_told g older got = prepares_told g older got ++ commits_told g older got

-- what a slot newly is owed for a request that came, under its name
abbrev pub prepare_heard : View → List ℕ → List ℕ → ℕ → List Message
prepare_heard v r n s = cond (is_order v r s) (Prepare s n ∷ []) []

abbrev pub commit_heard : ℕ → View → List ℕ → List ℕ → ℕ → List Message
commit_heard f v r n s = cond (is_order v r s) (cond (is_voted f phase.Prepare v s n) (Commit s n ∷ []) []) []
