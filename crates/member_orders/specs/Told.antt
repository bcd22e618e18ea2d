-- What the primary newly owes.
use Rattle.std.specs.Prelude.{ℕ, ◌+◌, ◌-◌, cond, nat_lt, List, [], ◌∷◌, ◌++◌, flat_map, Option, Some, None}
use Rattle.std.specs.List.{range_with_len}
use Rattle.ring_model.specs.Messages.{Ring, Letter, Message, PrePrepare}
use Rattle.ring_model.specs.History.{run_of}
use Rattle.ring_model.specs.Member.{order_at}
use Rattle.member_orders.specs.Views.{View}

-- what is told of something that is there and was not there before
abbrev pub news_of : {X Y : Type 0} → Option X → Option X → (X → Y) → List Y
news_of None None tell = []
news_of None (Some x) tell = tell x ∷ []
news_of (Some x) after tell = []

-- the orders that are owed after and were not before, by sequence number
abbrev pub orders_told : Ring → List Letter → List Letter → List Message
orders_told g older got = flat_map (λ k. news_of (order_at g older k) (order_at g got k) (PrePrepare k)) (range_with_len 1 g.slots)

-- requests ordered one after the other behind the first k, as far as there are sequence numbers
abbrev pub told_from : ℕ → List (List ℕ) → List Message
told_from k [] = []
told_from k (r ∷ rs) = cond (nat_lt k 65536) (PrePrepare (k + 1) r ∷ []) [] ++ told_from (k + 1) rs

-- the requests of a client that become next, one after the other
abbrev pub next_of : View → ℕ → List (List ℕ)
next_of v c = run_of (v.first c) (65536 - v.count c) (1 + v.count c)
