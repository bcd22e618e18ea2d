-- What the primary keeps of requests: the first request of each number that came from its client and is not ordered, and how many are ordered.
use Rattle.std.specs.Prelude.{◌≡◌, ℕ, ◌+◌, ◌<◌, ◌≤◌, min, length, Bool, true, cond, ◌==◌, ◌&&◌, List, Option, Some, None, slice_index_or}
use Rattle.std.specs.Option.{option_or}
use Rattle.std.specs.Ordering.{nat_cmp, ordering_then}
use Rattle.std.specs.declared.cmp.Ordering.{Ordering}
use Rattle.std.specs.Map.{lookup}
use Rattle.std.specs.BTreeMap.{is_at}
use Rattle.message_model.specs.Requests.{is_request_string}
use Rattle.member_orders.specs.declared.orders.Turn.{Turn}
use Rattle.member_orders.specs.declared.orders.Orders.{Orders}

pub record View : Type 0 where
  -- the request of each client and number
  pub first : ℕ → ℕ → Option (List ℕ)
  -- how many requests of each client are ordered
  pub count : ℕ → ℕ
  -- how many are ordered in all, up to the greatest sequence number
  pub ordered : ℕ

-- by client, and then by number
abbrev pub turn_cmp : Turn → Turn → Ordering
turn_cmp a b = ordering_then (nat_cmp a.client b.client) (nat_cmp a.number b.number)

abbrev pub view_of : Orders → View
view_of o = record {
  first = λ c n. lookup (is_at (turn_cmp (record { client = c; number = n }))) o.waiting.entries;
  count = λ c. slice_index_or o.counts c 0;
  ordered = o.ordered;
}

-- whether it is the turn of this client and number
abbrev pub is_turn : ℕ → ℕ → ℕ → ℕ → Bool
is_turn c n d k = c == d && n == k

-- The first request of a number counts.
pub record Keeps (v : View) (client number : ℕ) (request : List ℕ) (w : View) : Type 0 where
  pub firsts : (d k : ℕ) → w.first d k ≡ option_or (v.first d k) (cond (is_turn client number d k) (Some request) None)
  pub counts : (d : ℕ) → w.count d ≡ v.count d
  pub ordered_is : w.ordered ≡ v.ordered

-- The next request of a client is taken out.
pub record Takes (v : View) (client : ℕ) (request : List ℕ) (w : View) : Type 0 where
  pub there : v.first client (v.count client + 1) ≡ Some request
  pub firsts : (d k : ℕ) → w.first d k ≡ cond (is_turn client (v.count client + 1) d k) None (v.first d k)
  pub counts : (d : ℕ) → w.count d ≡ cond (client == d) (v.count d + 1) (v.count d)
  pub ordered_is : w.ordered ≡ v.ordered

-- There is none.
pub record Lacks (v : View) (client : ℕ) (w : View) : Type 0 where
  pub none : v.first client (v.count client + 1) ≡ None
  pub firsts : (d k : ℕ) → w.first d k ≡ v.first d k
  pub counts : (d : ℕ) → w.count d ≡ v.count d
  pub ordered_is : w.ordered ≡ v.ordered

-- These requests of a client were ordered, one after the other.
pub record Advances (v : View) (client : ℕ) (requests : List (List ℕ)) (w : View) : Type 0 where
  pub firsts : (d k : ℕ) → w.count d < k → w.first d k ≡ v.first d k
  pub counts : (d : ℕ) → w.count d ≡ v.count d + cond (client == d) (length requests) 0
  pub ordered_is : w.ordered ≡ min (v.ordered + length requests) 65536

-- the bytes spell a request
abbrev pub IsAsked : List ℕ → Type 0
IsAsked r = is_request_string r ≡ true

-- Sequence numbers are within their range, and requests in their grammar.
pub record IsWhole (o : Orders) : Type 0 where
  pub few : o.ordered ≤ 65536
  pub strings : (c n : ℕ) (r : List ℕ) → (view_of o).first c n ≡ Some r → IsAsked r
