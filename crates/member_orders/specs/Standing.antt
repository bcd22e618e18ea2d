-- What the primary keeps of requests, against the letters that it stands for.
use Rattle.std.specs.Prelude.{◌≡◌, ℕ, ◌<◌, min, ◌==◌, List, length, count_by}
use Rattle.ring_model.specs.Messages.{Ring, Letter, Client}
use Rattle.ring_model.specs.History.{first_word}
use Rattle.ring_model.specs.Member.{numbered, orders}
use Rattle.member_orders.specs.Views.{View}

pub record Stands (g : Ring) (v : View) (got : List Letter) : Type 0 where
  pub limit : g.slots ≡ 65536
  pub ordered_is : v.ordered ≡ min (length (orders g got)) 65536
  pub counted : (c : ℕ) → c < 16 → v.count c ≡ count_by (λ t. g.owner t == c) (orders g got)
  -- of the requests that are not ordered the first of each number is kept
  pub waiting : (c n : ℕ) → c < 16 → v.count c < n → v.first c n ≡ first_word (Client c) (numbered g c n) got
