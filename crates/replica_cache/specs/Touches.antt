-- What a cache is once a string of it is no longer lent.
use Rattle.std.specs.Prelude.{◌≡◌, ℕ, List, ⊤}
use Rattle.std.specs.Borrow.{Fml, MutBor, follows_so}
use mathlib.Core.Option.{none}
use Rattle.replica_model.specs.Caches.{Cached, touched}
use Rattle.replica_cache.specs.contracts.cache.Cache.{the_row}

-- once the borrow ends, the entry of the name is in front
abbrev pub Touches : MutBor Cached → List ℕ → Fml
Touches cache name =
    follows_so the_row the_row cache.ghost_name none (λ _ _. ⊤) (λ now. now ≡ record { entries = touched cache.now.entries name; size = cache.now.size })
