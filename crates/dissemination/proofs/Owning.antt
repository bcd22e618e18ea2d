-- What a replica offers by itself.
use Rattle.std.proofs.Common.{◌≡◌, ℕ, List, Option, Some, None, refl, ap, sym, ◌∙◌}
use Rattle.std.specs.FinMap as map_of
use Rattle.std.specs.FinMap.{from_entries}
use Rattle.replica_model.specs.Caches.{Cached, kept_as, touched}
use Rattle.replica_model.specs.Replicas.{Replica, with_entries}
use Rattle.replica_model.specs.Offers.{own}
use Rattle.dissemination.proofs.Maps.{value_at, get_at}

module _ (it : Replica) (lies : List (List ℕ × List ℕ)) (name : List ℕ) (view : from_entries lies ≡ it.lies) where
  lie_at : (o : Option (List ℕ)) → value_at lies name ≡ o → map_of.get it.lies name ≡ o
  lie_at o e = ap (λ m. map_of.get m name) (sym view) ∙ get_at lies name ∙ e

  pub own_lie : (bytes : List ℕ) → value_at lies name ≡ Some bytes → own it name ≡ Some (bytes, it)
  own_lie bytes e = rw (lie_at (Some bytes) e, own) refl

  pub own_none : value_at lies name ≡ None → kept_as it.cache.entries name ≡ None → own it name ≡ None
  own_none e k = rw (lie_at None e, own) (rw k refl)

  pub own_cached : (now : Replica) (bytes : List ℕ) → value_at lies name ≡ None → kept_as it.cache.entries name ≡ Some bytes → now ≡ with_entries it (touched it.cache.entries name) → own it name ≡ Some (bytes, now)
  own_cached now bytes e k same = rw (lie_at None e, own) (rw k (ap (λ (x : Replica). Some (bytes, x)) (sym same)))

-- a cache is its entries and its size
pub cache_is : (cache : Cached) (entries : List (List ℕ × List ℕ)) (size : ℕ) → cache.entries ≡ entries → cache.size ≡ size → cache ≡ record { entries = entries; size = size }
cache_is cache entries size e s = λ i. record { entries = e i; size = s i }
