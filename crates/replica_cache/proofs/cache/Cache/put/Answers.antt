use Rattle.std.proofs.Common.{ℕ, List, ◌∙◌, ap}
use Rattle.lru.specs.LruCache.{LruCache}
use Rattle.replica_model.specs.Caches.{Cached, with_front}
use Rattle.replica_cache.proofs.Fronts.{put_in_front}
use Rattle.replica_cache.proofs.cache.Cache.put.Goals as goal

pub returns-in-Ok-clause-put : goal.returns-in-Ok-clause-put
returns-in-Ok-clause-put c =
    ap (λ (k : LruCache (List ℕ) (List ℕ)). k.entries) c.in-Ok.ensures.entries
    ∙ put_in_front c.self.inside.entries.cap c.self.inside.entries.entries c.args.name c.args.bytes c.len-count.ensures.valid.2 c.len-count.ensures.valid.1
    ∙ ap (λ (k : Cached). with_front k.size k.entries c.args.name c.args.bytes) c.self.view_is
