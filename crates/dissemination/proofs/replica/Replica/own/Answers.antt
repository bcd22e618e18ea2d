use Rattle.std.proofs.Common.{◌∙◌, ap, sym, Some, List, ℕ}
use Rattle.std.specs.Option.{option_copied}
use Rattle.std.specs.FinMap.{from_entries}
use Rattle.replica_model.specs.Replicas.{Replica, with_entries}
use Rattle.replica_model.specs.Caches.{Cached, kept_as, touched}
use Rattle.dissemination.proofs.Owning.{own_lie, own_none, own_cached, cache_is}
use Rattle.dissemination.proofs.replica.Replica.own.Goals as goal

pub returns-in-Some-clause-found : goal.returns-in-Some-clause-found
returns-in-Some-clause-found c =
    own_lie c.args.self.now c.self.inside.lies.entries c.args.name (ap (λ (it : Replica). it.lies) c.self.view_is) c.in-Some.lie.now (sym c.get.ensures.value ∙ ap option_copied c.in-Some.is)
    ∙ ap (λ (bytes : List ℕ). Some (bytes, c.args.self.now)) (sym c.in_ok-clone.ensures.cases)

pub returns-in-None-clause-none : goal.returns-in-None-clause-none
returns-in-None-clause-none c = λ _.
    own_none c.args.self.now c.self.inside.lies.entries c.args.name (ap (λ (it : Replica). it.lies) c.self.view_is) (sym c.get.ensures.value ∙ ap option_copied c.in_default.is)
    (ap (λ (it : Replica). kept_as it.cache.entries c.args.name) (sym c.self.view_is) ∙ sym c.peek.ensures ∙ ap option_copied c.in-None.is)

pub returns-clause-found : goal.returns-clause-found
returns-clause-found c =
    own_cached c.args.self.now c.self.inside.lies.entries c.args.name (ap (λ (it : Replica). it.lies) c.self.view_is) _ c.in_ok-found-in-Some-peek.found (sym c.get.ensures.value ∙ ap option_copied c.in_default.is)
    (ap (λ (it : Replica). kept_as it.cache.entries c.args.name) (sym c.self.view_is) ∙ sym c.peek.ensures ∙ ap option_copied c.in-Some-peek.is ∙ ap Some (sym c.in_ok-found-in-Some-peek.ensures.cases))
    (ap (λ (cache : Cached). record { parent = c.self.inside.parent; cache = cache; lies = from_entries c.self.inside.lies.entries; versions = from_entries c.self.inside.versions.entries }) (cache_is c.touch.new.self _ _ c.touch.ensures.entries c.touch.ensures.size) ∙ ap (λ (it : Replica). with_entries it (touched it.cache.entries c.args.name)) c.self.view_is)
