use Rattle.std.proofs.Common.{◌∙◌, ap, sym, Option, ℕ, List}
use Rattle.std.specs.Option.{unwrap_or, option_copied}
use Rattle.replica_model.specs.declared.places.Last.{Last}
use Rattle.replica_model.specs.Replicas.{Replica, first_version, last_of}
use Rattle.dissemination.proofs.Maps.{get_at}
use Rattle.dissemination.proofs.replica.Replica.last.Goals as goal

pub returns-in-Some : goal.returns-in-Some
returns-in-Some c =
    ap (λ (o : Option Last). unwrap_or o first_version) (sym (get_at c.self.inside.versions.entries c.args.label.now ∙ sym c.get.ensures.value ∙ ap option_copied c.in-Some.is))
    ∙ ap (λ (it : Replica). last_of it c.args.label.now) c.self.view_is

pub returns-in-None : goal.returns-in-None
returns-in-None c =
    ap (λ (n : List ℕ). record { version = record { 0 = 0 }; name = n }) c.from_bytes.ensures
    ∙ ap (λ (o : Option Last). unwrap_or o first_version) (sym (get_at c.self.inside.versions.entries c.args.label.now ∙ sym c.get.ensures.value ∙ ap option_copied c.in-None.is))
    ∙ ap (λ (it : Replica). last_of it c.args.label.now) c.self.view_is
