use Rattle.std.proofs.Common.{◌∙◌, ap}
use Rattle.std.specs.FinMap.{from_entries}
use Rattle.replica_model.specs.Replicas.{Versions, with_last}
use Rattle.dissemination.proofs.Maps.{put_in}
use Rattle.dissemination.proofs.replica.Replica.take_last.Goals as goal

pub returns-clause-taken : goal.returns-clause-taken
returns-clause-taken c =
    ap (λ (versions : Versions). record { parent = c.self.inside.parent; cache = c.self.inside.cache; lies = from_entries c.self.inside.lies.entries; versions = versions })
    (put_in c.self.inside.versions.entries c.insert.new.self.entries c.args.label.now c.args.last.now c.in_ok-insert.ensures.updates.0)
    ∙ ap (with_last c.args.label.now c.args.last.now) c.self.view_is
