use Rattle.std.proofs.Common.{◌∙◌, ap}
use Rattle.std.specs.FinMap.{from_entries}
use Rattle.replica_model.specs.Replicas.{Strings, with_lie}
use Rattle.dissemination.proofs.Maps.{put_in}
use Rattle.dissemination.proofs.replica.Replica.lie.Goals as goal

pub returns-clause-told : goal.returns-clause-told
returns-clause-told c =
    ap (λ (lies : Strings). record { parent = c.self.inside.parent; cache = c.self.inside.cache; lies = lies; versions = from_entries c.self.inside.versions.entries })
    (put_in c.self.inside.lies.entries c.insert.new.self.entries c.args.name c.args.bytes c.in_ok-insert.ensures.updates.0)
    ∙ ap (with_lie c.args.name c.args.bytes) c.self.view_is
