use Rattle.std.proofs.Common.{subst, rules}
use Rattle.object_fold.specs.Executed.{SeesOneMore}
use Rattle.object_fold.proofs.SeenLemmas.{put_pair}
use Rattle.object_fold.proofs.seen.Seen.add.Goals as goal

pub returns : goal.returns
returns c =
    subst (λ keys. SeesOneMore keys c.insert.new.self.keys c.args.client c.args.number) c.self.view_is
    (put_pair _ c.self.inside.pairs.keys c.insert.new.self.keys c.args.client c.args.number (λ p q. search rules) (λ q. c.in_ok-insert.ensures.updates.0 q))
