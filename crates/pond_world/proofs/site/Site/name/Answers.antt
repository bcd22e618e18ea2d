use Rattle.pond_world.proofs.Sites.{world_known}
use Rattle.pond_world.proofs.site.Site.name.Goals as goal

pub invariant_of-self : goal.invariant_of-self
invariant_of-self g c = λ going. world_known g.H.Hash160.naming c.self.inside.book.held c.name.new.self.held c.self.inside.world c.name.ensures.grew.kept (c.self.invariant going)
