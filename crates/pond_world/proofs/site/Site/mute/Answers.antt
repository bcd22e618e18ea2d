use Rattle.pond_world.proofs.Sites.{still_going}
use Rattle.pond_world.proofs.site.Site.mute.Goals as goal

pub invariant_of-self : goal.invariant_of-self
invariant_of-self g c = λ going.
    c.mute.ensures.known g.H.Hash160.naming c.self.inside.book.held (c.self.invariant (still_going c.mute.result c.mute.new.self.ended c.self.inside.world.ended c.mute.ensures.going c.mute.ensures.ends going))

pub returns-clause-stands : goal.returns-clause-stands
returns-clause-stands g c = rw (← c.self.view_is) c.mute.ensures.stands

pub returns-clause-lost : goal.returns-clause-lost
returns-clause-lost g c = rw (← c.self.view_is) c.mute.ensures.lost

pub returns-clause-muted : goal.returns-clause-muted
returns-clause-muted g c = rw (← c.self.view_is) c.mute.ensures.muted
