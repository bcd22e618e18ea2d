use Rattle.pond_world.proofs.site.Site.settle.Goals as goal

pub returns-clause-settles : goal.returns-clause-settles
returns-clause-settles g c = rw (← c.self.view_is) c.settle.ensures.settles

pub returns-clause-delivered : goal.returns-clause-delivered
returns-clause-delivered g c = rw (← c.self.view_is) c.settle.ensures.delivered

pub returns-clause-executed : goal.returns-clause-executed
returns-clause-executed g c = rw (← c.self.view_is) c.settle.ensures.executed

pub returns-clause-apart : goal.returns-clause-apart
returns-clause-apart g c = rw (← c.self.view_is) c.settle.ensures.apart

pub returns-clause-all : goal.returns-clause-all
returns-clause-all g c = rw (← c.self.view_is) c.settle.ensures.all

pub returns-clause-fault : goal.returns-clause-fault
returns-clause-fault g c = rw (← c.self.view_is) c.settle.ensures.fault

pub returns-clause-clash : goal.returns-clause-clash
returns-clause-clash g c = rw (← c.self.view_is) c.settle.ensures.clash

pub returns-clause-grows : goal.returns-clause-grows
returns-clause-grows g c = rw (← c.self.view_is) c.settle.ensures.grows
