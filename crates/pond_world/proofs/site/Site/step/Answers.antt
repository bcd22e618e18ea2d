use Rattle.pond_world.proofs.site.Site.step.Goals as goal

pub returns-clause-stands : goal.returns-clause-stands
returns-clause-stands g c = rw (← c.self.view_is) c.step.ensures.stands

pub returns-clause-said : goal.returns-clause-said
returns-clause-said g c = rw (← c.self.view_is) c.step.ensures.said

pub returns-clause-grows : goal.returns-clause-grows
returns-clause-grows g c = rw (← c.self.view_is) c.step.ensures.grows

pub returns-clause-apart : goal.returns-clause-apart
returns-clause-apart g c = rw (← c.self.view_is) c.step.ensures.apart
