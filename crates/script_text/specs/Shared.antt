-- Events that words of one shape make.
use Rattle.std.specs.Prelude.{ℕ}
use Rattle.pond_base.specs.declared.numbers.Party.{Party}
use Rattle.script_terms.specs.declared.item.Item.{Item}
use Rattle.script_terms.specs.declared.item.Item.TheVariants.{Event}
use Rattle.script_terms.specs.declared.line.Line.TheVariants.{Deliver, Lose, ForgeOrder, ForgePrepare, ForgeCommit, Cut, Mend}
use Rattle.script_terms.specs.declared.line.Spot.{Spot}
use Rattle.script_text.specs.declared.forgeries.Forgery.{Forgery}

-- the delivery of a message
abbrev pub delivery : Party × Party × ℕ → Item
delivery m = Event (Deliver m.0 m.1 m.2)

-- the loss of a message
abbrev pub loss : Party × Party × ℕ → Item
loss m = Event (Lose m.0 m.1 m.2)

-- a forged order of a request
abbrev pub order : Forgery → Item
order it = Event (ForgeOrder it.member it.to it.seq it.client it.number)

-- a forged prepare of a request's name
abbrev pub prepare : Forgery → Item
prepare it = Event (ForgePrepare it.member it.to it.seq it.client it.number)

-- a forged commit of a request's name
abbrev pub commit : Forgery → Item
commit it = Event (ForgeCommit it.member it.to it.seq it.client it.number)

-- the cutting and the mending of a place
abbrev pub cutting : Spot → Item
cutting spot = Event (Cut spot)

abbrev pub mending : Spot → Item
mending spot = Event (Mend spot)
