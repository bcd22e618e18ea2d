-- Who can be a member, of whatever ring.
use Rattle.std.specs.Prelude.{◌<◌, List}
use Rattle.std.specs.List.{AllByRecursion}
use Rattle.ring_message.specs.declared.message.Out.{Out}
use Rattle.ring_model.specs.Messages.{Party, Member, Client}
use Rattle.message_model.specs.Meaning.{who}

-- one of the ten members that a ring has at most
abbrev pub IsMember : Party → Type 0
IsMember (Member i) = i < 10
IsMember (Client c) = ⊥

-- each goes to a member
abbrev pub AreToMembers : List Out → Type 0
AreToMembers outs = AllByRecursion (λ out. IsMember (who out.to)) outs
