-- Messages as they are told of: their parties, and their place counted from 1.
use Rattle.std.specs.Prelude.{ℕ, ◌+◌, ◌==◌, ◌&&◌, ◌||◌, Bool, List}
use Rattle.std.specs.List.{list_any}
use Rattle.pond_base.specs.declared.numbers.Party.{Party}
use Rattle.ring_model.specs.Messages.{Party as Who, same_party}
use Rattle.ring_model.specs.Places.{Place}
use Rattle.message_model.specs.Meaning.{who}

-- a message of this sender to this receiver, by its place from 1 on
abbrev pub Told : Type 0
Told = Party × Party × ℕ

abbrev pub told : Told → Who × Who × ℕ
told t = (who t.0, who t.1, t.2)

-- a place, counted from 1
abbrev pub counted : Place → Who × Who × ℕ
counted a = (a.from, a.to, a.place + 1)

-- whether this message stands at this place
abbrev pub stands_at : Place → Told → Bool
stands_at a t = same_party (who t.0) a.from && same_party (who t.1) a.to && t.2 == a.place + 1

-- whether one of these parties sends or receives the message
abbrev pub touches : List Party → Place → Bool
touches muted a = list_any (λ p. same_party (who p) a.from || same_party (who p) a.to) muted
