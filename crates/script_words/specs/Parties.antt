-- Parties by their numbers.
use Rattle.pond_base.specs.declared.numbers.Party.{Party}
use Rattle.pond_base.specs.declared.numbers.Party.TheVariants as parties
use Rattle.script_words.specs.declared.parties.PartyNumber.{PartyNumber}
use Rattle.script_words.specs.declared.parties.PartyNumber.TheVariants.{Member, Client}

-- the party of a number
abbrev pub party_of_number : PartyNumber → Party
party_of_number (Member number) = parties.Member (record { 0 = number })
party_of_number (Client number) = parties.Client (record { 0 = number })
