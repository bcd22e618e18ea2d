-- What lines ask of the lines before them, and what is known of these says whether it is so.
use Rattle.std.specs.Prelude.{ℕ, ◌*◌, Bool, true, List, [], ◌∷◌, length, nat_le, nat_lt, slice_index, ◌==◌, ◌&&◌, ◌||◌}
use Rattle.std.specs.List.{list_all, list_any}
use Rattle.guarded_update.specs.declared.update.Action.{Action}
use Rattle.guarded_update.specs.declared.update.Action.TheVariants.{Splice}
use Rattle.pond_base.specs.declared.numbers.ClientId.{ClientId}
use Rattle.pond_base.specs.declared.numbers.MemberId.{MemberId}
use Rattle.pond_base.specs.declared.numbers.Party.{Party}
use Rattle.pond_base.specs.declared.numbers.Party.TheVariants.{Member, Client}
use Rattle.script_terms.specs.declared.line.Line.{Line}
use Rattle.script_terms.specs.declared.line.Line.TheVariants.{Submit, Resubmit, Deliver, Lose, Settle, Mute, Unmute, ForgeOrder, ForgePrepare, ForgeCommit, ForgeHeart, ForgeRaw, Cut, Mend, Read, ShowMember, ShowClient, ShowVersion, ShowRecent}
use Rattle.script_terms.specs.declared.line.LineClause.{LineClause}
use Rattle.script_terms.specs.declared.line.Spot.{Spot}
use Rattle.script_terms.specs.declared.line.Spot.TheVariants as spots
use Rattle.script_grammar.specs.Known.{Known}

-- a number of a member, of which there are 3f + 1
abbrev pub is_member : Known → ℕ → Bool
is_member k member = nat_le member (3 * k.ring)

-- a number of a client
abbrev pub is_client : Known → ℕ → Bool
is_client k client = nat_lt client k.clients

-- a member or a client that is declared
abbrev pub is_party : Known → Party → Bool
is_party k (Member member) = is_member k member.0
is_party k (Client client) = is_client k client.0

-- a number is that of one of some members
abbrev pub is_among : List MemberId → ℕ → Bool
is_among members number = list_any (λ (member : MemberId). member.0 == number) members

-- a member is declared faulty
abbrev pub is_faulty : Known → ℕ → Bool
is_faulty k number = is_among k.faulty number

-- a client has a declared home
abbrev pub has_home : Known → ℕ → Bool
has_home k number = list_any (λ (home : ClientId × MemberId). home.0.0 == number) k.homes

-- a client has sent a request of a number, which are counted from 1
abbrev pub has_sent : Known → ℕ → ℕ → Bool
has_sent k client number = nat_le 1 number && nat_le number (slice_index k.submits client)

-- a sequence number of a slot
abbrev pub is_seq : ℕ → Bool
is_seq seq = nat_le 1 seq && nat_le seq 65536

-- a splice or delete takes out or puts in something
abbrev pub changes : Action → Bool
changes (Splice offset remove content) = nat_le 1 (length content) || nat_le 1 remove
changes action = true

-- what a line asks for
pub data Ask : Type 0 where
  -- a member of this number, a client, a party, a faulty member
  OfMember : ℕ → Ask
  OfClient : ℕ → Ask
  OfParty : Party → Ask
  OfFaulty : ℕ → Ask
  -- a request of a client that was sent, by its number
  OfRequest : ℕ → ℕ → Ask
  -- a slot of this sequence number
  OfSlot : ℕ → Ask
  -- a number from 1 on
  FromOne : ℕ → Ask
  -- splices and deletes that change something
  Changing : List LineClause → Ask

-- it is there
abbrev pub is_met : Known → Ask → Bool
is_met k (OfMember member) = is_member k member
is_met k (OfClient client) = is_client k client
is_met k (OfParty party) = is_party k party
is_met k (OfFaulty member) = is_faulty k member
is_met k (OfRequest client number) = has_sent k client number
is_met k (OfSlot seq) = is_seq seq
is_met k (FromOne number) = nat_le 1 number
is_met k (Changing clauses) = list_all (λ (c : LineClause). list_all changes c.actions) clauses

-- with what was asked before, all of these are there
abbrev pub met_with : Bool → Known → List Ask → Bool
met_with before k [] = before
met_with before k (ask ∷ asks) = met_with (before && is_met k ask) k asks

-- all of these are there
abbrev pub all_met : Known → List Ask → Bool
all_met k [] = true
all_met k (ask ∷ asks) = met_with (is_met k ask) k asks

-- what a place that is cut or mended has to be
abbrev pub spot_asks : Spot → List Ask
spot_asks (spots.Member member) = OfMember member.0 ∷ []

-- what a forgery for a slot asks for
abbrev pub slot_asks : ℕ → Party → ℕ → ℕ → ℕ → List Ask
slot_asks member to seq client number = OfFaulty member ∷ OfParty to ∷ OfSlot seq ∷ OfClient client ∷ OfRequest client number ∷ []

-- what an event asks for
abbrev pub asks : Line → List Ask
asks (Submit client label clauses) = OfClient client.0 ∷ Changing clauses ∷ []
asks (Resubmit client number) = OfClient client.0 ∷ OfRequest client.0 number ∷ []
asks (Deliver sender to place) = OfParty sender ∷ OfParty to ∷ FromOne place ∷ []
asks (Lose sender to place) = OfParty sender ∷ OfParty to ∷ FromOne place ∷ []
asks Settle = []
asks (Mute party) = OfParty party ∷ []
asks (Unmute party) = OfParty party ∷ []
asks (ForgeOrder member to seq client number) = slot_asks member.0 to seq.0 client.0 number
asks (ForgePrepare member to seq client number) = slot_asks member.0 to seq.0 client.0 number
asks (ForgeCommit member to seq client number) = slot_asks member.0 to seq.0 client.0 number
asks (ForgeHeart member to label version name) = OfFaulty member.0 ∷ OfParty to ∷ FromOne version.0 ∷ []
asks (ForgeRaw member to content) = OfFaulty member.0 ∷ OfParty to ∷ []
asks (Cut spot) = spot_asks spot
asks (Mend spot) = spot_asks spot
asks (Read client label) = OfClient client.0 ∷ []
asks (ShowMember member) = OfMember member.0 ∷ []
asks (ShowClient client) = OfClient client.0 ∷ []
asks (ShowVersion member label version) = OfMember member.0 ∷ FromOne version.0 ∷ []
asks ShowRecent = []
