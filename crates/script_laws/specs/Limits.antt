-- What a text that is a script is known to keep to. A list of lines that came has the newest first.
use Rattle.std.specs.Prelude.{◌≡◌, ◌≢◌, ◌≤◌, ◌<◌, ◌*◌, ℕ, List, [], ◌∷◌, length, map, reverse, IsTrue, Ok}
use Rattle.std.specs.List.{AllByRecursion, filter}
use Rattle.guarded_update.specs.declared.setup.Setup.{Setup}
use Rattle.guarded_update.specs.declared.update.Update.{Update}
use Rattle.guarded_update.specs.Fitting.{update_fits}
use Rattle.pond_base.specs.declared.numbers.ClientId.{ClientId}
use Rattle.pond_base.specs.declared.numbers.MemberId.{MemberId}
use Rattle.pond_base.specs.declared.numbers.Party.{Party}
use Rattle.pond_base.specs.declared.numbers.Party.TheVariants.{Member, Client}
use Rattle.script_terms.specs.declared.item.Item.{Item}
use Rattle.script_terms.specs.declared.item.Item.TheVariants.{Event}
use Rattle.script_terms.specs.declared.line.Line.{Line}
use Rattle.script_terms.specs.declared.line.Line.TheVariants.{Submit, ForgeRaw}
use Rattle.script_terms.specs.declared.line.LineClause.{LineClause}
use Rattle.script_terms.specs.declared.line.LineGuard.{LineGuard}
use Rattle.script_terms.specs.declared.line.LineGuard.TheVariants.{VersionIs, SizeIs, BlockIs}
use Rattle.script_terms.specs.declared.script.Script.{Script}
use Rattle.script_grammar.specs.Asks.{Ask, OfMember, OfClient, OfParty, OfFaulty, OfRequest, OfSlot, FromOne, Changing, is_among, asks}
use Rattle.script_grammar.specs.Known.{is_request, submits_of}
use Rattle.script_grammar.specs.Script.{script_of}
use Rattle.text_model.specs.Requests.{Numbered, clause_of}

-- the update of a line
abbrev pub update_of : (List ℕ → List ℕ) → List LineClause → Update
update_of h clauses = record { clauses = map (clause_of h) clauses }

-- the content of a block guard is that of a leaf
abbrev pub GuardFits : LineGuard → Type 0
GuardFits (VersionIs version) = Unit {0}
GuardFits (SizeIs size) = Unit {0}
GuardFits (BlockIs place content) = (1 ≤ length content) × (length content ≤ 8192)

-- an update is within its limits, whatever the names of its guards are, and so are its guards
abbrev pub UpdateFits : List LineClause → Type 0
UpdateFits clauses = ((h : List ℕ → List ℕ) → IsTrue (update_fits (update_of h clauses))) × AllByRecursion (λ (c : LineClause). AllByRecursion GuardFits c.guards) clauses

-- a member of the ring
abbrev pub IsMember : Setup → MemberId → Type 0
IsMember setup member = member.0 ≤ 3 * setup.f

-- a client that is declared
abbrev pub IsClient : Setup → ClientId → Type 0
IsClient setup client = client.0 < setup.clients

-- a member of the ring, or a client that is declared
abbrev pub IsParty : Setup → Party → Type 0
IsParty setup (Member member) = IsMember setup member
IsParty setup (Client client) = IsClient setup client

-- a member is declared faulty
abbrev pub IsFaulty : Setup → MemberId → Type 0
IsFaulty setup member = IsTrue (is_among setup.faulty member.0)

-- the items that lines are
abbrev pub items_of : List Numbered → List Item
items_of lines = map (λ (line : Numbered). Event line.1) lines

-- how many submits, resubmits and forgeries are among lines
abbrev pub requests_in : List Numbered → ℕ
requests_in lines = length (filter is_request (items_of lines))

-- how many submits of a client are among lines
abbrev pub submits_in : List Numbered → ClientId → ℕ
submits_in lines client = submits_of (items_of lines) client.0

-- earlier lines submit a client's request of a number
abbrev pub HasSent : Setup → List Numbered → ClientId → ℕ → Type 0
HasSent setup earlier client number = IsClient setup client × (1 ≤ number) × (number ≤ submits_in earlier client)

-- what a line asks for is there behind earlier ones
abbrev pub Meets : Setup → List Numbered → Ask → Type 0
Meets setup earlier (OfMember member) = member ≤ 3 * setup.f
Meets setup earlier (OfClient client) = client < setup.clients
Meets setup earlier (OfParty party) = IsParty setup party
Meets setup earlier (OfFaulty member) = IsTrue (is_among setup.faulty member)
Meets setup earlier (OfRequest client number) = (1 ≤ number) × (number ≤ submits_of (items_of earlier) client)
Meets setup earlier (OfSlot seq) = (1 ≤ seq) × (seq ≤ 65536)
Meets setup earlier (FromOne number) = 1 ≤ number
Meets setup earlier (Changing clauses) = Unit {0}

-- a line is small enough behind earlier ones: a submit's update, and a faulty member's bytes
abbrev pub IsLight : List Numbered → Line → Type 0
IsLight earlier (Submit client label clauses) = UpdateFits clauses × (requests_in earlier < 1024)
IsLight earlier (ForgeRaw member to content) = (1 ≤ length content) × (length content ≤ 65536)
IsLight earlier line = Unit {0}

-- a line is within its limits behind earlier ones
pub record LineFits (setup : Setup) (earlier : List Numbered) (line : Line) : Type 0 where
  pub meets : AllByRecursion (Meets setup earlier) (asks line)
  pub light : IsLight earlier line

-- each line is within its limits behind those before it
abbrev pub LinesFit : Setup → List Numbered → Type 0
LinesFit setup [] = Unit {0}
LinesFit setup (line ∷ earlier) = LineFits setup earlier line.1 × LinesFit setup earlier

-- no member stands twice
abbrev pub AreDifferent : List MemberId → Type 0
AreDifferent [] = Unit {0}
AreDifferent (member ∷ members) = AllByRecursion (λ (other : MemberId). other.0 ≢ member.0) members × AreDifferent members

-- a setup is within its limits
pub record SetupFits (setup : Setup) : Type 0 where
  pub small : setup.f ≤ 3
  pub some_client : 1 ≤ setup.clients
  pub few_clients : setup.clients ≤ 16
  pub few_faulty : length setup.faulty ≤ setup.f
  pub members : AllByRecursion (IsMember setup) setup.faulty
  pub differ : AreDifferent setup.faulty
  pub least : 64 ≤ setup.block
  pub most : setup.block ≤ 8192

-- a script is within its limits
pub record IsWithin (script : Script) : Type 0 where
  pub setup : SetupFits script.setup
  pub few : length script.lines ≤ 16384
  pub lines : LinesFit script.setup (reverse script.lines)

-- each text that is a script is one within its limits
abbrev pub ScriptsAreWithin : Type 0
ScriptsAreWithin = (text : List ℕ) (script : Script) → script_of text ≡ Ok script → IsWithin script
