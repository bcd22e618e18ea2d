-- What the lines before a line declared and sent. The list of them has the newest first.
use Rattle.std.specs.Prelude.{ℕ, Bool, true, false, List, [], ◌∷◌, length, map, reverse, ◌==◌, Option, Some, None}
use Rattle.std.specs.List.{filter, flat_map, range_with_len}
use Rattle.std.specs.Option.{unwrap_or}
use Rattle.pond_base.specs.declared.numbers.ClientId.{ClientId}
use Rattle.pond_base.specs.declared.numbers.MemberId.{MemberId}
use Rattle.script_terms.specs.declared.declaration.Declaration.TheVariants.{Pond, Ring, Faulty, Block, Clients, Home}
use Rattle.script_terms.specs.declared.item.Item.{Item}
use Rattle.script_terms.specs.declared.item.Item.TheVariants.{Declared, Event}
use Rattle.script_terms.specs.declared.line.Line.TheVariants.{Submit, Resubmit, ForgeOrder, ForgePrepare, ForgeCommit, ForgeHeart, ForgeRaw}

-- the rank of what a line says: declarations have 1 to 8, and events have 9
abbrev pub rank : Item → ℕ
rank (Declared Pond) = 1
rank (Declared (Ring f)) = 2
rank (Declared (Faulty member)) = 3
rank (Declared (Block size)) = 4
rank (Declared (Clients count)) = 6
rank (Declared (Home client member)) = 8
rank (Event line) = 9

-- the rank of the last line, and 0 where none has come
abbrev pub last_rank : List Item → ℕ
last_rank [] = 0
last_rank (item ∷ earlier) = rank item

-- how many faulty members the ring tolerates, where a line declares it
abbrev pub ring_in : Item → Option ℕ
ring_in (Declared (Ring f)) = Some f
ring_in item = None

-- the bytes of a whole leaf, where a line declares it
abbrev pub block_in : Item → Option ℕ
block_in (Declared (Block size)) = Some size
block_in item = None

-- how many clients there are, where a line declares it
abbrev pub clients_in : Item → Option ℕ
clients_in (Declared (Clients count)) = Some count
clients_in item = None

-- what one of the lines declares, or a number where none does
abbrev pub declared_or : ℕ → (Item → Option ℕ) → List Item → ℕ
declared_or default in_item [] = default
declared_or default in_item (item ∷ earlier) = unwrap_or (in_item item) (declared_or default in_item earlier)

-- the member that a line declares faulty, if it does
abbrev pub faulty_in : Item → List MemberId
faulty_in (Declared (Faulty member)) = member ∷ []
faulty_in item = []

-- the home that a line declares, if it does: a client, and the member where it reads
abbrev pub home_in : Item → List (ClientId × MemberId)
home_in (Declared (Home client member)) = (client, member) ∷ []
home_in item = []

-- all that the lines declare, in their order
abbrev pub all_declared : {X : Type 0} → (Item → List X) → List Item → List X
all_declared in_item lines = flat_map in_item (reverse lines)

-- an event line
abbrev pub is_event : Item → Bool
is_event (Event line) = true
is_event item = false

-- a line that counts among the submits, resubmits and forgeries
abbrev pub is_request : Item → Bool
is_request (Event (Submit client label clauses)) = true
is_request (Event (Resubmit client number)) = true
is_request (Event (ForgeOrder member to seq client number)) = true
is_request (Event (ForgePrepare member to seq client number)) = true
is_request (Event (ForgeCommit member to seq client number)) = true
is_request (Event (ForgeHeart member to label version name)) = true
is_request (Event (ForgeRaw member to content)) = true
is_request item = false

-- a submit of a client
abbrev pub is_submit_of : ℕ → Item → Bool
is_submit_of number (Event (Submit client label clauses)) = client.0 == number
is_submit_of number item = false

-- how many submits of a client there are
abbrev pub submits_of : List Item → ℕ → ℕ
submits_of lines client = length (filter (is_submit_of client) lines)

-- all that a line is checked against; the submits are those of each client, of which there are 16 at most
pub record Known : Type 0 where
  pub last : ℕ
  pub ring : ℕ
  pub faulty : List MemberId
  pub block : ℕ
  pub clients : ℕ
  pub homes : List (ClientId × MemberId)
  pub submits : List ℕ
  pub requests : ℕ
  pub events : ℕ

-- what is known behind some lines
abbrev pub known : List Item → Known
known earlier = record {
  last = last_rank earlier;
  ring = declared_or 0 ring_in earlier;
  faulty = all_declared faulty_in earlier;
  block = declared_or 8192 block_in earlier;
  clients = declared_or 1 clients_in earlier;
  homes = all_declared home_in earlier;
  submits = map (submits_of earlier) (range_with_len 0 16);
  requests = length (filter is_request earlier);
  events = length (filter is_event earlier);
}
