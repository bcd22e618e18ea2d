-- What is kept for each version of an object, and the votes that it stands for.
use Rattle.std.specs.Prelude.{◌≡◌, ℕ, List, Option, Some, None, refl}
use Rattle.std.specs.Ordering.{nat_cmp, ordering_then}
use Rattle.std.specs.Cmp.Lexicographic.{slice_cmp}
use Rattle.std.specs.declared.cmp.Ordering.{Ordering}
use Rattle.std.specs.FinMap as map
use Rattle.std.specs.Map.{lookup}
use Rattle.std.specs.BTreeMap.{is_at}
use Rattle.std.specs.Coded.{Coded, code_by, coded×, coded_ℕ, coded_list, coded_option}
use Rattle.pond_base.specs.declared.numbers.Version.{Version}
use Rattle.quorum.specs.Tallies.{first_vote}
use Rattle.heartbeat.specs.declared.entry.Entry.{Entry}
use Rattle.heartbeat.specs.Votes.{Vote, first_of, believed_of}

-- an object and a version of it
abbrev pub Key : Type 0
Key = List ℕ × Version

-- keys are in the order of the objects' names, and those of an object in the order of versions
abbrev pub key_cmp : Key → Key → Ordering
key_cmp k l = ordering_then (slice_cmp nat_cmp k.0 l.0) (nat_cmp k.1.0 l.1.0)

-- the key of a version of an object
abbrev pub key_of : List ℕ → ℕ → Key
key_of object version = (object, record { 0 = version })

-- the first vote of a member for a version of which this is kept
abbrev pub first_at : Option Entry → ℕ → Option (List ℕ)
first_at None member = None
first_at (Some entry) member = first_vote entry.tally member

-- the accepted value of a version of which this is kept
abbrev pub value_at : Option Entry → Option (List ℕ)
value_at None = None
value_at (Some entry) = entry.accepted

-- what is kept for each version of an object
abbrev pub Entries : Type 0
Entries = map.FinMap key_cmp Entry

-- how many members must tell a value alike, and what is kept for each version
pub record Board : Type 0 where
  pub need : ℕ
  pub entries : Entries

-- a version is stored as its number
abbrev pub coded_version : Coded Version
coded_version = code_by ℕ coded_ℕ (λ v. v.0) (λ n. record { 0 = n }) (λ _. refl)

-- an entry is stored as its first votes and its accepted value
abbrev pub coded_entry : Coded Entry
coded_entry = code_by (List (Option (List ℕ)) × Option (List ℕ)) (coded× (coded_list (coded_option (coded_list coded_ℕ))) (coded_option (coded_list coded_ℕ))) (λ e. (e.tally, e.accepted)) (λ p. record { tally = p.0; accepted = p.1 }) (λ _. refl)

-- a board is stored as its number and what it keeps
abbrev pub coded_board : Coded Board
coded_board = code_by (ℕ × Entries) (coded× coded_ℕ (map.code (coded× (coded_list coded_ℕ) coded_version) coded_entry)) (λ b. (b.need, b.entries)) (λ p. record { need = p.0; entries = p.1 }) (λ _. refl)

-- what entries keep for a key
abbrev pub kept_at : List (Key × Entry) → Key → Option Entry
kept_at entries key = lookup (is_at (key_cmp key)) entries

-- what is kept for a version of an object
abbrev pub kept : Board → List ℕ → ℕ → Option Entry
kept board object version = map.get board.entries (key_of object version)

-- A board stands for the votes of which it keeps each member's first for each version, and each value that so many have.
pub record StandsFor (need : ℕ) (board : Board) (votes : List Vote) : Type 0 where
  pub needs : board.need ≡ need
  pub firsts : (object : List ℕ) (version member : ℕ) → first_at (kept board object version) member ≡ first_of object version member votes
  pub values : (object : List ℕ) (version : ℕ) → value_at (kept board object version) ≡ believed_of need object version votes
