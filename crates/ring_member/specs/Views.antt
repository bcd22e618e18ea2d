-- What is kept of letters, and what it decides.
use Rattle.std.specs.Prelude.{◌≡◌, ℕ, ◌+◌, ◌*◌, ◌≤◌, Bool, true, cond, ◌==◌, nat_le, List, [], ◌∷◌, ◌++◌, length, Option, Some, None, is_some, bytes_eq}
use Rattle.std.specs.Option.{option_or}
use Rattle.std.specs.Ordering.{nat_cmp}
use Rattle.std.specs.Map.{lookup}
use Rattle.std.specs.BTreeMap.{is_at}
use Rattle.std.specs.Cmp.Lexicographic.{slice_cmp}
use Rattle.quorum.specs.declared.phase.Phase.{Phase}
use Rattle.quorum.specs.declared.phase.Phase.TheVariants.{Prepare, Commit}
use Rattle.quorum.specs.Tallies.{count}
use Rattle.quorum.specs.Windows.{Votes, first, said_above}
use Rattle.ring_model.specs.History.{is_name, passing}
use Rattle.ring_message.specs.Grammar.{IsSlot}
use Rattle.ring_member.specs.declared.progress.Progress.{Progress}

pub record View : Type 0 where
  -- the first votes for the slots above the executed ones
  pub votes : Votes
  -- the slots above the executed ones that a letter was for, each with the request of its first order
  pub slot : ℕ → Option (Option (List ℕ))
  -- the names of the requests that came from their clients
  pub name : List ℕ → Option (List ℕ)
  -- the executed requests
  pub done : List (List ℕ)

abbrev pub view_of : Progress → View
view_of p = record {
  votes = p.votes;
  slot = λ s. lookup (is_at (nat_cmp s)) p.slots.entries;
  name = λ r. lookup (is_at (slice_cmp nat_cmp r)) p.names.entries;
  done = p.done;
}

abbrev pub inner : {Y : Type 0} → Option (Option Y) → Option Y
inner None = None
inner (Some o) = o

abbrev pub and_then : {X Y : Type 0} → Option X → (X → Option Y) → Option Y
and_then None f = None
and_then (Some x) f = f x

-- the request of the first order for a slot
abbrev pub proposal : View → ℕ → Option (List ℕ)
proposal v s = inner (v.slot s)

-- whether it is this request
abbrev pub is_order : View → List ℕ → ℕ → Bool
is_order v r s = is_name r (proposal v s)

-- its name, once it came from its client too
abbrev pub endorsed_in : View → ℕ → Option (List ℕ)
endorsed_in v s = and_then (proposal v s) v.name

-- whether 2f+1 members vote for a name
abbrev pub is_voted : ℕ → Phase → View → ℕ → List ℕ → Bool
is_voted f p v s d = nat_le (2 * f + 1) (count (first v.votes p s) d)

abbrev pub prepared_in : ℕ → View → ℕ → Option (List ℕ)
prepared_in f v s = passing (is_voted f Prepare v s) (endorsed_in v s)

abbrev pub committed_in : ℕ → View → ℕ → Option (List ℕ)
committed_in f v s = passing (is_voted f Commit v s) (prepared_in f v s)

-- the request of a slot that can be executed
abbrev pub ready_in : ℕ → View → ℕ → Option (List ℕ)
ready_in f v s = cond (is_some (committed_in f v s)) (proposal v s) None

-- A vote for a slot above the executed ones is counted where it is its sender's first.
pub record Casts (v : View) (phase : Phase) (seq sender : ℕ) (name : List ℕ) (w : View) : Type 0 where
  pub first_votes : (p : Phase) (s j : ℕ) → first w.votes p s j ≡ option_or (first v.votes p s j) (said_above v.votes.floor phase seq sender name p s j)
  pub floor_is : w.votes.floor ≡ v.votes.floor
  pub slots : (s : ℕ) → w.slot s ≡ cond (s == seq) (Some (proposal v s)) (v.slot s)
  pub names : (r : List ℕ) → w.name r ≡ v.name r
  pub done_is : w.done ≡ v.done

-- The first order of a slot counts.
pub record Proposes (v : View) (seq : ℕ) (request : List ℕ) (w : View) : Type 0 where
  pub votes_are : w.votes ≡ v.votes
  pub slots : (s : ℕ) → w.slot s ≡ cond (s == seq) (Some (option_or (proposal v s) (Some request))) (v.slot s)
  pub names : (r : List ℕ) → w.name r ≡ v.name r
  pub done_is : w.done ≡ v.done

-- A request that came has a name.
pub record Hears (v : View) (request name : List ℕ) (w : View) : Type 0 where
  pub votes_are : w.votes ≡ v.votes
  pub slots : (s : ℕ) → w.slot s ≡ v.slot s
  pub names : (r : List ℕ) → w.name r ≡ cond (bytes_eq request r) (Some name) (v.name r)
  pub done_is : w.done ≡ v.done

-- The next slot is executed, and nothing is kept of it but its request.
pub record Executes (v : View) (request : List ℕ) (w : View) : Type 0 where
  pub first_votes : (p : Phase) (s j : ℕ) → first w.votes p s j ≡ cond (nat_le s (length v.done + 1)) None (first v.votes p s j)
  pub floor_is : w.votes.floor ≡ length v.done + 1
  pub slots : (s : ℕ) → w.slot s ≡ cond (s == length v.done + 1) None (v.slot s)
  pub names : (r : List ℕ) → w.name r ≡ v.name r
  pub done_is : w.done ≡ v.done ++ request ∷ []

-- A ring tolerates at most 3 faulty members and has 65,536 slots, and no vote is dropped before its slot is executed.
pub record IsWhole (p : Progress) : Type 0 where
  pub few : p.f ≤ 3
  pub within : length p.done ≤ 65536
  pub floor : p.votes.floor ≤ length p.done
  pub numbered : (s : ℕ) → is_some ((view_of p).slot s) ≡ true → IsSlot s
