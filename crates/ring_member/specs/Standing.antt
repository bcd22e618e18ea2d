-- What a member keeps, against the letters that it stands for.
use Rattle.std.specs.Prelude.{◌≡◌, ℕ, ◌+◌, ◌-◌, ◌<◌, ◌≤◌, Bool, false, cond, ◌==◌, ◌&&◌, List, ◌++◌, length, Some, None, is_some}
use Rattle.std.specs.List.{list_any, AllByRecursion}
use Rattle.ring_model.specs.Messages.{Ring, Letter, Message, Request, PrePrepare, Prepare, Commit, Party, Member, Client}
use Rattle.ring_model.specs.History.{first_word, run_of}
use Rattle.ring_model.specs.Member.{pre_prepares, asks, committed, executed}
use Rattle.ring_model.specs.World.{IsParty}
use Rattle.vote_model.specs.Joins.{AgreesWith}
use Rattle.ring_member.specs.Views.{View, proposal}

-- the letter of member 0's order of a request into a slot
abbrev pub order : ℕ → List ℕ → Letter
order s r = record { from = Member 0; message = PrePrepare s r }

-- the letter of a request from its client
abbrev pub request_of : Ring → List ℕ → Letter
request_of g r = record { from = Client (g.owner r); message = Request r }

-- whether a message from a party is member 0's order for a slot, or a member's vote for it
abbrev pub is_for : ℕ → Party → Message → Bool
is_for s (Member i) (PrePrepare t r) = i == 0 && t == s
is_for s (Member i) (Prepare t d) = t == s
is_for s (Member i) (Commit t d) = t == s
is_for s _ _ = false

-- whether such a letter was delivered
abbrev pub has_letter : List Letter → ℕ → Bool
has_letter got s = list_any (λ l. is_for s l.from l.message) got

-- Of the slots above the executed ones everything is kept, and of the others nothing.
pub record Live (g : Ring) (f : ℕ) (v : View) (got : List Letter) : Type 0 where
  pub faults : g.f ≡ f
  pub few : f ≤ 3
  pub limit : g.slots ≡ 65536
  pub declared : AllByRecursion (λ l. IsParty g l.from) got
  pub floor_is : v.votes.floor ≡ length v.done
  pub voted : AgreesWith v.votes got
  pub proposed : (s : ℕ) → length v.done < s → proposal v s ≡ first_word (Member 0) (pre_prepares s) got
  pub named : (r : List ℕ) → v.name r ≡ cond (list_any (asks g r) got) (Some (g.h r)) None
  pub kept : (s : ℕ) → length v.done < s → is_some (v.slot s) ≡ has_letter got s
  pub dropped : (s : ℕ) → s ≤ length v.done → v.slot s ≡ None
  pub beyond : (s : ℕ) → 65536 < s → v.slot s ≡ None

-- what is executed is what was done, and then what the slots behind it have
abbrev pub Ran : Ring → View → List Letter → Type 0
Ran g v got = executed g got ≡ v.done ++ run_of (committed g got) (65536 - length v.done) (1 + length v.done)

-- what is kept stands for the letters
pub record Stands (g : Ring) (f : ℕ) (v : View) (got : List Letter) : Type 0 where
  pub live : Live g f v got
  pub ran : v.done ≡ executed g got
