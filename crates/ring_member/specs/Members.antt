-- A member, and the letters that it stands for.
use Rattle.std.specs.Prelude.{◌≡◌, ℕ, zero, suc, ◌+◌, ◌-◌, ◌==◌, cond, List, [], ◌++◌, length, Option, None, slice_get, count_by}
use Rattle.std.specs.List.{range_with_len}
use Rattle.guarded_update.specs.declared.request.Request.{Request as Asked}
use Rattle.guarded_update.specs.Fitting.{IsRequest}
use Rattle.guarded_update.specs.Spelling.{request_string}
use Rattle.quorum.specs.declared.phase.Phase.{Phase}
use Rattle.quorum.specs.declared.phase.Phase.TheVariants as phase
use Rattle.ring_model.specs.Messages.{Ring, Letter, Packet, Message, Member as AMember, PrePrepare, Prepare, Commit, to_members}
use Rattle.ring_model.specs.Member.{order_at, endorsed, prepared, executed, newly}
use Rattle.member_orders.specs.Told.{orders_told}
use Rattle.member_orders.specs.Views as orders
use Rattle.member_orders.specs.Standing as ordering
use Rattle.ring_member.specs.declared.member.Member.{Member}
use Rattle.ring_member.specs.Views.{view_of}
use Rattle.ring_member.specs.Standing.{has_letter, Stands}
use Rattle.ring_member.specs.Told.{votes_told}

-- The bytes spell a request of this client and number.
pub record IsOwn (bytes : List ℕ) (client number : ℕ) : Type 0 where
  pub request : Asked
  pub is : IsRequest request
  pub spelled : bytes ≡ request_string request
  pub client_is : request.client.0 ≡ client
  pub number_is : request.number ≡ number

-- Member i of a ring stands for these letters.
pub record StandsFor (g : Ring) (i : ℕ) (m : Member) (got : List Letter) : Type 0 where
  pub is : m.id.0 ≡ i
  pub progress_stands : Stands g m.progress.f (view_of m.progress) got
  pub orders_stand : i ≡ 0 → ordering.Stands g (orders.view_of m.orders) got

-- a vote of a phase
abbrev pub vote_of : Phase → ℕ → List ℕ → Message
vote_of phase.Prepare s d = Prepare s d
vote_of phase.Commit s d = Commit s d

-- what a member newly tells all members
abbrev pub told : Ring → ℕ → List Letter → List Letter → List Message
told g i older got = cond (i == 0) (orders_told g older got) [] ++ votes_told g older got

-- what a member sends to members as its letters grow: PrePrepares if it is member 0, then Prepares, then Commits
abbrev pub sent_to_members : Ring → ℕ → List Letter → List Letter → List Packet
sent_to_members g i older got =
    cond (i == 0) (newly g (order_at g older) (order_at g got) (λ k r. to_members g (AMember i) (PrePrepare k r))) []
    ++ newly g (endorsed g older) (endorsed g got) (λ s r. to_members g (AMember i) (Prepare s (g.h r)))
    ++ newly g (prepared g older) (prepared g got) (λ s r. to_members g (AMember i) (Commit s (g.h r)))

-- the entry at a place, counted from 1
abbrev pub entry : {X : Type 0} → List X → ℕ → Option X
entry xs zero = None
entry xs (suc k) = slice_get xs k

-- how many slots above the executed ones a letter was for
abbrev pub slots_with_letters : Ring → List Letter → ℕ
slots_with_letters g got = count_by (has_letter got) (range_with_len (length (executed g got) + 1) (65536 - length (executed g got)))
