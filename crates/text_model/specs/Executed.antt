-- What members of the ring have executed after some lines. Lists of requests have the newest first.
use Rattle.std.specs.Prelude.{ℕ, List}
use Rattle.guarded_update.specs.declared.request.Request.{Request}
use Rattle.pond_base.specs.declared.numbers.MemberId.{MemberId}
use Rattle.ring_model.specs.Messages.{Member}
use Rattle.ring_model.specs.Member.{executed}
use Rattle.ring_model.specs.World.{chosen}
use Rattle.fold_model.specs.Folds.{requests_of}
use Rattle.script_terms.specs.declared.script.Script.{Script}
use Rattle.text_model.specs.Requests.{Numbered}
use Rattle.text_model.specs.Events.{ring_for, world_of}

-- the committed list: the longest executed list of a correct member
abbrev pub committed_requests : (List ℕ → List ℕ) → Script → List Numbered → List Request
committed_requests h script lines = requests_of (chosen (ring_for h script) (world_of h script lines))

-- what a member executed
abbrev pub member_requests : (List ℕ → List ℕ) → Script → List Numbered → MemberId → List Request
member_requests h script lines member = requests_of (executed (ring_for h script) ((world_of h script lines).got (Member member.0)))
