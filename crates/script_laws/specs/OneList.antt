-- What members have executed is one list. Lists of lines and of requests have the newest first.
use Rattle.std.specs.Prelude.{◌≡◌, ◌≤◌, ◌*◌, ℕ, false, List, ◌++◌, Contains}
use Rattle.pond_base.specs.declared.numbers.MemberId.{MemberId}
use Rattle.guarded_update.specs.declared.request.Request.{Request}
use Rattle.script_terms.specs.declared.script.Script.{Script}
use Rattle.text_model.specs.Requests.{Numbered, submitted}
use Rattle.text_model.specs.Events.{is_declared_faulty}
use Rattle.text_model.specs.Executed.{committed_requests, member_requests}

-- With the newest first, the part is how the whole began.
abbrev pub EndsWith : {X : Type 0} → List X → List X → Type 0
EndsWith {X} whole part = (newer : List X) × (whole ≡ newer ++ part)

-- The committed list of these lines is the one list that correct members have executed, however far each of them came.
pub record IsOneList (h : List ℕ → List ℕ) (script : Script) (lines : List Numbered) : Type 0 where
  -- whatever a correct member has executed after some of the lines is how the committed list began
  pub members : (later earlier : List Numbered) → lines ≡ later ++ earlier → (member : MemberId) → member.0 ≤ 3 * script.setup.f → is_declared_faulty script member.0 ≡ false
      → EndsWith (committed_requests h script lines) (member_requests h script earlier member)
  -- so is what was committed after some of the lines
  pub grows : (later earlier : List Numbered) → lines ≡ later ++ earlier → EndsWith (committed_requests h script lines) (committed_requests h script earlier)
  -- whatever was committed after some of the lines was submitted by one of them
  pub asked : (later earlier : List Numbered) → lines ≡ later ++ earlier → (request : Request) → Contains (committed_requests h script earlier) request → Contains (submitted h earlier) request
