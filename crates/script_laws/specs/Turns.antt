-- What follows of lines that are within their limits, for who goes through them. A list of lines that came has the newest first.
use Rattle.std.specs.Prelude.{◌≡◌, ◌≤◌, ℕ, List, ◌∷◌, ◌++◌, length, reverse}
use Rattle.guarded_update.specs.declared.setup.Setup.{Setup}
use Rattle.pond_base.specs.declared.numbers.ClientId.{ClientId}
use Rattle.pond_base.specs.declared.numbers.MemberId.{MemberId}
use Rattle.text_model.specs.Requests.{Numbered, count_of, submitted}
use Rattle.script_laws.specs.Limits.{IsMember, IsFaulty, LineFits, LinesFit, SetupFits, requests_in, submits_in}

-- a line is within its limits behind those before it
abbrev pub LinesFitInTurn : Type 0
LinesFitInTurn = (setup : Setup) (before : List Numbered) (line : Numbered) (rest : List Numbered) → LinesFit setup (reverse (before ++ line ∷ rest)) → LineFits setup (reverse before) line.1

-- the submits of a client are the requests that lines submit of it
abbrev pub SubmitsAreRequests : Type 0
SubmitsAreRequests = (h : List ℕ → List ℕ) (lines : List Numbered) (client : ClientId) → count_of client (submitted h lines) ≡ submits_in lines client

-- no more requests are submitted than lines count as such
abbrev pub FewAreSubmitted : Type 0
FewAreSubmitted = (h : List ℕ → List ℕ) (lines : List Numbered) → length (submitted h lines) ≤ requests_in lines

-- a member that is declared faulty is one of the ring
abbrev pub FaultyAreMembers : Type 0
FaultyAreMembers = (setup : Setup) (member : MemberId) → SetupFits setup → IsFaulty setup member → IsMember setup member
