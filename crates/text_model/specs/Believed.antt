-- What clients of the ring believe after some lines. Lists of lines and of letters have the newest first.
use Rattle.std.specs.Prelude.{ℕ, List, Option}
use Rattle.pond_base.specs.declared.numbers.ClientId.{ClientId}
use Rattle.object_model.specs.Trees.{object_name}
use Rattle.ring_model.specs.Messages.{Client, Letter, Mark}
use Rattle.ring_model.specs.Belief.{believed, replied, heart_of}
use Rattle.script_terms.specs.declared.script.Script.{Script}
use Rattle.text_model.specs.Requests.{Numbered}
use Rattle.text_model.specs.Events.{ring_for, world_of}

-- the letters that were delivered to a client
abbrev pub letters_of : (List ℕ → List ℕ) → Script → List Numbered → ClientId → List Letter
letters_of h script lines client = (world_of h script lines).got (Client client.0)

-- the outcome that a client believes of its request of a number, as it is spelled
abbrev pub believed_outcome : (List ℕ → List ℕ) → Script → List Numbered → ClientId → ℕ → Option (List ℕ)
believed_outcome h script lines client number = believed (ring_for h script) (replied number) (letters_of h script lines client)

-- a client's heart of a label's object: the greatest version of which it believes what root it has
abbrev pub believed_heart : (List ℕ → List ℕ) → Script → List Numbered → ClientId → List ℕ → Option Mark
believed_heart h script lines client label = heart_of (ring_for h script) (object_name h label) (letters_of h script lines client)
