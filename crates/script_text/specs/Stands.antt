-- What is known of the lines so far.
use Rattle.std.specs.Prelude.{◌≡◌, ◌<◌, true, ◌≤◌, List, []}
use Rattle.script_terms.specs.declared.item.Placed.{Placed}
use Rattle.script_grammar.specs.Known.{Known, known}
use Rattle.script_grammar.specs.Load.{sent, is_borne}
use Rattle.script_grammar.specs.Script.{items}
use Rattle.script_grammar.specs.Steps.{has_room}
use Rattle.script_checks.specs.Loads.{Loaded, Stands}

-- what is known, and a load, stand for some lines that passed all steps, the newest first
pub record StandsFor (k : Known) (loaded : Loaded) (lines : List Placed) : Type 0 where
  pub known : k ≡ known (items lines)
  pub least : 64 ≤ k.block
  pub most : k.block ≤ 8192
  pub clients : k.clients ≤ 16
  pub loads : Stands loaded k.block (sent (items lines))
  pub room : has_room k ≡ true
  pub borne : is_borne k.block (sent (items lines)) ≡ true
  pub quiet : k.last < 9 → sent (items lines) ≡ []
