-- A world with its book.
use Rattle.std.specs.Prelude.{◌≡◌, ℕ, false, List}
use Rattle.block_names.specs.Held.{Held}
use Rattle.block_names.specs.Growth.{Grew, IsClashIn, Keeps}
use Rattle.block_names.specs.declared.fault.NameFault.{NameFault}
use Rattle.ring_world.specs.declared.state.World.{World}
use Rattle.ring_world.specs.Worlds.{IsKnown}
use Rattle.pond_node.specs.declared.node.Node.{Node}
use Rattle.pond_node.specs.Standing as node

-- a site: what its book holds, and its world
pub record SiteView : Type 0 where
  pub held : Held
  pub world : World Node

-- each site: unless its world has ended, its book holds all that the world named
abbrev pub IsSite : (List ℕ → List ℕ) → SiteView → Type 0
IsSite h site = site.world.ended ≡ false → IsKnown node.IsKnown h site.held site.world

-- where some strings of a kind were named beside those that were held, a fault is a clash of a string of the kind with one that is held then
abbrev pub IsClashAfter : (List ℕ → List ℕ) → Held → (List ℕ → Type 0) → NameFault → Type 0
IsClashAfter h held Of fault = (now : Held) × Grew h held Of now × IsClashIn h now Of fault

-- What a world named stays known while the book grows.
abbrev pub WorldsStayKnown : Type 0
WorldsStayKnown = (h : List ℕ → List ℕ) (held now : Held) (world : World Node) → Keeps held now → IsKnown node.IsKnown h held world → IsKnown node.IsKnown h now world
