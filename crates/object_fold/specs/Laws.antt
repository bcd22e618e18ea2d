-- What follows from the definitions.
use Rattle.std.specs.Prelude.{ℕ, ◌≤◌, List, ◌∷◌, length, All}
use Rattle.block_names.specs.Held.{Held}
use Rattle.block_names.specs.Growth.{Holds, Keeps}
use Rattle.guarded_update.specs.declared.request.Request.{Request}
use Rattle.object_fold.specs.Views.{ObjectsView}
use Rattle.object_fold.specs.Executed.{AreAfter, AreKnown}
use Rattle.object_model.specs.Outcomes.{strings_named}

-- objects whose strings a book holds stay so while the book grows
abbrev pub ObjectsStayKnown : Type 0
ObjectsStayKnown = (h : List ℕ → List ℕ) (held now : Held) (objects : ObjectsView) → Keeps held now → AreKnown h held objects → AreKnown h now objects

-- no more versions are made than requests were executed
abbrev pub VersionsAreFew : Type 0
VersionsAreFew = (h : List ℕ → List ℕ) (block : ℕ) (requests : List Request) (objects : ObjectsView) → AreAfter h block requests objects → length objects.made ≤ length requests

-- a book that knows the objects after a request holds the strings of the version that the request made
abbrev pub MadeStringsAreHeld : Type 0
MadeStringsAreHeld = (h : List ℕ → List ℕ) (held : Held) (block : ℕ) (request : Request) (earlier : List Request) (objects : ObjectsView)
    → AreAfter h block (request ∷ earlier) objects → AreKnown h held objects → All (Holds h held) (strings_named h block request earlier)
