-- What follows from the definitions, and worked cases of them.
use Rattle.std.specs.Prelude.{◌≡◌, ◌⊎◌, ◌<◌, ◌≤◌, ◌^◌, ℕ, true, false, List, [], ◌∷◌, length, replicate, Result, Ok, Err}
use Rattle.std.specs.List.{flat_map, list_any}
use Rattle.std.specs.Str.{bytes_eq}
use Rattle.guarded_update.specs.declared.update.Action.{Action}
use Rattle.guarded_update.specs.declared.update.Action.TheVariants.{Replace, Append, Truncate, Splice}
use Rattle.guarded_update.specs.declared.update.Guard.TheVariants.{SizeIs}
use Rattle.guarded_update.specs.declared.update.Clause.{Clause}
use Rattle.guarded_update.specs.declared.request.Request.{Request}
use Rattle.tree_format.specs.Strings.{leaf_string, inner_string}
use Rattle.tree_format.specs.Grammar.{IsRoot}
use Rattle.object_model.specs.Pieces.{pieces}
use Rattle.object_model.specs.Trees.{strings_of, root_of, version_strings, strings_so_far, stands_in, new_strings}
use Rattle.object_model.specs.Updates.{Refusal, NoClause, OutOfRange, act, act_all, largest, outcome}
use Rattle.object_model.specs.Folds.{same_number, made_by, versions_after}

-- the pieces of a content, one after the other, are the content
abbrev pub PiecesAreTheContent : Type 0
PiecesAreTheContent = (size : ℕ) (content : List ℕ) → 0 < size → flat_map (λ piece. piece) (pieces size content) ≡ content

-- actions on a version of an allowed length make one of an allowed length
abbrev pub VersionsAreShort : Type 0
VersionsAreShort = (actions : List Action) (bytes changed : List ℕ) → length bytes ≤ largest → act_all actions bytes ≡ Ok changed → length changed ≤ largest

-- versions are as they were, or have one more in front
abbrev pub IsOneMore : List (List ℕ) → List (List ℕ) → Type 0
IsOneMore before now = (now ≡ before) ⊎ ((content : List ℕ) × (now ≡ content ∷ before))

-- a request makes at most one version of an object, and the older ones stay
abbrev pub VersionsStay : Type 0
VersionsStay = (h : List ℕ → List ℕ) (block : ℕ) (label : List ℕ) (request : Request) (earlier : List Request)
    → IsOneMore (versions_after h block label earlier) (versions_after h block label (request ∷ earlier))

-- a request of another label leaves the versions of an object as they were
abbrev pub OtherObjectsStay : Type 0
OtherObjectsStay = (h : List ℕ → List ℕ) (block : ℕ) (label : List ℕ) (request : Request) (earlier : List Request)
    → bytes_eq request.label label ≡ false → versions_after h block label (request ∷ earlier) ≡ versions_after h block label earlier

-- a request that was executed before makes nothing
abbrev pub RepeatsMakeNothing : Type 0
RepeatsMakeNothing = (h : List ℕ → List ℕ) (block : ℕ) (request : Request) (earlier : List Request)
    → list_any (same_number request) earlier ≡ true → made_by h block (request ∷ earlier) ≡ made_by h block earlier

-- the roots of versions within the limits have root strings
abbrev pub RootsAreInTheGrammar : Type 0
RootsAreInTheGrammar = (h : List ℕ → List ℕ) (block : ℕ) (content : List ℕ) (older : List (List ℕ)) → ((string : List ℕ) → length (h string) ≡ 20)
    → 64 ≤ block → block ≤ 8192 → length content ≤ largest → length older < 2 ^ 32 → (older ≡ [] → content ≡ []) → IsRoot (root_of h block content older)

-- no string that is new in a version is one of an older version
abbrev pub NewStringsAreNew : Type 0
NewStringsAreNew = (h : List ℕ → List ℕ) (block : ℕ) (content : List ℕ) (older : List (List ℕ)) (string : List ℕ)
    → stands_in string (new_strings h block content older) ≡ true → stands_in string (strings_so_far h block older) ≡ false

-- each string of a version is one of an older version or new
abbrev pub NoStringIsLeftOut : Type 0
NoStringIsLeftOut = (h : List ℕ → List ℕ) (block : ℕ) (content : List ℕ) (older : List (List ℕ)) (string : List ℕ) → stands_in string (version_strings h block content older) ≡ true
    → (stands_in string (strings_so_far h block older) ≡ true) ⊎ (stands_in string (new_strings h block content older) ≡ true)

-- no string stands twice in a list
abbrev pub IsOnce : List (List ℕ) → Type 0
IsOnce [] = Unit {0}
IsOnce (string ∷ strings) = (stands_in string strings ≡ false) × IsOnce strings

-- the new strings of a version are listed once
abbrev pub NewStringsAreListedOnce : Type 0
NewStringsAreListedOnce = (h : List ℕ → List ℕ) (block : ℕ) (content : List ℕ) (older : List (List ℕ)) → IsOnce (new_strings h block content older)

-- the bytes of the text hello
abbrev pub hello : List ℕ
hello = 104 ∷ 101 ∷ 108 ∷ 108 ∷ 111 ∷ []

-- an action, what it is done on, and what comes of it
abbrev pub Acts : Action → List ℕ → Result (List ℕ) Refusal → Type 0
Acts action bytes result = act action bytes ≡ result

-- each action on hello: within the length, and a byte past it
pub record WorkedActions : Type 0 where
  pub append : Acts (Append (33 ∷ [])) hello (Ok (104 ∷ 101 ∷ 108 ∷ 108 ∷ 111 ∷ 33 ∷ []))
  pub replace : Acts (Replace 3 (112 ∷ 33 ∷ [])) hello (Ok (104 ∷ 101 ∷ 108 ∷ 112 ∷ 33 ∷ []))
  pub replace_past : Acts (Replace 4 (112 ∷ 33 ∷ [])) hello (Err OutOfRange)
  pub truncate : Acts (Truncate 5) hello (Ok hello)
  pub truncate_past : Acts (Truncate 6) hello (Err OutOfRange)
  pub splice : Acts (Splice 1 3 (97 ∷ [])) hello (Ok (104 ∷ 97 ∷ 111 ∷ []))
  pub delete : Acts (Splice 0 3 []) hello (Ok (108 ∷ 111 ∷ []))
  pub splice_past : Acts (Splice 3 3 []) hello (Err OutOfRange)

-- a clause without guards
abbrev pub always : List Action → Clause
always actions = record { guards = []; actions = actions }

-- a clause for a version of a size
abbrev pub at_size : ℕ → List Action → Clause
at_size size actions = record { guards = SizeIs size ∷ []; actions = actions }

-- updates of an object whose one version beside version 0 is hello
abbrev pub HasOutcome : List Clause → Result (List ℕ) Refusal → Type 0
HasOutcome clauses result = (h : List ℕ → List ℕ) → outcome h 64 clauses (hello ∷ [] ∷ []) ≡ result

-- the first clause that holds decides, the first action that fails gives the outcome, and without a clause that holds there is none
pub record WorkedUpdates : Type 0 where
  pub first : HasOutcome (at_size 5 (Truncate 1 ∷ []) ∷ always (Truncate 2 ∷ []) ∷ []) (Ok (104 ∷ []))
  pub second : HasOutcome (at_size 4 (Truncate 1 ∷ []) ∷ always (Truncate 2 ∷ []) ∷ []) (Ok (104 ∷ 101 ∷ []))
  pub none : HasOutcome (at_size 4 (Truncate 1 ∷ []) ∷ []) (Err NoClause)
  pub failing : HasOutcome (always (Truncate 1 ∷ Truncate 2 ∷ []) ∷ []) (Err OutOfRange)

-- so many zero bytes
abbrev pub zeros : ℕ → List ℕ
zeros count = replicate count 0

-- the strings of contents of no byte, of 64 bytes and of 65 bytes, with leaves of 64 bytes
pub record WorkedTrees : Type 0 where
  pub empty : (h : List ℕ → List ℕ) → strings_of h 64 [] ≡ []
  pub one_leaf : (h : List ℕ → List ℕ) → strings_of h 64 (zeros 64) ≡ leaf_string (zeros 64) ∷ []
  pub two_leaves : (h : List ℕ → List ℕ)
      → strings_of h 64 (zeros 65) ≡ leaf_string (zeros 64) ∷ leaf_string (zeros 1) ∷ inner_string (h (leaf_string (zeros 64)) ∷ h (leaf_string (zeros 1)) ∷ []) ∷ []
