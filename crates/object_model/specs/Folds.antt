-- What a list of requests makes. The list has the newest request first, and so have the lists that it makes.
use Rattle.std.specs.Prelude.{ℕ, Bool, ◌&&◌, ◌==◌, List, [], ◌∷◌, ◌++◌, map, filter, if◌then◌else◌, Result, Ok, Err}
use Rattle.std.specs.List.{list_any}
use Rattle.std.specs.Str.{bytes_eq}
use Rattle.guarded_update.specs.declared.request.Request.{Request}
use Rattle.object_model.specs.Updates.{Refusal, outcome}

-- a version that was made: the label of its object, and its bytes
pub record Made : Type 0 where
  pub label : List ℕ
  pub content : List ℕ

-- what a request does: it makes a version with these bytes, it is refused, or it was executed before
pub data Effect : Type 0 where
  Makes : List ℕ → Effect
  Refuses : Refusal → Effect
  Repeats : Effect

-- the versions of the object of a label: those that were made for it, over the empty one that each label has
abbrev pub versions_of : List ℕ → List Made → List (List ℕ)
versions_of label made = map (λ (m : Made). m.content) (filter (λ (m : Made). bytes_eq m.label label) made) ++ [] ∷ []

-- two requests are one client's of one number
abbrev pub same_number : Request → Request → Bool
same_number a b = a.client.0 == b.client.0 && a.number == b.number

-- an outcome, as what a request does
abbrev pub effect_of_outcome : Result (List ℕ) Refusal → Effect
effect_of_outcome (Ok content) = Makes content
effect_of_outcome (Err refusal) = Refuses refusal

-- what a request does after earlier ones, which made these versions
abbrev pub effect : (List ℕ → List ℕ) → ℕ → Request → List Request → List Made → Effect
effect h block request earlier made =
    if list_any (same_number request) earlier then Repeats
    else effect_of_outcome (outcome h block request.update.clauses (versions_of request.label made))

-- the versions that were made, with the one that an effect makes for a label
abbrev pub with_effect : List ℕ → Effect → List Made → List Made
with_effect label (Makes content) made = record { label = label; content = content } ∷ made
with_effect label (Refuses refusal) made = made
with_effect label Repeats made = made

-- the versions that requests make
abbrev pub made_by : (List ℕ → List ℕ) → ℕ → List Request → List Made
made_by h block [] = []
made_by h block (request ∷ earlier) =
    let made = made_by h block earlier in with_effect request.label (effect h block request earlier made) made

-- what requests do, one effect a request
abbrev pub effects_of : (List ℕ → List ℕ) → ℕ → List Request → List Effect
effects_of h block [] = []
effects_of h block (request ∷ earlier) = effect h block request earlier (made_by h block earlier) ∷ effects_of h block earlier

-- the versions of the object of a label after requests
abbrev pub versions_after : (List ℕ → List ℕ) → ℕ → List ℕ → List Request → List (List ℕ)
versions_after h block label requests = versions_of label (made_by h block requests)
