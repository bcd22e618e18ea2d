-- Two different strings with one name.
use Rattle.std.specs.Prelude.{◌≡◌, ◌≢◌, ◌⊎◌, ℕ, Bool, not, ◌&&◌, List, [], ◌∷◌, ◌++◌, reverse, Contains}
use Rattle.std.specs.List.{list_any}
use Rattle.std.specs.Str.{bytes_eq}
use Rattle.script_terms.specs.declared.script.Script.{Script}
use Rattle.text_model.specs.Requests.{Numbered}
use Rattle.text_model.specs.Named.{named}

-- two strings are different and have one name
abbrev pub clashes : (List ℕ → List ℕ) → List ℕ → List ℕ → Bool
clashes h a b = bytes_eq (h a) (h b) && not (bytes_eq a b)

-- two of the strings clash
abbrev pub has_clash : (List ℕ → List ℕ) → List (List ℕ) → Bool
has_clash h strings = list_any (λ a. list_any (clashes h a) strings) strings

-- of the strings no two different ones have one name
abbrev pub NoClash : (List ℕ → List ℕ) → List (List ℕ) → Type 0
NoClash h strings = (a b : List ℕ) → Contains strings a → Contains strings b → h a ≡ h b → a ≡ b

-- two different strings of a list have one name
pub record IsClash (h : List ℕ → List ℕ) (strings : List (List ℕ)) (old new : List ℕ) : Type 0 where
  pub different : old ≢ new
  pub same : h old ≡ h new
  pub old_named : Contains strings old
  pub new_named : Contains strings new

-- the strings named up to a line of the script clash, and those named before it do not
pub record IsFirstAt (h : List ℕ → List ℕ) (script : Script) (line : ℕ) (old new : List ℕ) : Type 0 where
  pub before : List Numbered
  pub at : Numbered
  pub behind : List Numbered
  pub split : reverse before ++ at ∷ behind ≡ script.lines
  pub number : line ≡ at.0
  pub none : NoClash h (named h script before)
  pub clash : IsClash h (named h script (at ∷ before)) old new

-- the strings that are named at the start clash
pub record IsFirstAtStart (h : List ℕ → List ℕ) (script : Script) (line : ℕ) (old new : List ℕ) : Type 0 where
  pub start : line ≡ 0
  pub clash : IsClash h (named h script []) old new

-- two strings are a clash at a line, which counts from 0, and there is none before it
abbrev pub IsFirstClash : (List ℕ → List ℕ) → Script → ℕ → List ℕ → List ℕ → Type 0
IsFirstClash h script line old new = IsFirstAtStart h script line old new ⊎ IsFirstAt h script line old new
