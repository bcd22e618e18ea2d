-- One item more of a list that is read.
use Rattle.std.proofs.Common.{◌≡◌, ℕ, ◌-◌, ◌<◌, List, [], ◌∷◌, ◌++◌, length, Result, Err, ap, subst, ◌∙◌, append_assoc, arith}
use Rattle.std.specs.List.{flat_map, AllByRecursion}
use Rattle.guarded_update.specs.declared.reading.RequestFault.{RequestFault}
use Rattle.guarded_update.specs.declared.reading.RequestFault.TheVariants.{BadRequest, Memory}
use Rattle.guarded_update.specs.declared.update.Action.{Action}
use Rattle.guarded_update.specs.declared.update.Guard.{Guard}
use Rattle.guarded_update.specs.declared.update.Clause.{Clause}
use Rattle.guarded_update.specs.Reads.{Gets}

abbrev pub fails : {X : Type 0} → RequestFault → Result X RequestFault
fails fault = Err fault

-- a fault that is handed on
pub passed : {X Y : Type 0} (fault : RequestFault) (x : X) (y : Y) (l m r s : List ℕ) → Gets (fails {X = X} fault) l x r → Gets (fails {X = Y} fault) m y s
passed BadRequest x y l m r s h = absurd h
passed Memory x y l m r s h = tt

abbrev clause_of : List Guard → List Action → Clause
clause_of guards actions = record { guards = guards; actions = actions }

pub same_clause : (guards : List Guard) (actions : List Action) (c : Clause) → guards ≡ c.guards → actions ≡ c.actions → clause_of guards actions ≡ c
same_clause guards actions c e f = ap (λ gs. clause_of gs actions) e ∙ ap (λ xs. clause_of c.guards xs) f

module _ {X : Type 0} (spell : X → List ℕ) (Is : X → Type 0) where
  -- where the first item is not read, the list is not
  pub item_exit : (fault : RequestFault) (count : ℕ) (old left : List ℕ) (items : List X) → 0 < count → ((x : X) (rest : List ℕ) → Is x → old ≡ spell x ++ rest → Gets (fails {X = X} fault) left x rest)
      → (xs : List X) (rest : List ℕ) → length xs ≡ count → AllByRecursion Is xs → old ≡ flat_map spell xs ++ rest → Gets (fails {X = List X} fault) left (items ++ xs) rest
  item_exit fault count old left items p again [] rest len all e = absurd (omega arith)
  item_exit fault count old left items p again (x ∷ xs) rest len all e =
      passed fault _ _ _ _ _ _ (again x (flat_map spell xs ++ rest) all.0 (e ∙ append_assoc (spell x) (flat_map spell xs) rest))

  -- where it is, the others decide
  pub item_step : (count : ℕ) (old mid left : List ℕ) (items pushed : List X) (found : X) (r : Result (List X) RequestFault) → 0 < count
      → ((x : X) (rest : List ℕ) → Is x → old ≡ spell x ++ rest → (found ≡ x) × (mid ≡ rest))
      → pushed ≡ items ++ found ∷ []
      → ((xs : List X) (rest : List ℕ) → length xs ≡ count - 1 → AllByRecursion Is xs → mid ≡ flat_map spell xs ++ rest → Gets r left (pushed ++ xs) rest)
      → (xs : List X) (rest : List ℕ) → length xs ≡ count → AllByRecursion Is xs → old ≡ flat_map spell xs ++ rest → Gets r left (items ++ xs) rest
  item_step count old mid left items pushed found r p again more others [] rest len all e = absurd (omega arith)
  item_step count old mid left items pushed found r p again more others (x ∷ xs) rest len all e =
      let one = again x (flat_map spell xs ++ rest) all.0 (e ∙ append_assoc (spell x) (flat_map spell xs) rest) in
      let whole : pushed ++ xs ≡ items ++ x ∷ xs = ap (λ ys. ys ++ xs) (more ∙ ap (λ y. items ++ y ∷ []) one.0) ∙ append_assoc items (x ∷ []) xs in
      subst (λ ys. Gets r left ys rest) whole (others xs rest (omega arith) all.1 one.1)
