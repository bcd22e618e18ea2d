-- What the clause that decides comes to.
use Rattle.std.proofs.Common.{◌≡◌, ℕ, Bool, true, false, cond, List, [], ◌∷◌, Option, Some, None, Result, Ok, Err, refl, ap, sym, ◌∙◌}
use Rattle.std.specs.Prelude.{IsOk}
use Rattle.std.specs.List.{list_all}
use Rattle.guarded_update.specs.declared.update.Action.{Action}
use Rattle.guarded_update.specs.declared.update.Clause.{Clause}
use Rattle.object_model.specs.Updates.{Refusal, NoClause, holds, newest, act_all, outcome}
use Rattle.object_fold.specs.Choice.{chosen, measured}

-- what chosen actions make, where there are any
abbrev by_choice : List ℕ → Option (List Action) → Result (List ℕ) Refusal
by_choice bytes None = Err NoClause
by_choice bytes (Some actions) = act_all actions bytes

choice_if : (b : Bool) (bytes : List ℕ) (actions : List Action) (rest : Option (List Action)) → cond b (act_all actions bytes) (by_choice bytes rest) ≡ by_choice bytes (cond b (Some actions) rest)
choice_if true bytes actions rest = refl
choice_if false bytes actions rest = refl

-- an update's outcome is what the actions of the chosen clause make
by_chosen : (h : List ℕ → List ℕ) (block : ℕ) (clauses : List Clause) (versions : List (List ℕ)) → outcome h block clauses versions ≡ by_choice (newest versions) (chosen h block clauses versions)
by_chosen h block [] versions = refl
by_chosen h block (clause ∷ clauses) versions =
    ap (cond (list_all (holds h block versions) clause.guards) (act_all clause.actions (newest versions))) (by_chosen h block clauses versions)
    ∙ choice_if (list_all (holds h block versions) clause.guards) (newest versions) clause.actions (chosen h block clauses versions)

measured_ok : (r : Result (List ℕ) Refusal) (n : ℕ) → measured r ≡ Ok n → IsOk r
measured_ok (Ok bytes) n e = refl
measured_ok (Err refusal) n e = absurd (cc)

measured_err : (r : Result (List ℕ) Refusal) (refusal : Refusal) → measured r ≡ Err refusal → r ≡ Err refusal
measured_err (Ok bytes) refusal e = absurd (cc)
measured_err (Err other) refusal e = let same : other ≡ refusal = cc in ap (λ r. Err r) same

module _ (h : List ℕ → List ℕ) (block : ℕ) (clauses : List Clause) (content : List ℕ) (older : List (List ℕ)) where
  pub none_chosen : None ≡ chosen h block clauses (content ∷ older) → outcome h block clauses (content ∷ older) ≡ Err NoClause
  none_chosen e = by_chosen h block clauses (content ∷ older) ∙ ap (by_choice content) (sym e)

  module _ (actions shown : List Action) (same : shown ≡ actions) (is : Some actions ≡ chosen h block clauses (content ∷ older)) where
    outcome_is : outcome h block clauses (content ∷ older) ≡ act_all shown content
    outcome_is = by_chosen h block clauses (content ∷ older) ∙ ap (by_choice content) (sym is) ∙ ap (λ a. act_all a content) (sym same)

    pub all_done : (n : ℕ) → measured (act_all shown content) ≡ Ok n → (outcome h block clauses (content ∷ older) ≡ act_all shown content) × IsOk (act_all shown content)
    all_done n e = (outcome_is, measured_ok (act_all shown content) n e)

    pub one_failed : (refusal : Refusal) → measured (act_all shown content) ≡ Err refusal → outcome h block clauses (content ∷ older) ≡ Err refusal
    one_failed refusal e = outcome_is ∙ measured_err (act_all shown content) refusal e
