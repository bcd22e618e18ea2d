use Rattle.std.proofs.Common.{◌≤◌, ◌++◌, ◌∷◌, [], ◌∙◌, ℕ, List, ap, sym, length, arith}
use Rattle.std.proofs.lemmas.List.{take_all}
use Rattle.replica_model.specs.Walks.{names_in_inner}
use Rattle.replica_model.proofs.Standing.{names_are}
use Rattle.dissemination.proofs.Inners.{no_inner, take_one}
use Rattle.dissemination.proofs.walking.inner_names.Goals as goal

pub returns-in_default : goal.returns-in_default
returns-in_default c = c.new-names.ensures ∙ no_inner c.args.string.now c.requires c.in_default.ensures.spelled

pub loop-place-preserved : goal.loop-place-preserved
loop-place-preserved c =
    c.in_ok-push.ensures.ok ∙ ap (λ (names : List (List ℕ)). names ++ c.name.result ∷ []) c.loop-place.invariant
    ∙ sym (take_one c.in-Ok.inner c.loop-place.place c.name.result c.name.ensures)

pub returns : goal.returns
returns c =
    let inner : List (List ℕ) = c.in-Ok.inner in
    let all : length inner ≤ c.loop-place.place = omega (arith, c.count-place-end.ensures.count, c.loop-place-test.false) in
    c.loop-place.invariant ∙ take_all c.loop-place.place inner all ∙ sym (ap names_in_inner c.in-Ok.ensures.read.0 ∙ names_are inner c.in-Ok.ensures.read.1)
