use Rattle.std.proofs.Common.{◌≡◌, ◌∙◌, subst, List, ℕ, Contains, OnOk, IfErr}
use Rattle.std.proofs.lemmas.Result.{IfErr-weaker, on_ok_weaker}
use Rattle.block_names.specs.Held.{Held}
use Rattle.block_names.specs.Growth.{IsClashIn}
use Rattle.block_names.specs.Clashes.{NoneClash, IsClashAmong}
use Rattle.block_names.proofs.Clashed.{named_apart, clash_among}
use Rattle.replica_model.specs.Replicas.{Replica}
use Rattle.replica_model.specs.Offers.{Answers}
use Rattle.replica_model.specs.Pushes.{pushed}
use Rattle.dissemination.proofs.grove.Grove.push_from.Goals as goal

pub returns-clause-apart : goal.returns-clause-apart
returns-clause-apart g c =
    let h : List ℕ → List ℕ = g.H.Hash160.naming in
    let a : Answers = g.P.Parents.answers c.args.parents.now in
    let old : Held = c.args.book.now.held in
    let new : Held = c.push.new.book.held in
    let named : List Replica → List (List ℕ) = λ list. (pushed h a list c.args.replica c.args.label.now).named in
    let view : c.deref_mut.result.now ≡ c.args.self.now = c.deref_mut.ensures.value ∙ c.self.view_is in
    subst (λ (list : List Replica). OnOk c.push.result (NoneClash h old (Contains (named list)))) view
    (on_ok_weaker c.push.result (λ names. named_apart h old new (named c.deref_mut.result.now) c.push.ensures.grew names.all) c.push.ensures.names)

pub returns-clause-fault : goal.returns-clause-fault
returns-clause-fault g c =
    let h : List ℕ → List ℕ = g.H.Hash160.naming in
    let a : Answers = g.P.Parents.answers c.args.parents.now in
    let old : Held = c.args.book.now.held in
    let new : Held = c.push.new.book.held in
    let named : List Replica → List (List ℕ) = λ list. (pushed h a list c.args.replica c.args.label.now).named in
    let view : c.deref_mut.result.now ≡ c.args.self.now = c.deref_mut.ensures.value ∙ c.self.view_is in
    subst (λ (list : List Replica). IfErr c.push.result (IsClashIn h new (Contains (named list)))) view c.push.ensures.fault

pub returns-clause-clash : goal.returns-clause-clash
returns-clause-clash g c =
    let h : List ℕ → List ℕ = g.H.Hash160.naming in
    let a : Answers = g.P.Parents.answers c.args.parents.now in
    let old : Held = c.args.book.now.held in
    let new : Held = c.push.new.book.held in
    let named : List Replica → List (List ℕ) = λ list. (pushed h a list c.args.replica c.args.label.now).named in
    let view : c.deref_mut.result.now ≡ c.args.self.now = c.deref_mut.ensures.value ∙ c.self.view_is in
    subst (λ (list : List Replica). IfErr c.push.result (IsClashAmong h old (Contains (named list)))) view
    (IfErr-weaker c.push.result (IsClashIn h new (Contains (named c.deref_mut.result.now))) (IsClashAmong h old (Contains (named c.deref_mut.result.now)))
    (λ f. clash_among h old new (Contains (named c.deref_mut.result.now)) f c.push.ensures.grew) c.push.ensures.fault)
