use Rattle.std.proofs.Common.{◌≡◌, ◌∙◌, sym, subst, List, ℕ, Contains, OnOk, IfErr}
use Rattle.std.proofs.lemmas.Result.{IfErr-weaker, on_ok_weaker}
use Rattle.block_names.specs.Held.{Held}
use Rattle.block_names.specs.Growth.{IsClashIn}
use Rattle.block_names.specs.Clashes.{NoneClash, IsClashAmong}
use Rattle.block_names.proofs.Clashed.{named_apart, clash_among}
use Rattle.replica_model.specs.Replicas.{Replica, IsForest, parents_of}
use Rattle.replica_model.specs.Offers.{Answers, offered}
use Rattle.dissemination.proofs.Changing.{forest_back}
use Rattle.dissemination.proofs.Stepping.{parents_same}
use Rattle.dissemination.proofs.grove.Grove.offer.Goals as goal

pub invariant_of-self : goal.invariant_of-self
invariant_of-self g c =
    let replicas : List Replica = c.deref_mut.result.now in
    forest_back replicas c.offer.new.replicas _ _ c.deref_mut.ensures.len (parents_same c.offer.new.replicas replicas c.offer.ensures.others)
    (subst (λ (list : List Replica). IsForest (parents_of list)) (sym c.deref_mut.ensures.value) c.self.invariant)

pub returns-clause-apart : goal.returns-clause-apart
returns-clause-apart g c =
    let h : List ℕ → List ℕ = g.H.Hash160.naming in
    let a : Answers = g.P.Parents.answers c.args.parents.now in
    let old : Held = c.args.book.now.held in
    let new : Held = c.offer.new.book.held in
    let named : List Replica → List (List ℕ) = λ list. (offered h a list c.args.replica c.args.name).named in
    let view : c.deref_mut.result.now ≡ c.args.self.now = c.deref_mut.ensures.value ∙ c.self.view_is in
    subst (λ (list : List Replica). OnOk c.offer.result (NoneClash h old (Contains (named list)))) view
    (on_ok_weaker c.offer.result (λ names. named_apart h old new (named c.deref_mut.result.now) c.offer.ensures.grew names.all) c.offer.ensures.names)

pub returns-clause-fault : goal.returns-clause-fault
returns-clause-fault g c =
    let h : List ℕ → List ℕ = g.H.Hash160.naming in
    let a : Answers = g.P.Parents.answers c.args.parents.now in
    let old : Held = c.args.book.now.held in
    let new : Held = c.offer.new.book.held in
    let named : List Replica → List (List ℕ) = λ list. (offered h a list c.args.replica c.args.name).named in
    let view : c.deref_mut.result.now ≡ c.args.self.now = c.deref_mut.ensures.value ∙ c.self.view_is in
    subst (λ (list : List Replica). IfErr c.offer.result (IsClashIn h new (Contains (named list)))) view c.offer.ensures.fault

pub returns-clause-clash : goal.returns-clause-clash
returns-clause-clash g c =
    let h : List ℕ → List ℕ = g.H.Hash160.naming in
    let a : Answers = g.P.Parents.answers c.args.parents.now in
    let old : Held = c.args.book.now.held in
    let new : Held = c.offer.new.book.held in
    let named : List Replica → List (List ℕ) = λ list. (offered h a list c.args.replica c.args.name).named in
    let view : c.deref_mut.result.now ≡ c.args.self.now = c.deref_mut.ensures.value ∙ c.self.view_is in
    subst (λ (list : List Replica). IfErr c.offer.result (IsClashAmong h old (Contains (named list)))) view
    (IfErr-weaker c.offer.result (IsClashIn h new (Contains (named c.deref_mut.result.now))) (IsClashAmong h old (Contains (named c.deref_mut.result.now)))
    (λ f. clash_among h old new (Contains (named c.deref_mut.result.now)) f c.offer.ensures.grew) c.offer.ensures.fault)
