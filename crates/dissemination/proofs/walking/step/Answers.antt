use Rattle.std.proofs.Common.{◌≡◌, ◌∙◌, ap, sym, subst, Option, List, ℕ, Contains, if◌then◌else◌}
use Rattle.std.specs.Option.{is_some}
use Rattle.block_names.specs.Growth.{Grew, IsClashIn}
use Rattle.replica_model.specs.Replicas.{Replica, above}
use Rattle.replica_model.specs.Offers.{Answers}
use Rattle.replica_model.specs.Walks.{Step}
use Rattle.replica_model.specs.declared.places.Place.{Place}
use Rattle.dissemination.specs.Counts.{counts_of}
use Rattle.dissemination.specs.Namings.{Names}
use Rattle.dissemination.proofs.Stepping.{stepped_kept, stepped_came}
use Rattle.dissemination.proofs.Gathering.{names_none}
use Rattle.dissemination.proofs.walking.step.Goals as goal

pub returns-in-Some-clause-string : goal.returns-in-Some-clause-string
returns-in-Some-clause-string g c =
    let h : List ℕ → List ℕ = g.H.Hash160.naming in
    let a : Answers = g.P.Parents.answers c.args.parents.now in
    let replicas : List Replica = c.args.replicas.now in
    let name : List ℕ = c.args.name in
    let r : ℕ = c.args.replica in
    let places : List Place = above replicas r in
    let made = stepped_kept h a places r name replicas c.in-Some.bytes (sym c.in_ok-bytes.ensures ∙ c.in-Some.is) in
    ap (λ (s : Step). s.string) made

pub returns-in-Some-clause-counts : goal.returns-in-Some-clause-counts
returns-in-Some-clause-counts g c =
    let h : List ℕ → List ℕ = g.H.Hash160.naming in
    let a : Answers = g.P.Parents.answers c.args.parents.now in
    let replicas : List Replica = c.args.replicas.now in
    let name : List ℕ = c.args.name in
    let r : ℕ = c.args.replica in
    let places : List Place = above replicas r in
    let made = stepped_kept h a places r name replicas c.in-Some.bytes (sym c.in_ok-bytes.ensures ∙ c.in-Some.is) in
    ap (λ (s : Step). counts_of s.walk) made

pub returns-in-Some-clause-replicas : goal.returns-in-Some-clause-replicas
returns-in-Some-clause-replicas g c =
    let h : List ℕ → List ℕ = g.H.Hash160.naming in
    let a : Answers = g.P.Parents.answers c.args.parents.now in
    let replicas : List Replica = c.args.replicas.now in
    let name : List ℕ = c.args.name in
    let r : ℕ = c.args.replica in
    let places : List Place = above replicas r in
    let made = stepped_kept h a places r name replicas c.in-Some.bytes (sym c.in_ok-bytes.ensures ∙ c.in-Some.is) in
    ap (λ (s : Step). s.walk.replicas) made

pub returns-in-Some-clause-names : goal.returns-in-Some-clause-names
returns-in-Some-clause-names g c =
    let h : List ℕ → List ℕ = g.H.Hash160.naming in
    let a : Answers = g.P.Parents.answers c.args.parents.now in
    let replicas : List Replica = c.args.replicas.now in
    let name : List ℕ = c.args.name in
    let r : ℕ = c.args.replica in
    let places : List Place = above replicas r in
    let made = stepped_kept h a places r name replicas c.in-Some.bytes (sym c.in_ok-bytes.ensures ∙ c.in-Some.is) in
    subst (λ (s : Step). Names h s.walk.named c.args.book.now.held c.args.book.now.held) made (names_none h c.args.book.now.held)

pub returns-in-Ok-clause-string : goal.returns-in-Ok-clause-string
returns-in-Ok-clause-string g c =
    let h : List ℕ → List ℕ = g.H.Hash160.naming in
    let a : Answers = g.P.Parents.answers c.args.parents.now in
    let replicas : List Replica = c.args.replicas.now in
    let name : List ℕ = c.args.name in
    let r : ℕ = c.args.replica in
    let places : List Place = above replicas r in
    let made = stepped_came h a places r name replicas (sym c.in_ok-bytes.ensures ∙ c.in_default.is) in
    c.counted.ensures.string ∙ c.in-Ok.ensures.string ∙ ap (λ (s : Step). s.string) made

pub returns-in-Ok-clause-counts : goal.returns-in-Ok-clause-counts
returns-in-Ok-clause-counts g c =
    let h : List ℕ → List ℕ = g.H.Hash160.naming in
    let a : Answers = g.P.Parents.answers c.args.parents.now in
    let replicas : List Replica = c.args.replicas.now in
    let name : List ℕ = c.args.name in
    let r : ℕ = c.args.replica in
    let places : List Place = above replicas r in
    let made = stepped_came h a places r name replicas (sym c.in_ok-bytes.ensures ∙ c.in_default.is) in
    let counts : c.counted.result.counts ≡ record { put = if is_some c.in-Ok.came then 1 else 0; missing = if is_some c.in-Ok.came then 0 else 1 } =
    λ i. record { put = c.counted.ensures.put i; missing = c.counted.ensures.missing i } in
    counts ∙ ap (λ (o : Option (List ℕ)). record { put = if is_some o then 1 else 0; missing = if is_some o then 0 else 1 }) c.in-Ok.ensures.string ∙ ap (λ (s : Step). counts_of s.walk) made

pub returns-in-Ok-clause-replicas : goal.returns-in-Ok-clause-replicas
returns-in-Ok-clause-replicas g c =
    let h : List ℕ → List ℕ = g.H.Hash160.naming in
    let a : Answers = g.P.Parents.answers c.args.parents.now in
    let replicas : List Replica = c.args.replicas.now in
    let name : List ℕ = c.args.name in
    let r : ℕ = c.args.replica in
    let places : List Place = above replicas r in
    let made = stepped_came h a places r name replicas (sym c.in_ok-bytes.ensures ∙ c.in_default.is) in
    c.in-Ok.ensures.replicas ∙ ap (λ (s : Step). s.walk.replicas) made

pub returns-in-Ok-clause-names : goal.returns-in-Ok-clause-names
returns-in-Ok-clause-names g c =
    let h : List ℕ → List ℕ = g.H.Hash160.naming in
    let a : Answers = g.P.Parents.answers c.args.parents.now in
    let replicas : List Replica = c.args.replicas.now in
    let name : List ℕ = c.args.name in
    let r : ℕ = c.args.replica in
    let places : List Place = above replicas r in
    let made = stepped_came h a places r name replicas (sym c.in_ok-bytes.ensures ∙ c.in_default.is) in
    subst (λ (s : Step). Names h s.walk.named c.args.book.now.held c.fetch.new.book.held) made c.in-Ok.ensures.names

pub returns-in-Ok-clause-grew : goal.returns-in-Ok-clause-grew
returns-in-Ok-clause-grew g c =
    let h : List ℕ → List ℕ = g.H.Hash160.naming in
    let a : Answers = g.P.Parents.answers c.args.parents.now in
    let replicas : List Replica = c.args.replicas.now in
    let name : List ℕ = c.args.name in
    let r : ℕ = c.args.replica in
    let places : List Place = above replicas r in
    let made = stepped_came h a places r name replicas (sym c.in_ok-bytes.ensures ∙ c.in_default.is) in
    subst (λ (s : Step). Grew h c.args.book.now.held (Contains s.walk.named) c.fetch.new.book.held) made c.fetch.ensures.grew

pub returns-in-Err-clause-grew : goal.returns-in-Err-clause-grew
returns-in-Err-clause-grew g c =
    let h : List ℕ → List ℕ = g.H.Hash160.naming in
    let a : Answers = g.P.Parents.answers c.args.parents.now in
    let replicas : List Replica = c.args.replicas.now in
    let name : List ℕ = c.args.name in
    let r : ℕ = c.args.replica in
    let places : List Place = above replicas r in
    let made = stepped_came h a places r name replicas (sym c.in_ok-bytes.ensures ∙ c.in_default.is) in
    subst (λ (s : Step). Grew h c.args.book.now.held (Contains s.walk.named) c.fetch.new.book.held) made c.fetch.ensures.grew

pub returns-in-Err-clause-fault : goal.returns-in-Err-clause-fault
returns-in-Err-clause-fault g c =
    let h : List ℕ → List ℕ = g.H.Hash160.naming in
    let a : Answers = g.P.Parents.answers c.args.parents.now in
    let replicas : List Replica = c.args.replicas.now in
    let name : List ℕ = c.args.name in
    let r : ℕ = c.args.replica in
    let places : List Place = above replicas r in
    let made = stepped_came h a places r name replicas (sym c.in_ok-bytes.ensures ∙ c.in_default.is) in
    subst (λ (s : Step). IsClashIn h c.fetch.new.book.held (Contains s.walk.named) c.in-Err.fault) made c.in-Err.ensures.fault
