use Rattle.std.proofs.Common.{◌≡◌, ap, sym, subst, arith, List, ℕ, Contains, IfOk, OnOk, IfErr}
use Rattle.block_names.specs.Held.{Held}
use Rattle.block_names.specs.Growth.{Grew, IsClashIn}
use Rattle.replica_model.specs.Replicas.{Replica}
use Rattle.replica_model.specs.Offers.{Answers}
use Rattle.replica_model.specs.Pushes.{Pushed}
use Rattle.replica_model.specs.declared.places.Place.{Place}
use Rattle.replica_model.specs.declared.places.Last.{Last}
use Rattle.dissemination.specs.Namings.{Names}
use Rattle.dissemination.proofs.Newer.{pushed_cut, pushed_parent_cut, pushed_behind, pushed_newer}
use Rattle.dissemination.proofs.Gathering.{names_none}
use Rattle.dissemination.proofs.pushing.push.Goals as goal

pub returns-then-is_cut-clause-answer : goal.returns-then-is_cut-clause-answer
returns-then-is_cut-clause-answer g c =
    let h : List ℕ → List ℕ = g.H.Hash160.naming in
    let a : Answers = g.P.Parents.answers c.args.parents.now in
    let replicas : List Replica = c.args.replicas.now in
    let label : List ℕ = c.args.label.now in
    let r : ℕ = c.args.replica in
    let parent : Place = c.parent_of-parent.result in
    let old : Held = c.args.book.now.held in
    let made = pushed_cut h a replicas r label parent c.parent_of-parent.ensures (sym c.if-is_cut.ensures) in
    ap (λ (p : Pushed). p.answer) made

pub returns-then-is_cut-clause-replicas : goal.returns-then-is_cut-clause-replicas
returns-then-is_cut-clause-replicas g c =
    let h : List ℕ → List ℕ = g.H.Hash160.naming in
    let a : Answers = g.P.Parents.answers c.args.parents.now in
    let replicas : List Replica = c.args.replicas.now in
    let label : List ℕ = c.args.label.now in
    let r : ℕ = c.args.replica in
    let parent : Place = c.parent_of-parent.result in
    let old : Held = c.args.book.now.held in
    let made = pushed_cut h a replicas r label parent c.parent_of-parent.ensures (sym c.if-is_cut.ensures) in
    ap (λ (p : Pushed). p.replicas) made

pub returns-then-is_cut-clause-names : goal.returns-then-is_cut-clause-names
returns-then-is_cut-clause-names g c =
    let h : List ℕ → List ℕ = g.H.Hash160.naming in
    let a : Answers = g.P.Parents.answers c.args.parents.now in
    let replicas : List Replica = c.args.replicas.now in
    let label : List ℕ = c.args.label.now in
    let r : ℕ = c.args.replica in
    let parent : Place = c.parent_of-parent.result in
    let old : Held = c.args.book.now.held in
    let made = pushed_cut h a replicas r label parent c.parent_of-parent.ensures (sym c.if-is_cut.ensures) in
    subst (λ (p : Pushed). Names h p.named old old) made (names_none h old)

pub returns-then-is_cut-2-clause-answer : goal.returns-then-is_cut-2-clause-answer
returns-then-is_cut-2-clause-answer g c =
    let h : List ℕ → List ℕ = g.H.Hash160.naming in
    let a : Answers = g.P.Parents.answers c.args.parents.now in
    let replicas : List Replica = c.args.replicas.now in
    let label : List ℕ = c.args.label.now in
    let r : ℕ = c.args.replica in
    let parent : Place = c.parent_of-parent.result in
    let old : Held = c.args.book.now.held in
    let made = pushed_parent_cut h a replicas r label parent c.parent_of-parent.ensures (sym c.if-is_cut-2.ensures) in
    ap (λ (p : Pushed). p.answer) made

pub returns-then-is_cut-2-clause-replicas : goal.returns-then-is_cut-2-clause-replicas
returns-then-is_cut-2-clause-replicas g c =
    let h : List ℕ → List ℕ = g.H.Hash160.naming in
    let a : Answers = g.P.Parents.answers c.args.parents.now in
    let replicas : List Replica = c.args.replicas.now in
    let label : List ℕ = c.args.label.now in
    let r : ℕ = c.args.replica in
    let parent : Place = c.parent_of-parent.result in
    let old : Held = c.args.book.now.held in
    let made = pushed_parent_cut h a replicas r label parent c.parent_of-parent.ensures (sym c.if-is_cut-2.ensures) in
    ap (λ (p : Pushed). p.replicas) made

pub returns-then-is_cut-2-clause-names : goal.returns-then-is_cut-2-clause-names
returns-then-is_cut-2-clause-names g c =
    let h : List ℕ → List ℕ = g.H.Hash160.naming in
    let a : Answers = g.P.Parents.answers c.args.parents.now in
    let replicas : List Replica = c.args.replicas.now in
    let label : List ℕ = c.args.label.now in
    let r : ℕ = c.args.replica in
    let parent : Place = c.parent_of-parent.result in
    let old : Held = c.args.book.now.held in
    let made = pushed_parent_cut h a replicas r label parent c.parent_of-parent.ensures (sym c.if-is_cut-2.ensures) in
    subst (λ (p : Pushed). Names h p.named old old) made (names_none h old)

pub returns-then-theirs-mine-clause-answer : goal.returns-then-theirs-mine-clause-answer
returns-then-theirs-mine-clause-answer g c =
    let h : List ℕ → List ℕ = g.H.Hash160.naming in
    let a : Answers = g.P.Parents.answers c.args.parents.now in
    let replicas : List Replica = c.args.replicas.now in
    let label : List ℕ = c.args.label.now in
    let r : ℕ = c.args.replica in
    let parent : Place = c.parent_of-parent.result in
    let old : Held = c.args.book.now.held in
    let mine : Last = c.last_at-mine.result in
    let theirs : Last = c.last_at-theirs.result in
    let made = pushed_behind h a replicas r label parent c.parent_of-parent.ensures mine theirs (sym c.if-is_cut.ensures) (sym c.if-is_cut-2.ensures) c.last_at-mine.ensures c.last_at-theirs.ensures (omega (arith, c.if-theirs-mine.true)) in
    ap (λ (p : Pushed). p.answer) made

pub returns-then-theirs-mine-clause-replicas : goal.returns-then-theirs-mine-clause-replicas
returns-then-theirs-mine-clause-replicas g c =
    let h : List ℕ → List ℕ = g.H.Hash160.naming in
    let a : Answers = g.P.Parents.answers c.args.parents.now in
    let replicas : List Replica = c.args.replicas.now in
    let label : List ℕ = c.args.label.now in
    let r : ℕ = c.args.replica in
    let parent : Place = c.parent_of-parent.result in
    let old : Held = c.args.book.now.held in
    let mine : Last = c.last_at-mine.result in
    let theirs : Last = c.last_at-theirs.result in
    let made = pushed_behind h a replicas r label parent c.parent_of-parent.ensures mine theirs (sym c.if-is_cut.ensures) (sym c.if-is_cut-2.ensures) c.last_at-mine.ensures c.last_at-theirs.ensures (omega (arith, c.if-theirs-mine.true)) in
    ap (λ (p : Pushed). p.replicas) made

pub returns-then-theirs-mine-clause-names : goal.returns-then-theirs-mine-clause-names
returns-then-theirs-mine-clause-names g c =
    let h : List ℕ → List ℕ = g.H.Hash160.naming in
    let a : Answers = g.P.Parents.answers c.args.parents.now in
    let replicas : List Replica = c.args.replicas.now in
    let label : List ℕ = c.args.label.now in
    let r : ℕ = c.args.replica in
    let parent : Place = c.parent_of-parent.result in
    let old : Held = c.args.book.now.held in
    let mine : Last = c.last_at-mine.result in
    let theirs : Last = c.last_at-theirs.result in
    let made = pushed_behind h a replicas r label parent c.parent_of-parent.ensures mine theirs (sym c.if-is_cut.ensures) (sym c.if-is_cut-2.ensures) c.last_at-mine.ensures c.last_at-theirs.ensures (omega (arith, c.if-theirs-mine.true)) in
    subst (λ (p : Pushed). Names h p.named old old) made (names_none h old)

pub returns-clause-answer : goal.returns-clause-answer
returns-clause-answer g c =
    let h : List ℕ → List ℕ = g.H.Hash160.naming in
    let a : Answers = g.P.Parents.answers c.args.parents.now in
    let replicas : List Replica = c.args.replicas.now in
    let label : List ℕ = c.args.label.now in
    let r : ℕ = c.args.replica in
    let parent : Place = c.parent_of-parent.result in
    let old : Held = c.args.book.now.held in
    let mine : Last = c.last_at-mine.result in
    let theirs : Last = c.last_at-theirs.result in
    let made = pushed_newer h a replicas r label parent c.parent_of-parent.ensures mine theirs (sym c.if-is_cut.ensures) (sym c.if-is_cut-2.ensures) c.last_at-mine.ensures c.last_at-theirs.ensures (omega (arith, c.if-theirs-mine.false)) in
    let new : Held = c.take_version.new.book.held in
    subst (λ (p : Pushed). IfOk c.take_version.result (λ answer. answer ≡ p.answer)) made c.take_version.ensures.answer

pub returns-clause-replicas : goal.returns-clause-replicas
returns-clause-replicas g c =
    let h : List ℕ → List ℕ = g.H.Hash160.naming in
    let a : Answers = g.P.Parents.answers c.args.parents.now in
    let replicas : List Replica = c.args.replicas.now in
    let label : List ℕ = c.args.label.now in
    let r : ℕ = c.args.replica in
    let parent : Place = c.parent_of-parent.result in
    let old : Held = c.args.book.now.held in
    let mine : Last = c.last_at-mine.result in
    let theirs : Last = c.last_at-theirs.result in
    let made = pushed_newer h a replicas r label parent c.parent_of-parent.ensures mine theirs (sym c.if-is_cut.ensures) (sym c.if-is_cut-2.ensures) c.last_at-mine.ensures c.last_at-theirs.ensures (omega (arith, c.if-theirs-mine.false)) in
    let new : Held = c.take_version.new.book.held in
    subst (λ (p : Pushed). OnOk c.take_version.result (c.take_version.new.replicas ≡ p.replicas)) made c.take_version.ensures.replicas

pub returns-clause-names : goal.returns-clause-names
returns-clause-names g c =
    let h : List ℕ → List ℕ = g.H.Hash160.naming in
    let a : Answers = g.P.Parents.answers c.args.parents.now in
    let replicas : List Replica = c.args.replicas.now in
    let label : List ℕ = c.args.label.now in
    let r : ℕ = c.args.replica in
    let parent : Place = c.parent_of-parent.result in
    let old : Held = c.args.book.now.held in
    let mine : Last = c.last_at-mine.result in
    let theirs : Last = c.last_at-theirs.result in
    let made = pushed_newer h a replicas r label parent c.parent_of-parent.ensures mine theirs (sym c.if-is_cut.ensures) (sym c.if-is_cut-2.ensures) c.last_at-mine.ensures c.last_at-theirs.ensures (omega (arith, c.if-theirs-mine.false)) in
    let new : Held = c.take_version.new.book.held in
    subst (λ (p : Pushed). OnOk c.take_version.result (Names h p.named old new)) made c.take_version.ensures.names

pub returns-clause-grew : goal.returns-clause-grew
returns-clause-grew g c =
    let h : List ℕ → List ℕ = g.H.Hash160.naming in
    let a : Answers = g.P.Parents.answers c.args.parents.now in
    let replicas : List Replica = c.args.replicas.now in
    let label : List ℕ = c.args.label.now in
    let r : ℕ = c.args.replica in
    let parent : Place = c.parent_of-parent.result in
    let old : Held = c.args.book.now.held in
    let mine : Last = c.last_at-mine.result in
    let theirs : Last = c.last_at-theirs.result in
    let made = pushed_newer h a replicas r label parent c.parent_of-parent.ensures mine theirs (sym c.if-is_cut.ensures) (sym c.if-is_cut-2.ensures) c.last_at-mine.ensures c.last_at-theirs.ensures (omega (arith, c.if-theirs-mine.false)) in
    let new : Held = c.take_version.new.book.held in
    subst (λ (p : Pushed). Grew h old (Contains p.named) new) made c.take_version.ensures.grew

pub returns-clause-fault : goal.returns-clause-fault
returns-clause-fault g c =
    let h : List ℕ → List ℕ = g.H.Hash160.naming in
    let a : Answers = g.P.Parents.answers c.args.parents.now in
    let replicas : List Replica = c.args.replicas.now in
    let label : List ℕ = c.args.label.now in
    let r : ℕ = c.args.replica in
    let parent : Place = c.parent_of-parent.result in
    let old : Held = c.args.book.now.held in
    let mine : Last = c.last_at-mine.result in
    let theirs : Last = c.last_at-theirs.result in
    let made = pushed_newer h a replicas r label parent c.parent_of-parent.ensures mine theirs (sym c.if-is_cut.ensures) (sym c.if-is_cut-2.ensures) c.last_at-mine.ensures c.last_at-theirs.ensures (omega (arith, c.if-theirs-mine.false)) in
    let new : Held = c.take_version.new.book.held in
    subst (λ (p : Pushed). IfErr c.take_version.result (IsClashIn h new (Contains p.named))) made c.take_version.ensures.fault
