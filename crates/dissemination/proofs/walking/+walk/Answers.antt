use Rattle.std.proofs.Common.{◌≡◌, ◌≤◌, ◌<◌, ◌+◌, ◌-◌, ◌++◌, ◌^◌, ◌∙◌, ap, sym, subst, arith, suc, List, ℕ, Contains, length, take, drop}
use Rattle.std.proofs.lemmas.List.Elements.{Contains-append_right}
use Rattle.block_names.specs.Held.{Held}
use Rattle.block_names.specs.Growth.{Grew, IsClashIn}
use Rattle.block_names.proofs.Grown.{clash_wider}
use Rattle.replica_model.specs.Replicas.{Replica, above}
use Rattle.replica_model.specs.Offers.{Answers}
use Rattle.replica_model.specs.Walks.{Walk, stepped, in_order, walked, below}
use Rattle.replica_model.specs.declared.places.Place.{Place}
use Rattle.replica_model.proofs.Counting.{below_few}
use Rattle.dissemination.specs.Counts.{counts_of}
use Rattle.dissemination.specs.declared.walking.Counts.{Counts}
use Rattle.dissemination.specs.Namings.{Names}
use Rattle.dissemination.proofs.Stepping.{both, both_is, walked_none, walked_missing, walked_on, step_among, walk_few, all_few, above_same, forest_same, length_same, one_more, one_less}
use Rattle.dissemination.proofs.Gathering.{names_none, names_then, grew_both, grew_wider}
use Rattle.dissemination.proofs.walking.+walk.Goals as goal

pub walk-returns-then-depth-eq0-clause-counts : goal.walk-returns-then-depth-eq0-clause-counts
walk-returns-then-depth-eq0-clause-counts g t c =
    let h : List ℕ → List ℕ = g.H.Hash160.naming in
    let a : Answers = g.P.Parents.answers c.args.parents.now in
    let replicas : List Replica = c.args.replicas.now in
    let r : ℕ = c.args.replica in
    let depth : ℕ = c.args.depth in
    let places : List Place = above replicas r in
    let name : List ℕ = c.args.name in
    let made = walked_none h a places r depth name replicas c.if-depth-eq0.true in
    ap counts_of made

pub walk-returns-then-depth-eq0-clause-replicas : goal.walk-returns-then-depth-eq0-clause-replicas
walk-returns-then-depth-eq0-clause-replicas g t c =
    let h : List ℕ → List ℕ = g.H.Hash160.naming in
    let a : Answers = g.P.Parents.answers c.args.parents.now in
    let replicas : List Replica = c.args.replicas.now in
    let r : ℕ = c.args.replica in
    let depth : ℕ = c.args.depth in
    let places : List Place = above replicas r in
    let name : List ℕ = c.args.name in
    let made = walked_none h a places r depth name replicas c.if-depth-eq0.true in
    ap (λ (w : Walk). w.replicas) made

pub walk-returns-then-depth-eq0-clause-names : goal.walk-returns-then-depth-eq0-clause-names
walk-returns-then-depth-eq0-clause-names g t c =
    let h : List ℕ → List ℕ = g.H.Hash160.naming in
    let a : Answers = g.P.Parents.answers c.args.parents.now in
    let replicas : List Replica = c.args.replicas.now in
    let r : ℕ = c.args.replica in
    let depth : ℕ = c.args.depth in
    let places : List Place = above replicas r in
    let name : List ℕ = c.args.name in
    let made = walked_none h a places r depth name replicas c.if-depth-eq0.true in
    subst (λ (w : Walk). Names h w.named c.args.book.now.held c.args.book.now.held) made (names_none h c.args.book.now.held)

pub walk-returns-in-Err-clause-grew : goal.walk-returns-in-Err-clause-grew
walk-returns-in-Err-clause-grew g t c =
    let h : List ℕ → List ℕ = g.H.Hash160.naming in
    let a : Answers = g.P.Parents.answers c.args.parents.now in
    let replicas : List Replica = c.args.replicas.now in
    let r : ℕ = c.args.replica in
    let depth : ℕ = c.args.depth in
    let places : List Place = above replicas r in
    let name : List ℕ = c.args.name in
    let less : ℕ = depth - 1 in
    let whole : depth ≡ suc less = omega (arith, c.if-depth-eq0.false) in
    let first : Walk = (stepped h a places r name replicas).walk in
    let old : Held = c.args.book.now.held in
    let mid : Held = c.step.new.book.held in
    let among = step_among h a places r depth less name replicas whole in
    grew_wider h old mid (Contains first.named) (Contains (walked h a places r depth name replicas).named) among c.step.ensures.grew

pub walk-returns-in-Err-clause-fault : goal.walk-returns-in-Err-clause-fault
walk-returns-in-Err-clause-fault g t c =
    let h : List ℕ → List ℕ = g.H.Hash160.naming in
    let a : Answers = g.P.Parents.answers c.args.parents.now in
    let replicas : List Replica = c.args.replicas.now in
    let r : ℕ = c.args.replica in
    let depth : ℕ = c.args.depth in
    let places : List Place = above replicas r in
    let name : List ℕ = c.args.name in
    let less : ℕ = depth - 1 in
    let whole : depth ≡ suc less = omega (arith, c.if-depth-eq0.false) in
    let first : Walk = (stepped h a places r name replicas).walk in
    let old : Held = c.args.book.now.held in
    let mid : Held = c.step.new.book.held in
    let among = step_among h a places r depth less name replicas whole in
    clash_wider h mid (Contains first.named) (Contains (walked h a places r depth name replicas).named) c.in-Err.fault among c.in-Err.ensures.fault

pub walk-returns-in_default-clause-counts : goal.walk-returns-in_default-clause-counts
walk-returns-in_default-clause-counts g t c =
    let h : List ℕ → List ℕ = g.H.Hash160.naming in
    let a : Answers = g.P.Parents.answers c.args.parents.now in
    let replicas : List Replica = c.args.replicas.now in
    let r : ℕ = c.args.replica in
    let depth : ℕ = c.args.depth in
    let places : List Place = above replicas r in
    let name : List ℕ = c.args.name in
    let less : ℕ = depth - 1 in
    let whole : depth ≡ suc less = omega (arith, c.if-depth-eq0.false) in
    let first : Walk = (stepped h a places r name replicas).walk in
    let old : Held = c.args.book.now.held in
    let mid : Held = c.step.new.book.held in
    let among = step_among h a places r depth less name replicas whole in
    let made = walked_missing h a places r depth less name replicas whole (sym c.in_default.is ∙ c.in-Ok.ensures.string) in
    c.in-Ok.ensures.counts ∙ ap counts_of made

pub walk-returns-in_default-clause-replicas : goal.walk-returns-in_default-clause-replicas
walk-returns-in_default-clause-replicas g t c =
    let h : List ℕ → List ℕ = g.H.Hash160.naming in
    let a : Answers = g.P.Parents.answers c.args.parents.now in
    let replicas : List Replica = c.args.replicas.now in
    let r : ℕ = c.args.replica in
    let depth : ℕ = c.args.depth in
    let places : List Place = above replicas r in
    let name : List ℕ = c.args.name in
    let less : ℕ = depth - 1 in
    let whole : depth ≡ suc less = omega (arith, c.if-depth-eq0.false) in
    let first : Walk = (stepped h a places r name replicas).walk in
    let old : Held = c.args.book.now.held in
    let mid : Held = c.step.new.book.held in
    let among = step_among h a places r depth less name replicas whole in
    let made = walked_missing h a places r depth less name replicas whole (sym c.in_default.is ∙ c.in-Ok.ensures.string) in
    c.in-Ok.ensures.replicas ∙ ap (λ (w : Walk). w.replicas) made

pub walk-returns-in_default-clause-names : goal.walk-returns-in_default-clause-names
walk-returns-in_default-clause-names g t c =
    let h : List ℕ → List ℕ = g.H.Hash160.naming in
    let a : Answers = g.P.Parents.answers c.args.parents.now in
    let replicas : List Replica = c.args.replicas.now in
    let r : ℕ = c.args.replica in
    let depth : ℕ = c.args.depth in
    let places : List Place = above replicas r in
    let name : List ℕ = c.args.name in
    let less : ℕ = depth - 1 in
    let whole : depth ≡ suc less = omega (arith, c.if-depth-eq0.false) in
    let first : Walk = (stepped h a places r name replicas).walk in
    let old : Held = c.args.book.now.held in
    let mid : Held = c.step.new.book.held in
    let among = step_among h a places r depth less name replicas whole in
    let made = walked_missing h a places r depth less name replicas whole (sym c.in_default.is ∙ c.in-Ok.ensures.string) in
    subst (λ (w : Walk). Names h w.named old mid) made c.in-Ok.ensures.names

pub walk-returns-in_default-clause-grew : goal.walk-returns-in_default-clause-grew
walk-returns-in_default-clause-grew g t c =
    let h : List ℕ → List ℕ = g.H.Hash160.naming in
    let a : Answers = g.P.Parents.answers c.args.parents.now in
    let replicas : List Replica = c.args.replicas.now in
    let r : ℕ = c.args.replica in
    let depth : ℕ = c.args.depth in
    let places : List Place = above replicas r in
    let name : List ℕ = c.args.name in
    let less : ℕ = depth - 1 in
    let whole : depth ≡ suc less = omega (arith, c.if-depth-eq0.false) in
    let first : Walk = (stepped h a places r name replicas).walk in
    let old : Held = c.args.book.now.held in
    let mid : Held = c.step.new.book.held in
    let among = step_among h a places r depth less name replicas whole in
    let made = walked_missing h a places r depth less name replicas whole (sym c.in_default.is ∙ c.in-Ok.ensures.string) in
    subst (λ (w : Walk). Grew h old (Contains w.named) mid) made c.step.ensures.grew

pub walk-returns-in_err-names-clause-grew : goal.walk-returns-in_err-names-clause-grew
walk-returns-in_err-names-clause-grew g t c =
    let h : List ℕ → List ℕ = g.H.Hash160.naming in
    let a : Answers = g.P.Parents.answers c.args.parents.now in
    let replicas : List Replica = c.args.replicas.now in
    let r : ℕ = c.args.replica in
    let depth : ℕ = c.args.depth in
    let places : List Place = above replicas r in
    let name : List ℕ = c.args.name in
    let less : ℕ = depth - 1 in
    let whole : depth ≡ suc less = omega (arith, c.if-depth-eq0.false) in
    let first : Walk = (stepped h a places r name replicas).walk in
    let old : Held = c.args.book.now.held in
    let mid : Held = c.step.new.book.held in
    let among = step_among h a places r depth less name replicas whole in
    grew_wider h old mid (Contains first.named) (Contains (walked h a places r depth name replicas).named) among c.step.ensures.grew

pub walk-walk_all-requires : goal.walk-walk_all-requires
walk-walk_all-requires g t c κs within =
    let h : List ℕ → List ℕ = g.H.Hash160.naming in
    let a : Answers = g.P.Parents.answers c.args.parents.now in
    let replicas : List Replica = c.args.replicas.now in
    let r : ℕ = c.args.replica in
    let depth : ℕ = c.args.depth in
    let places : List Place = above replicas r in
    let name : List ℕ = c.args.name in
    let less : ℕ = depth - 1 in
    let whole : depth ≡ suc less = omega (arith, c.if-depth-eq0.false) in
    let first : Walk = (stepped h a places r name replicas).walk in
    let old : Held = c.args.book.now.held in
    let mid : Held = c.step.new.book.held in
    let among = step_among h a places r depth less name replicas whole in
    let now : List Replica = c.step.new.replicas in
    let bytes : List ℕ = c.in-Some.string in
    let names : List (List ℕ) = c.as_slice.result.now in
    let are : names ≡ below bytes = c.as_slice.ensures ∙ c.in_ok-names.ensures ∙ ap below c.deref.ensures in
    let few : length names ≤ 64 = subst (λ (list : List (List ℕ)). length list ≤ 64) (sym are) (below_few bytes) in
    let long = length_same now replicas c.step.ensures.others in
    (omega (arith, c.decreases, c.if-depth-eq0.false, few), (within.0, (within.1, (omega (arith, long, c.requires.place), (forest_same now replicas c.step.ensures.others c.requires.forest, (omega (arith, c.requires.deep), few))))))

pub walk-returns-in-Err-walk_all-clause-grew : goal.walk-returns-in-Err-walk_all-clause-grew
walk-returns-in-Err-walk_all-clause-grew g t c =
    let h : List ℕ → List ℕ = g.H.Hash160.naming in
    let a : Answers = g.P.Parents.answers c.args.parents.now in
    let replicas : List Replica = c.args.replicas.now in
    let r : ℕ = c.args.replica in
    let depth : ℕ = c.args.depth in
    let places : List Place = above replicas r in
    let name : List ℕ = c.args.name in
    let less : ℕ = depth - 1 in
    let whole : depth ≡ suc less = omega (arith, c.if-depth-eq0.false) in
    let first : Walk = (stepped h a places r name replicas).walk in
    let old : Held = c.args.book.now.held in
    let mid : Held = c.step.new.book.held in
    let among = step_among h a places r depth less name replicas whole in
    let now : List Replica = c.step.new.replicas in
    let bytes : List ℕ = c.in-Some.string in
    let names : List (List ℕ) = c.as_slice.result.now in
    let are : names ≡ below bytes = c.as_slice.ensures ∙ c.in_ok-names.ensures ∙ ap below c.deref.ensures in
    let more : Walk = in_order (walked h a (above now r) r less) names now in
    let same : more ≡ in_order (walked h a places r less) (below bytes) now = λ i. in_order (walked h a (above_same now replicas r c.step.ensures.others i) r less) (are i) now in
    let made : both first more ≡ walked h a places r depth name replicas =
    ap (both first) same ∙ both_is first (in_order (walked h a places r less) (below bytes)) now c.in-Ok.ensures.replicas
    ∙ walked_on h a places r depth less name replicas bytes whole (sym c.in-Some.is ∙ c.in-Ok.ensures.string) in
    let new : Held = c.walk_all.new.book.held in
    subst (λ (w : Walk). Grew h old (Contains w.named) new) made (grew_both h old mid new first.named more.named c.step.ensures.grew c.walk_all.ensures.grew)

pub walk-returns-in-Err-walk_all-clause-fault : goal.walk-returns-in-Err-walk_all-clause-fault
walk-returns-in-Err-walk_all-clause-fault g t c =
    let h : List ℕ → List ℕ = g.H.Hash160.naming in
    let a : Answers = g.P.Parents.answers c.args.parents.now in
    let replicas : List Replica = c.args.replicas.now in
    let r : ℕ = c.args.replica in
    let depth : ℕ = c.args.depth in
    let places : List Place = above replicas r in
    let name : List ℕ = c.args.name in
    let less : ℕ = depth - 1 in
    let whole : depth ≡ suc less = omega (arith, c.if-depth-eq0.false) in
    let first : Walk = (stepped h a places r name replicas).walk in
    let old : Held = c.args.book.now.held in
    let mid : Held = c.step.new.book.held in
    let among = step_among h a places r depth less name replicas whole in
    let now : List Replica = c.step.new.replicas in
    let bytes : List ℕ = c.in-Some.string in
    let names : List (List ℕ) = c.as_slice.result.now in
    let are : names ≡ below bytes = c.as_slice.ensures ∙ c.in_ok-names.ensures ∙ ap below c.deref.ensures in
    let more : Walk = in_order (walked h a (above now r) r less) names now in
    let same : more ≡ in_order (walked h a places r less) (below bytes) now = λ i. in_order (walked h a (above_same now replicas r c.step.ensures.others i) r less) (are i) now in
    let made : both first more ≡ walked h a places r depth name replicas =
    ap (both first) same ∙ both_is first (in_order (walked h a places r less) (below bytes)) now c.in-Ok.ensures.replicas
    ∙ walked_on h a places r depth less name replicas bytes whole (sym c.in-Some.is ∙ c.in-Ok.ensures.string) in
    let new : Held = c.walk_all.new.book.held in
    subst (λ (w : Walk). IsClashIn h new (Contains w.named) c.in-Err-walk_all.fault) made
    (clash_wider h new (Contains more.named) (Contains (first.named ++ more.named)) c.in-Err-walk_all.fault (Contains-append_right first.named more.named) c.in-Err-walk_all.ensures.fault)

pub walk-sum-requires-clause-put : goal.walk-sum-requires-clause-put
walk-sum-requires-clause-put g t c =
    let h : List ℕ → List ℕ = g.H.Hash160.naming in
    let a : Answers = g.P.Parents.answers c.args.parents.now in
    let replicas : List Replica = c.args.replicas.now in
    let r : ℕ = c.args.replica in
    let depth : ℕ = c.args.depth in
    let places : List Place = above replicas r in
    let name : List ℕ = c.args.name in
    let less : ℕ = depth - 1 in
    let whole : depth ≡ suc less = omega (arith, c.if-depth-eq0.false) in
    let first : Walk = (stepped h a places r name replicas).walk in
    let old : Held = c.args.book.now.held in
    let mid : Held = c.step.new.book.held in
    let among = step_among h a places r depth less name replicas whole in
    let now : List Replica = c.step.new.replicas in
    let bytes : List ℕ = c.in-Some.string in
    let names : List (List ℕ) = c.as_slice.result.now in
    let are : names ≡ below bytes = c.as_slice.ensures ∙ c.in_ok-names.ensures ∙ ap below c.deref.ensures in
    let more : Walk = in_order (walked h a (above now r) r less) names now in
    let same : more ≡ in_order (walked h a places r less) (below bytes) now = λ i. in_order (walked h a (above_same now replicas r c.step.ensures.others i) r less) (are i) now in
    let made : both first more ≡ walked h a places r depth name replicas =
    ap (both first) same ∙ both_is first (in_order (walked h a places r less) (below bytes)) now c.in-Ok.ensures.replicas
    ∙ walked_on h a places r depth less name replicas bytes whole (sym c.in-Some.is ∙ c.in-Ok.ensures.string) in
    let new : Held = c.walk_all.new.book.held in
    let few : (first.put + more.put) + (first.missing + more.missing) < 2 ^ 32 = subst (λ (w : Walk). w.put + w.missing < 2 ^ 32) (sym made) (walk_few h a places r depth name replicas c.requires.deep) in
    let one : c.in-Ok.step.counts.put ≡ first.put = ap (λ (k : Counts). k.put) c.in-Ok.ensures.counts in
    let two : c.in-Ok-walk_all.more.put ≡ more.put = ap (λ (k : Counts). k.put) c.in-Ok-walk_all.ensures.counts in
    omega (arith, few, one, two)

pub walk-sum-requires-clause-missing : goal.walk-sum-requires-clause-missing
walk-sum-requires-clause-missing g t c =
    let h : List ℕ → List ℕ = g.H.Hash160.naming in
    let a : Answers = g.P.Parents.answers c.args.parents.now in
    let replicas : List Replica = c.args.replicas.now in
    let r : ℕ = c.args.replica in
    let depth : ℕ = c.args.depth in
    let places : List Place = above replicas r in
    let name : List ℕ = c.args.name in
    let less : ℕ = depth - 1 in
    let whole : depth ≡ suc less = omega (arith, c.if-depth-eq0.false) in
    let first : Walk = (stepped h a places r name replicas).walk in
    let old : Held = c.args.book.now.held in
    let mid : Held = c.step.new.book.held in
    let among = step_among h a places r depth less name replicas whole in
    let now : List Replica = c.step.new.replicas in
    let bytes : List ℕ = c.in-Some.string in
    let names : List (List ℕ) = c.as_slice.result.now in
    let are : names ≡ below bytes = c.as_slice.ensures ∙ c.in_ok-names.ensures ∙ ap below c.deref.ensures in
    let more : Walk = in_order (walked h a (above now r) r less) names now in
    let same : more ≡ in_order (walked h a places r less) (below bytes) now = λ i. in_order (walked h a (above_same now replicas r c.step.ensures.others i) r less) (are i) now in
    let made : both first more ≡ walked h a places r depth name replicas =
    ap (both first) same ∙ both_is first (in_order (walked h a places r less) (below bytes)) now c.in-Ok.ensures.replicas
    ∙ walked_on h a places r depth less name replicas bytes whole (sym c.in-Some.is ∙ c.in-Ok.ensures.string) in
    let new : Held = c.walk_all.new.book.held in
    let few : (first.put + more.put) + (first.missing + more.missing) < 2 ^ 32 = subst (λ (w : Walk). w.put + w.missing < 2 ^ 32) (sym made) (walk_few h a places r depth name replicas c.requires.deep) in
    let one : c.in-Ok.step.counts.missing ≡ first.missing = ap (λ (k : Counts). k.missing) c.in-Ok.ensures.counts in
    let two : c.in-Ok-walk_all.more.missing ≡ more.missing = ap (λ (k : Counts). k.missing) c.in-Ok-walk_all.ensures.counts in
    omega (arith, few, one, two)

pub walk-returns-clause-counts : goal.walk-returns-clause-counts
walk-returns-clause-counts g t c =
    let h : List ℕ → List ℕ = g.H.Hash160.naming in
    let a : Answers = g.P.Parents.answers c.args.parents.now in
    let replicas : List Replica = c.args.replicas.now in
    let r : ℕ = c.args.replica in
    let depth : ℕ = c.args.depth in
    let places : List Place = above replicas r in
    let name : List ℕ = c.args.name in
    let less : ℕ = depth - 1 in
    let whole : depth ≡ suc less = omega (arith, c.if-depth-eq0.false) in
    let first : Walk = (stepped h a places r name replicas).walk in
    let old : Held = c.args.book.now.held in
    let mid : Held = c.step.new.book.held in
    let among = step_among h a places r depth less name replicas whole in
    let now : List Replica = c.step.new.replicas in
    let bytes : List ℕ = c.in-Some.string in
    let names : List (List ℕ) = c.as_slice.result.now in
    let are : names ≡ below bytes = c.as_slice.ensures ∙ c.in_ok-names.ensures ∙ ap below c.deref.ensures in
    let more : Walk = in_order (walked h a (above now r) r less) names now in
    let same : more ≡ in_order (walked h a places r less) (below bytes) now = λ i. in_order (walked h a (above_same now replicas r c.step.ensures.others i) r less) (are i) now in
    let made : both first more ≡ walked h a places r depth name replicas =
    ap (both first) same ∙ both_is first (in_order (walked h a places r less) (below bytes)) now c.in-Ok.ensures.replicas
    ∙ walked_on h a places r depth less name replicas bytes whole (sym c.in-Some.is ∙ c.in-Ok.ensures.string) in
    let new : Held = c.walk_all.new.book.held in
    c.sum.ensures ∙ (λ i. record { put = (c.in-Ok.ensures.counts i).put + (c.in-Ok-walk_all.ensures.counts i).put; missing = (c.in-Ok.ensures.counts i).missing + (c.in-Ok-walk_all.ensures.counts i).missing })
    ∙ ap counts_of made

pub walk-returns-clause-replicas : goal.walk-returns-clause-replicas
walk-returns-clause-replicas g t c =
    let h : List ℕ → List ℕ = g.H.Hash160.naming in
    let a : Answers = g.P.Parents.answers c.args.parents.now in
    let replicas : List Replica = c.args.replicas.now in
    let r : ℕ = c.args.replica in
    let depth : ℕ = c.args.depth in
    let places : List Place = above replicas r in
    let name : List ℕ = c.args.name in
    let less : ℕ = depth - 1 in
    let whole : depth ≡ suc less = omega (arith, c.if-depth-eq0.false) in
    let first : Walk = (stepped h a places r name replicas).walk in
    let old : Held = c.args.book.now.held in
    let mid : Held = c.step.new.book.held in
    let among = step_among h a places r depth less name replicas whole in
    let now : List Replica = c.step.new.replicas in
    let bytes : List ℕ = c.in-Some.string in
    let names : List (List ℕ) = c.as_slice.result.now in
    let are : names ≡ below bytes = c.as_slice.ensures ∙ c.in_ok-names.ensures ∙ ap below c.deref.ensures in
    let more : Walk = in_order (walked h a (above now r) r less) names now in
    let same : more ≡ in_order (walked h a places r less) (below bytes) now = λ i. in_order (walked h a (above_same now replicas r c.step.ensures.others i) r less) (are i) now in
    let made : both first more ≡ walked h a places r depth name replicas =
    ap (both first) same ∙ both_is first (in_order (walked h a places r less) (below bytes)) now c.in-Ok.ensures.replicas
    ∙ walked_on h a places r depth less name replicas bytes whole (sym c.in-Some.is ∙ c.in-Ok.ensures.string) in
    let new : Held = c.walk_all.new.book.held in
    c.in-Ok-walk_all.ensures.replicas ∙ ap (λ (w : Walk). w.replicas) made

pub walk-returns-clause-names : goal.walk-returns-clause-names
walk-returns-clause-names g t c =
    let h : List ℕ → List ℕ = g.H.Hash160.naming in
    let a : Answers = g.P.Parents.answers c.args.parents.now in
    let replicas : List Replica = c.args.replicas.now in
    let r : ℕ = c.args.replica in
    let depth : ℕ = c.args.depth in
    let places : List Place = above replicas r in
    let name : List ℕ = c.args.name in
    let less : ℕ = depth - 1 in
    let whole : depth ≡ suc less = omega (arith, c.if-depth-eq0.false) in
    let first : Walk = (stepped h a places r name replicas).walk in
    let old : Held = c.args.book.now.held in
    let mid : Held = c.step.new.book.held in
    let among = step_among h a places r depth less name replicas whole in
    let now : List Replica = c.step.new.replicas in
    let bytes : List ℕ = c.in-Some.string in
    let names : List (List ℕ) = c.as_slice.result.now in
    let are : names ≡ below bytes = c.as_slice.ensures ∙ c.in_ok-names.ensures ∙ ap below c.deref.ensures in
    let more : Walk = in_order (walked h a (above now r) r less) names now in
    let same : more ≡ in_order (walked h a places r less) (below bytes) now = λ i. in_order (walked h a (above_same now replicas r c.step.ensures.others i) r less) (are i) now in
    let made : both first more ≡ walked h a places r depth name replicas =
    ap (both first) same ∙ both_is first (in_order (walked h a places r less) (below bytes)) now c.in-Ok.ensures.replicas
    ∙ walked_on h a places r depth less name replicas bytes whole (sym c.in-Some.is ∙ c.in-Ok.ensures.string) in
    let new : Held = c.walk_all.new.book.held in
    subst (λ (w : Walk). Names h w.named old new) made (names_then h old mid new first.named more.named c.in-Ok.ensures.names c.walk_all.ensures.grew c.in-Ok-walk_all.ensures.names)

pub walk-returns-clause-grew : goal.walk-returns-clause-grew
walk-returns-clause-grew g t c =
    let h : List ℕ → List ℕ = g.H.Hash160.naming in
    let a : Answers = g.P.Parents.answers c.args.parents.now in
    let replicas : List Replica = c.args.replicas.now in
    let r : ℕ = c.args.replica in
    let depth : ℕ = c.args.depth in
    let places : List Place = above replicas r in
    let name : List ℕ = c.args.name in
    let less : ℕ = depth - 1 in
    let whole : depth ≡ suc less = omega (arith, c.if-depth-eq0.false) in
    let first : Walk = (stepped h a places r name replicas).walk in
    let old : Held = c.args.book.now.held in
    let mid : Held = c.step.new.book.held in
    let among = step_among h a places r depth less name replicas whole in
    let now : List Replica = c.step.new.replicas in
    let bytes : List ℕ = c.in-Some.string in
    let names : List (List ℕ) = c.as_slice.result.now in
    let are : names ≡ below bytes = c.as_slice.ensures ∙ c.in_ok-names.ensures ∙ ap below c.deref.ensures in
    let more : Walk = in_order (walked h a (above now r) r less) names now in
    let same : more ≡ in_order (walked h a places r less) (below bytes) now = λ i. in_order (walked h a (above_same now replicas r c.step.ensures.others i) r less) (are i) now in
    let made : both first more ≡ walked h a places r depth name replicas =
    ap (both first) same ∙ both_is first (in_order (walked h a places r less) (below bytes)) now c.in-Ok.ensures.replicas
    ∙ walked_on h a places r depth less name replicas bytes whole (sym c.in-Some.is ∙ c.in-Ok.ensures.string) in
    let new : Held = c.walk_all.new.book.held in
    subst (λ (w : Walk). Grew h old (Contains w.named) new) made (grew_both h old mid new first.named more.named c.step.ensures.grew c.walk_all.ensures.grew)

pub walk_all-walk_all-requires : goal.walk_all-walk_all-requires
walk_all-walk_all-requires g t c κs within =
    let h : List ℕ → List ℕ = g.H.Hash160.naming in
    let a : Answers = g.P.Parents.answers c.args.parents.now in
    let replicas : List Replica = c.args.replicas.now in
    let r : ℕ = c.args.replica in
    let depth : ℕ = c.args.depth in
    let places : List Place = above replicas r in
    let names : List (List ℕ) = c.args.names.now in
    let rest : List (List ℕ) = take (length names - 1) (drop 1 names) in
    let now : List Replica = c.walk.new.replicas in
    let few : length rest + 1 ≡ length names = one_less names c.in-len1-up.len_at_least in
    let long = length_same now replicas c.walk.ensures.others in
    (omega (arith, c.decreases, c.in-len1-up.len_at_least, few), (within.0, (within.1, (omega (arith, long, c.requires.place), (forest_same now replicas c.walk.ensures.others c.requires.forest, (c.requires.deep, omega (arith, few, c.requires.few)))))))

pub walk_all-returns-in-Err-walk_all-clause-grew : goal.walk_all-returns-in-Err-walk_all-clause-grew
walk_all-returns-in-Err-walk_all-clause-grew g t c =
    let h : List ℕ → List ℕ = g.H.Hash160.naming in
    let a : Answers = g.P.Parents.answers c.args.parents.now in
    let replicas : List Replica = c.args.replicas.now in
    let r : ℕ = c.args.replica in
    let depth : ℕ = c.args.depth in
    let places : List Place = above replicas r in
    let names : List (List ℕ) = c.args.names.now in
    let rest : List (List ℕ) = take (length names - 1) (drop 1 names) in
    let now : List Replica = c.walk.new.replicas in
    let first : Walk = walked h a places r depth c.name-item.result replicas in
    let more : Walk = in_order (walked h a (above now r) r depth) rest now in
    let same : more ≡ in_order (walked h a places r depth) rest now = ap (λ (ps : List Place). in_order (walked h a ps r depth) rest now) (above_same now replicas r c.walk.ensures.others) in
    let made : both first more ≡ in_order (walked h a places r depth) names replicas =
    ap (both first) same ∙ both_is first (in_order (walked h a places r depth) rest) now c.in-Ok.ensures.replicas
    ∙ ap (λ (list : List (List ℕ)). in_order (walked h a places r depth) list replicas) (sym (one_more names c.name-item.result c.name-item.is c.in-len1-up.len_at_least)) in
    let old : Held = c.args.book.now.held in
    let mid : Held = c.walk.new.book.held in
    let new : Held = c.walk_all.new.book.held in
    subst (λ (w : Walk). Grew h old (Contains w.named) new) made (grew_both h old mid new first.named more.named c.walk.ensures.grew c.walk_all.ensures.grew)

pub walk_all-returns-in-Err-walk_all-clause-fault : goal.walk_all-returns-in-Err-walk_all-clause-fault
walk_all-returns-in-Err-walk_all-clause-fault g t c =
    let h : List ℕ → List ℕ = g.H.Hash160.naming in
    let a : Answers = g.P.Parents.answers c.args.parents.now in
    let replicas : List Replica = c.args.replicas.now in
    let r : ℕ = c.args.replica in
    let depth : ℕ = c.args.depth in
    let places : List Place = above replicas r in
    let names : List (List ℕ) = c.args.names.now in
    let rest : List (List ℕ) = take (length names - 1) (drop 1 names) in
    let now : List Replica = c.walk.new.replicas in
    let first : Walk = walked h a places r depth c.name-item.result replicas in
    let more : Walk = in_order (walked h a (above now r) r depth) rest now in
    let same : more ≡ in_order (walked h a places r depth) rest now = ap (λ (ps : List Place). in_order (walked h a ps r depth) rest now) (above_same now replicas r c.walk.ensures.others) in
    let made : both first more ≡ in_order (walked h a places r depth) names replicas =
    ap (both first) same ∙ both_is first (in_order (walked h a places r depth) rest) now c.in-Ok.ensures.replicas
    ∙ ap (λ (list : List (List ℕ)). in_order (walked h a places r depth) list replicas) (sym (one_more names c.name-item.result c.name-item.is c.in-len1-up.len_at_least)) in
    let old : Held = c.args.book.now.held in
    let mid : Held = c.walk.new.book.held in
    let new : Held = c.walk_all.new.book.held in
    subst (λ (w : Walk). IsClashIn h new (Contains w.named) c.in-Err-walk_all.fault) made
    (clash_wider h new (Contains more.named) (Contains (first.named ++ more.named)) c.in-Err-walk_all.fault (Contains-append_right first.named more.named) c.in-Err-walk_all.ensures.fault)

pub walk_all-sum-requires-clause-put : goal.walk_all-sum-requires-clause-put
walk_all-sum-requires-clause-put g t c =
    let h : List ℕ → List ℕ = g.H.Hash160.naming in
    let a : Answers = g.P.Parents.answers c.args.parents.now in
    let replicas : List Replica = c.args.replicas.now in
    let r : ℕ = c.args.replica in
    let depth : ℕ = c.args.depth in
    let places : List Place = above replicas r in
    let names : List (List ℕ) = c.args.names.now in
    let rest : List (List ℕ) = take (length names - 1) (drop 1 names) in
    let now : List Replica = c.walk.new.replicas in
    let first : Walk = walked h a places r depth c.name-item.result replicas in
    let more : Walk = in_order (walked h a (above now r) r depth) rest now in
    let same : more ≡ in_order (walked h a places r depth) rest now = ap (λ (ps : List Place). in_order (walked h a ps r depth) rest now) (above_same now replicas r c.walk.ensures.others) in
    let made : both first more ≡ in_order (walked h a places r depth) names replicas =
    ap (both first) same ∙ both_is first (in_order (walked h a places r depth) rest) now c.in-Ok.ensures.replicas
    ∙ ap (λ (list : List (List ℕ)). in_order (walked h a places r depth) list replicas) (sym (one_more names c.name-item.result c.name-item.is c.in-len1-up.len_at_least)) in
    let old : Held = c.args.book.now.held in
    let mid : Held = c.walk.new.book.held in
    let new : Held = c.walk_all.new.book.held in
    let few : (first.put + more.put) + (first.missing + more.missing) < 2 ^ 32 =
    subst (λ (w : Walk). w.put + w.missing < 2 ^ 32) (sym made) (all_few h a places r depth names replicas c.requires.deep c.requires.few) in
    let one : c.in-Ok.counts.put ≡ first.put = ap (λ (k : Counts). k.put) c.in-Ok.ensures.counts in
    let two : c.in-Ok-walk_all.more.put ≡ more.put = ap (λ (k : Counts). k.put) c.in-Ok-walk_all.ensures.counts in
    omega (arith, few, one, two)

pub walk_all-sum-requires-clause-missing : goal.walk_all-sum-requires-clause-missing
walk_all-sum-requires-clause-missing g t c =
    let h : List ℕ → List ℕ = g.H.Hash160.naming in
    let a : Answers = g.P.Parents.answers c.args.parents.now in
    let replicas : List Replica = c.args.replicas.now in
    let r : ℕ = c.args.replica in
    let depth : ℕ = c.args.depth in
    let places : List Place = above replicas r in
    let names : List (List ℕ) = c.args.names.now in
    let rest : List (List ℕ) = take (length names - 1) (drop 1 names) in
    let now : List Replica = c.walk.new.replicas in
    let first : Walk = walked h a places r depth c.name-item.result replicas in
    let more : Walk = in_order (walked h a (above now r) r depth) rest now in
    let same : more ≡ in_order (walked h a places r depth) rest now = ap (λ (ps : List Place). in_order (walked h a ps r depth) rest now) (above_same now replicas r c.walk.ensures.others) in
    let made : both first more ≡ in_order (walked h a places r depth) names replicas =
    ap (both first) same ∙ both_is first (in_order (walked h a places r depth) rest) now c.in-Ok.ensures.replicas
    ∙ ap (λ (list : List (List ℕ)). in_order (walked h a places r depth) list replicas) (sym (one_more names c.name-item.result c.name-item.is c.in-len1-up.len_at_least)) in
    let old : Held = c.args.book.now.held in
    let mid : Held = c.walk.new.book.held in
    let new : Held = c.walk_all.new.book.held in
    let few : (first.put + more.put) + (first.missing + more.missing) < 2 ^ 32 =
    subst (λ (w : Walk). w.put + w.missing < 2 ^ 32) (sym made) (all_few h a places r depth names replicas c.requires.deep c.requires.few) in
    let one : c.in-Ok.counts.missing ≡ first.missing = ap (λ (k : Counts). k.missing) c.in-Ok.ensures.counts in
    let two : c.in-Ok-walk_all.more.missing ≡ more.missing = ap (λ (k : Counts). k.missing) c.in-Ok-walk_all.ensures.counts in
    omega (arith, few, one, two)

pub walk_all-returns-clause-counts : goal.walk_all-returns-clause-counts
walk_all-returns-clause-counts g t c =
    let h : List ℕ → List ℕ = g.H.Hash160.naming in
    let a : Answers = g.P.Parents.answers c.args.parents.now in
    let replicas : List Replica = c.args.replicas.now in
    let r : ℕ = c.args.replica in
    let depth : ℕ = c.args.depth in
    let places : List Place = above replicas r in
    let names : List (List ℕ) = c.args.names.now in
    let rest : List (List ℕ) = take (length names - 1) (drop 1 names) in
    let now : List Replica = c.walk.new.replicas in
    let first : Walk = walked h a places r depth c.name-item.result replicas in
    let more : Walk = in_order (walked h a (above now r) r depth) rest now in
    let same : more ≡ in_order (walked h a places r depth) rest now = ap (λ (ps : List Place). in_order (walked h a ps r depth) rest now) (above_same now replicas r c.walk.ensures.others) in
    let made : both first more ≡ in_order (walked h a places r depth) names replicas =
    ap (both first) same ∙ both_is first (in_order (walked h a places r depth) rest) now c.in-Ok.ensures.replicas
    ∙ ap (λ (list : List (List ℕ)). in_order (walked h a places r depth) list replicas) (sym (one_more names c.name-item.result c.name-item.is c.in-len1-up.len_at_least)) in
    let old : Held = c.args.book.now.held in
    let mid : Held = c.walk.new.book.held in
    let new : Held = c.walk_all.new.book.held in
    c.sum.ensures ∙ (λ i. record { put = (c.in-Ok.ensures.counts i).put + (c.in-Ok-walk_all.ensures.counts i).put; missing = (c.in-Ok.ensures.counts i).missing + (c.in-Ok-walk_all.ensures.counts i).missing })
    ∙ ap counts_of made

pub walk_all-returns-clause-replicas : goal.walk_all-returns-clause-replicas
walk_all-returns-clause-replicas g t c =
    let h : List ℕ → List ℕ = g.H.Hash160.naming in
    let a : Answers = g.P.Parents.answers c.args.parents.now in
    let replicas : List Replica = c.args.replicas.now in
    let r : ℕ = c.args.replica in
    let depth : ℕ = c.args.depth in
    let places : List Place = above replicas r in
    let names : List (List ℕ) = c.args.names.now in
    let rest : List (List ℕ) = take (length names - 1) (drop 1 names) in
    let now : List Replica = c.walk.new.replicas in
    let first : Walk = walked h a places r depth c.name-item.result replicas in
    let more : Walk = in_order (walked h a (above now r) r depth) rest now in
    let same : more ≡ in_order (walked h a places r depth) rest now = ap (λ (ps : List Place). in_order (walked h a ps r depth) rest now) (above_same now replicas r c.walk.ensures.others) in
    let made : both first more ≡ in_order (walked h a places r depth) names replicas =
    ap (both first) same ∙ both_is first (in_order (walked h a places r depth) rest) now c.in-Ok.ensures.replicas
    ∙ ap (λ (list : List (List ℕ)). in_order (walked h a places r depth) list replicas) (sym (one_more names c.name-item.result c.name-item.is c.in-len1-up.len_at_least)) in
    let old : Held = c.args.book.now.held in
    let mid : Held = c.walk.new.book.held in
    let new : Held = c.walk_all.new.book.held in
    c.in-Ok-walk_all.ensures.replicas ∙ ap (λ (w : Walk). w.replicas) made

pub walk_all-returns-clause-names : goal.walk_all-returns-clause-names
walk_all-returns-clause-names g t c =
    let h : List ℕ → List ℕ = g.H.Hash160.naming in
    let a : Answers = g.P.Parents.answers c.args.parents.now in
    let replicas : List Replica = c.args.replicas.now in
    let r : ℕ = c.args.replica in
    let depth : ℕ = c.args.depth in
    let places : List Place = above replicas r in
    let names : List (List ℕ) = c.args.names.now in
    let rest : List (List ℕ) = take (length names - 1) (drop 1 names) in
    let now : List Replica = c.walk.new.replicas in
    let first : Walk = walked h a places r depth c.name-item.result replicas in
    let more : Walk = in_order (walked h a (above now r) r depth) rest now in
    let same : more ≡ in_order (walked h a places r depth) rest now = ap (λ (ps : List Place). in_order (walked h a ps r depth) rest now) (above_same now replicas r c.walk.ensures.others) in
    let made : both first more ≡ in_order (walked h a places r depth) names replicas =
    ap (both first) same ∙ both_is first (in_order (walked h a places r depth) rest) now c.in-Ok.ensures.replicas
    ∙ ap (λ (list : List (List ℕ)). in_order (walked h a places r depth) list replicas) (sym (one_more names c.name-item.result c.name-item.is c.in-len1-up.len_at_least)) in
    let old : Held = c.args.book.now.held in
    let mid : Held = c.walk.new.book.held in
    let new : Held = c.walk_all.new.book.held in
    subst (λ (w : Walk). Names h w.named old new) made (names_then h old mid new first.named more.named c.in-Ok.ensures.names c.walk_all.ensures.grew c.in-Ok-walk_all.ensures.names)

pub walk_all-returns-clause-grew : goal.walk_all-returns-clause-grew
walk_all-returns-clause-grew g t c =
    let h : List ℕ → List ℕ = g.H.Hash160.naming in
    let a : Answers = g.P.Parents.answers c.args.parents.now in
    let replicas : List Replica = c.args.replicas.now in
    let r : ℕ = c.args.replica in
    let depth : ℕ = c.args.depth in
    let places : List Place = above replicas r in
    let names : List (List ℕ) = c.args.names.now in
    let rest : List (List ℕ) = take (length names - 1) (drop 1 names) in
    let now : List Replica = c.walk.new.replicas in
    let first : Walk = walked h a places r depth c.name-item.result replicas in
    let more : Walk = in_order (walked h a (above now r) r depth) rest now in
    let same : more ≡ in_order (walked h a places r depth) rest now = ap (λ (ps : List Place). in_order (walked h a ps r depth) rest now) (above_same now replicas r c.walk.ensures.others) in
    let made : both first more ≡ in_order (walked h a places r depth) names replicas =
    ap (both first) same ∙ both_is first (in_order (walked h a places r depth) rest) now c.in-Ok.ensures.replicas
    ∙ ap (λ (list : List (List ℕ)). in_order (walked h a places r depth) list replicas) (sym (one_more names c.name-item.result c.name-item.is c.in-len1-up.len_at_least)) in
    let old : Held = c.args.book.now.held in
    let mid : Held = c.walk.new.book.held in
    let new : Held = c.walk_all.new.book.held in
    subst (λ (w : Walk). Grew h old (Contains w.named) new) made (grew_both h old mid new first.named more.named c.walk.ensures.grew c.walk_all.ensures.grew)
