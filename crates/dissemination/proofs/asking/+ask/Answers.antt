use Rattle.std.proofs.Common.{◌≡◌, ◌++◌, ◌∙◌, ap, sym, subst, refl, Some, Option, List, ℕ, Contains, IfOk, IfErr, IfSome, OnOk}
use Rattle.std.proofs.lemmas.Result.{IfErr-weaker, on_ok_weaker}
use Rattle.std.proofs.lemmas.List.Elements.{Contains-append_left, Contains-append_right}
use Rattle.block_names.specs.Held.{Held}
use Rattle.block_names.specs.Growth.{Grew, IsClashIn}
use Rattle.block_names.proofs.Grown.{clash_wider}
use Rattle.replica_model.specs.Replicas.{Replica, parents_of, chain, above}
use Rattle.replica_model.specs.Offers.{Answers, Offer, given, taken_in, own_or, offered_up, fetched}
use Rattle.replica_model.specs.declared.places.Place.{Place}
use Rattle.dissemination.specs.Namings.{Names}
use Rattle.dissemination.proofs.Climbing.{fetched_cut, fetched_is, offered_is, member_gives}
use Rattle.dissemination.proofs.Gathering.{names_none, names_then, grew_both, grew_first}
use Rattle.dissemination.proofs.asking.+ask.Goals as goal

pub ask-returns-in_ok-shared-in-Member-clause-string : goal.ask-returns-in_ok-shared-in-Member-clause-string
ask-returns-in_ok-shared-in-Member-clause-string g t c =
    let h : List ℕ → List ℕ = g.H.Hash160.naming in
    let a : Answers = g.P.Parents.answers c.args.parents.now in
    let replicas : List Replica = c.args.replicas.now in
    let name : List ℕ = c.args.name in
    let made = member_gives h a name replicas c.args.place c.in-Member.member c.in-Member.is in
    c.in_ok-shared-in-Member.ensures ∙ c.member_string.ensures ∙ ap (λ (o : Offer). o.string) made

pub ask-returns-in_ok-shared-in-Member-clause-replicas : goal.ask-returns-in_ok-shared-in-Member-clause-replicas
ask-returns-in_ok-shared-in-Member-clause-replicas g t c =
    let h : List ℕ → List ℕ = g.H.Hash160.naming in
    let a : Answers = g.P.Parents.answers c.args.parents.now in
    let replicas : List Replica = c.args.replicas.now in
    let name : List ℕ = c.args.name in
    let made = member_gives h a name replicas c.args.place c.in-Member.member c.in-Member.is in
    ap (λ (o : Offer). o.replicas) made

pub ask-returns-in_ok-shared-in-Member-clause-names : goal.ask-returns-in_ok-shared-in-Member-clause-names
ask-returns-in_ok-shared-in-Member-clause-names g t c =
    let h : List ℕ → List ℕ = g.H.Hash160.naming in
    let a : Answers = g.P.Parents.answers c.args.parents.now in
    let replicas : List Replica = c.args.replicas.now in
    let name : List ℕ = c.args.name in
    let made = member_gives h a name replicas c.args.place c.in-Member.member c.in-Member.is in
    subst (λ (o : Offer). Names h o.named c.args.book.now.held c.args.book.now.held) made (names_none h c.args.book.now.held)

pub fetch-returns-then-is_cut-clause-string : goal.fetch-returns-then-is_cut-clause-string
fetch-returns-then-is_cut-clause-string g t c =
    let h : List ℕ → List ℕ = g.H.Hash160.naming in
    let a : Answers = g.P.Parents.answers c.args.parents.now in
    let replicas : List Replica = c.args.replicas.now in
    let name : List ℕ = c.args.name in
    let r : ℕ = c.args.replica in
    let parent : Place = c.parent_of-parent.result in
    let made = fetched_cut h a name replicas r parent c.requires.forest c.requires.place c.parent_of-parent.ensures (sym c.if-is_cut.ensures) in
    ap (λ (o : Offer). o.string) made

pub fetch-returns-then-is_cut-clause-replicas : goal.fetch-returns-then-is_cut-clause-replicas
fetch-returns-then-is_cut-clause-replicas g t c =
    let h : List ℕ → List ℕ = g.H.Hash160.naming in
    let a : Answers = g.P.Parents.answers c.args.parents.now in
    let replicas : List Replica = c.args.replicas.now in
    let name : List ℕ = c.args.name in
    let r : ℕ = c.args.replica in
    let parent : Place = c.parent_of-parent.result in
    let made = fetched_cut h a name replicas r parent c.requires.forest c.requires.place c.parent_of-parent.ensures (sym c.if-is_cut.ensures) in
    ap (λ (o : Offer). o.replicas) made

pub fetch-returns-then-is_cut-clause-names : goal.fetch-returns-then-is_cut-clause-names
fetch-returns-then-is_cut-clause-names g t c =
    let h : List ℕ → List ℕ = g.H.Hash160.naming in
    let a : Answers = g.P.Parents.answers c.args.parents.now in
    let replicas : List Replica = c.args.replicas.now in
    let name : List ℕ = c.args.name in
    let r : ℕ = c.args.replica in
    let parent : Place = c.parent_of-parent.result in
    let made = fetched_cut h a name replicas r parent c.requires.forest c.requires.place c.parent_of-parent.ensures (sym c.if-is_cut.ensures) in
    subst (λ (o : Offer). Names h o.named c.args.book.now.held c.args.book.now.held) made (names_none h c.args.book.now.held)

pub fetch-returns-in-Err-clause-grew : goal.fetch-returns-in-Err-clause-grew
fetch-returns-in-Err-clause-grew g t c =
    let h : List ℕ → List ℕ = g.H.Hash160.naming in
    let a : Answers = g.P.Parents.answers c.args.parents.now in
    let replicas : List Replica = c.args.replicas.now in
    let name : List ℕ = c.args.name in
    let r : ℕ = c.args.replica in
    let parent : Place = c.parent_of-parent.result in
    let up : Offer = offered_up h a name (chain (parents_of replicas) parent) replicas in
    let made = fetched_is h a name replicas r parent c.requires.forest c.requires.place c.parent_of-parent.ensures up.string up.replicas (sym c.if-is_cut.ensures) refl refl in
    let more : List (List ℕ) = (taken_in h name r up.string up.replicas).named in
    subst (λ (o : Offer). Grew h c.args.book.now.held (Contains o.named) c.ask.new.book.held) made (grew_first h c.args.book.now.held c.ask.new.book.held up.named more c.ask.ensures.grew)

pub fetch-returns-in-Err-clause-fault : goal.fetch-returns-in-Err-clause-fault
fetch-returns-in-Err-clause-fault g t c =
    let h : List ℕ → List ℕ = g.H.Hash160.naming in
    let a : Answers = g.P.Parents.answers c.args.parents.now in
    let replicas : List Replica = c.args.replicas.now in
    let name : List ℕ = c.args.name in
    let r : ℕ = c.args.replica in
    let parent : Place = c.parent_of-parent.result in
    let up : Offer = offered_up h a name (chain (parents_of replicas) parent) replicas in
    let made = fetched_is h a name replicas r parent c.requires.forest c.requires.place c.parent_of-parent.ensures up.string up.replicas (sym c.if-is_cut.ensures) refl refl in
    let more : List (List ℕ) = (taken_in h name r up.string up.replicas).named in
    subst (λ (o : Offer). IsClashIn h c.ask.new.book.held (Contains o.named) c.in-Err.fault) made (clash_wider h c.ask.new.book.held (Contains up.named) (Contains (up.named ++ more)) c.in-Err.fault (Contains-append_left up.named more) c.in-Err.ensures.fault)

pub fetch-returns-clause-string : goal.fetch-returns-clause-string
fetch-returns-clause-string g t c =
    let h : List ℕ → List ℕ = g.H.Hash160.naming in
    let a : Answers = g.P.Parents.answers c.args.parents.now in
    let replicas : List Replica = c.args.replicas.now in
    let name : List ℕ = c.args.name in
    let r : ℕ = c.args.replica in
    let parent : Place = c.parent_of-parent.result in
    let up : Offer = offered_up h a name (chain (parents_of replicas) parent) replicas in
    let came : Option (List ℕ) = c.in-Ok.came in
    let now : List Replica = c.ask.new.replicas in
    let taken : Offer = taken_in h name r came now in
    let made = fetched_is h a name replicas r parent c.requires.forest c.requires.place c.parent_of-parent.ensures came now (sym c.if-is_cut.ensures) c.in-Ok.ensures.string c.in-Ok.ensures.replicas in
    let old : Held = c.args.book.now.held in
    let mid : Held = c.ask.new.book.held in
    let new : Held = c.take_in.new.book.held in
    subst (λ (o : Offer). IfOk c.take_in.result (λ string. string ≡ o.string)) made c.take_in.ensures.string

pub fetch-returns-clause-replicas : goal.fetch-returns-clause-replicas
fetch-returns-clause-replicas g t c =
    let h : List ℕ → List ℕ = g.H.Hash160.naming in
    let a : Answers = g.P.Parents.answers c.args.parents.now in
    let replicas : List Replica = c.args.replicas.now in
    let name : List ℕ = c.args.name in
    let r : ℕ = c.args.replica in
    let parent : Place = c.parent_of-parent.result in
    let up : Offer = offered_up h a name (chain (parents_of replicas) parent) replicas in
    let came : Option (List ℕ) = c.in-Ok.came in
    let now : List Replica = c.ask.new.replicas in
    let taken : Offer = taken_in h name r came now in
    let made = fetched_is h a name replicas r parent c.requires.forest c.requires.place c.parent_of-parent.ensures came now (sym c.if-is_cut.ensures) c.in-Ok.ensures.string c.in-Ok.ensures.replicas in
    let old : Held = c.args.book.now.held in
    let mid : Held = c.ask.new.book.held in
    let new : Held = c.take_in.new.book.held in
    subst (λ (o : Offer). OnOk c.take_in.result (c.take_in.new.replicas ≡ o.replicas)) made c.take_in.ensures.replicas

pub fetch-returns-clause-names : goal.fetch-returns-clause-names
fetch-returns-clause-names g t c =
    let h : List ℕ → List ℕ = g.H.Hash160.naming in
    let a : Answers = g.P.Parents.answers c.args.parents.now in
    let replicas : List Replica = c.args.replicas.now in
    let name : List ℕ = c.args.name in
    let r : ℕ = c.args.replica in
    let parent : Place = c.parent_of-parent.result in
    let up : Offer = offered_up h a name (chain (parents_of replicas) parent) replicas in
    let came : Option (List ℕ) = c.in-Ok.came in
    let now : List Replica = c.ask.new.replicas in
    let taken : Offer = taken_in h name r came now in
    let made = fetched_is h a name replicas r parent c.requires.forest c.requires.place c.parent_of-parent.ensures came now (sym c.if-is_cut.ensures) c.in-Ok.ensures.string c.in-Ok.ensures.replicas in
    let old : Held = c.args.book.now.held in
    let mid : Held = c.ask.new.book.held in
    let new : Held = c.take_in.new.book.held in
    subst (λ (o : Offer). OnOk c.take_in.result (Names h o.named old new)) made
    (on_ok_weaker c.take_in.result (names_then h old mid new up.named taken.named c.in-Ok.ensures.names c.take_in.ensures.grew) c.take_in.ensures.names)

pub fetch-returns-clause-grew : goal.fetch-returns-clause-grew
fetch-returns-clause-grew g t c =
    let h : List ℕ → List ℕ = g.H.Hash160.naming in
    let a : Answers = g.P.Parents.answers c.args.parents.now in
    let replicas : List Replica = c.args.replicas.now in
    let name : List ℕ = c.args.name in
    let r : ℕ = c.args.replica in
    let parent : Place = c.parent_of-parent.result in
    let up : Offer = offered_up h a name (chain (parents_of replicas) parent) replicas in
    let came : Option (List ℕ) = c.in-Ok.came in
    let now : List Replica = c.ask.new.replicas in
    let taken : Offer = taken_in h name r came now in
    let made = fetched_is h a name replicas r parent c.requires.forest c.requires.place c.parent_of-parent.ensures came now (sym c.if-is_cut.ensures) c.in-Ok.ensures.string c.in-Ok.ensures.replicas in
    let old : Held = c.args.book.now.held in
    let mid : Held = c.ask.new.book.held in
    let new : Held = c.take_in.new.book.held in
    subst (λ (o : Offer). Grew h old (Contains o.named) new) made (grew_both h old mid new up.named taken.named c.ask.ensures.grew c.take_in.ensures.grew)

pub fetch-returns-clause-fault : goal.fetch-returns-clause-fault
fetch-returns-clause-fault g t c =
    let h : List ℕ → List ℕ = g.H.Hash160.naming in
    let a : Answers = g.P.Parents.answers c.args.parents.now in
    let replicas : List Replica = c.args.replicas.now in
    let name : List ℕ = c.args.name in
    let r : ℕ = c.args.replica in
    let parent : Place = c.parent_of-parent.result in
    let up : Offer = offered_up h a name (chain (parents_of replicas) parent) replicas in
    let came : Option (List ℕ) = c.in-Ok.came in
    let now : List Replica = c.ask.new.replicas in
    let taken : Offer = taken_in h name r came now in
    let made = fetched_is h a name replicas r parent c.requires.forest c.requires.place c.parent_of-parent.ensures came now (sym c.if-is_cut.ensures) c.in-Ok.ensures.string c.in-Ok.ensures.replicas in
    let old : Held = c.args.book.now.held in
    let mid : Held = c.ask.new.book.held in
    let new : Held = c.take_in.new.book.held in
    subst (λ (o : Offer). IfErr c.take_in.result (IsClashIn h new (Contains o.named))) made
    (IfErr-weaker c.take_in.result (IsClashIn h new (Contains taken.named)) (IsClashIn h new (Contains (up.named ++ taken.named)))
    (λ f. clash_wider h new (Contains taken.named) (Contains (up.named ++ taken.named)) f (Contains-append_right up.named taken.named)) c.take_in.ensures.fault)

pub offer-returns-in-Some-clause-string : goal.offer-returns-in-Some-clause-string
offer-returns-in-Some-clause-string g t c =
    let h : List ℕ → List ℕ = g.H.Hash160.naming in
    let a : Answers = g.P.Parents.answers c.args.parents.now in
    let replicas : List Replica = c.args.replicas.now in
    let name : List ℕ = c.args.name in
    let r : ℕ = c.args.replica in
    let fetch : Offer = fetched h a (above replicas r) r name replicas in
    let now : List Replica = c.own_answer.new.replicas in
    let found = subst (λ (o : Option (List ℕ)). IfSome o (λ bytes. (otherwise : Offer) → own_or replicas name r otherwise ≡ given (Some bytes) now)) c.in-Some.is c.in_ok-bytes.ensures.found in
    let made = sym (offered_is h a name replicas r c.requires.place ∙ found fetch) in
    ap (λ (o : Offer). o.string) made

pub offer-returns-in-Some-clause-replicas : goal.offer-returns-in-Some-clause-replicas
offer-returns-in-Some-clause-replicas g t c =
    let h : List ℕ → List ℕ = g.H.Hash160.naming in
    let a : Answers = g.P.Parents.answers c.args.parents.now in
    let replicas : List Replica = c.args.replicas.now in
    let name : List ℕ = c.args.name in
    let r : ℕ = c.args.replica in
    let fetch : Offer = fetched h a (above replicas r) r name replicas in
    let now : List Replica = c.own_answer.new.replicas in
    let found = subst (λ (o : Option (List ℕ)). IfSome o (λ bytes. (otherwise : Offer) → own_or replicas name r otherwise ≡ given (Some bytes) now)) c.in-Some.is c.in_ok-bytes.ensures.found in
    let made = sym (offered_is h a name replicas r c.requires.place ∙ found fetch) in
    ap (λ (o : Offer). o.replicas) made

pub offer-returns-in-Some-clause-names : goal.offer-returns-in-Some-clause-names
offer-returns-in-Some-clause-names g t c =
    let h : List ℕ → List ℕ = g.H.Hash160.naming in
    let a : Answers = g.P.Parents.answers c.args.parents.now in
    let replicas : List Replica = c.args.replicas.now in
    let name : List ℕ = c.args.name in
    let r : ℕ = c.args.replica in
    let fetch : Offer = fetched h a (above replicas r) r name replicas in
    let now : List Replica = c.own_answer.new.replicas in
    let found = subst (λ (o : Option (List ℕ)). IfSome o (λ bytes. (otherwise : Offer) → own_or replicas name r otherwise ≡ given (Some bytes) now)) c.in-Some.is c.in_ok-bytes.ensures.found in
    let made = sym (offered_is h a name replicas r c.requires.place ∙ found fetch) in
    subst (λ (o : Offer). Names h o.named c.args.book.now.held c.args.book.now.held) made (names_none h c.args.book.now.held)

pub offer-returns-clause-string : goal.offer-returns-clause-string
offer-returns-clause-string g t c =
    let h : List ℕ → List ℕ = g.H.Hash160.naming in
    let a : Answers = g.P.Parents.answers c.args.parents.now in
    let replicas : List Replica = c.args.replicas.now in
    let name : List ℕ = c.args.name in
    let r : ℕ = c.args.replica in
    let fetch : Offer = fetched h a (above replicas r) r name replicas in
    let now : List Replica = c.own_answer.new.replicas in
    let same : now ≡ replicas = c.in_ok-bytes.ensures.same c.in_default.is in
    let made = ap (λ (list : List Replica). fetched h a (above list r) r name list) same ∙ sym (offered_is h a name replicas r c.requires.place ∙ c.in_ok-bytes.ensures.none c.in_default.is fetch) in
    let old : Held = c.args.book.now.held in
    let new : Held = c.fetch.new.book.held in
    subst (λ (o : Offer). IfOk c.fetch.result (λ string. string ≡ o.string)) made c.fetch.ensures.string

pub offer-returns-clause-replicas : goal.offer-returns-clause-replicas
offer-returns-clause-replicas g t c =
    let h : List ℕ → List ℕ = g.H.Hash160.naming in
    let a : Answers = g.P.Parents.answers c.args.parents.now in
    let replicas : List Replica = c.args.replicas.now in
    let name : List ℕ = c.args.name in
    let r : ℕ = c.args.replica in
    let fetch : Offer = fetched h a (above replicas r) r name replicas in
    let now : List Replica = c.own_answer.new.replicas in
    let same : now ≡ replicas = c.in_ok-bytes.ensures.same c.in_default.is in
    let made = ap (λ (list : List Replica). fetched h a (above list r) r name list) same ∙ sym (offered_is h a name replicas r c.requires.place ∙ c.in_ok-bytes.ensures.none c.in_default.is fetch) in
    let old : Held = c.args.book.now.held in
    let new : Held = c.fetch.new.book.held in
    subst (λ (o : Offer). OnOk c.fetch.result (c.fetch.new.replicas ≡ o.replicas)) made c.fetch.ensures.replicas

pub offer-returns-clause-names : goal.offer-returns-clause-names
offer-returns-clause-names g t c =
    let h : List ℕ → List ℕ = g.H.Hash160.naming in
    let a : Answers = g.P.Parents.answers c.args.parents.now in
    let replicas : List Replica = c.args.replicas.now in
    let name : List ℕ = c.args.name in
    let r : ℕ = c.args.replica in
    let fetch : Offer = fetched h a (above replicas r) r name replicas in
    let now : List Replica = c.own_answer.new.replicas in
    let same : now ≡ replicas = c.in_ok-bytes.ensures.same c.in_default.is in
    let made = ap (λ (list : List Replica). fetched h a (above list r) r name list) same ∙ sym (offered_is h a name replicas r c.requires.place ∙ c.in_ok-bytes.ensures.none c.in_default.is fetch) in
    let old : Held = c.args.book.now.held in
    let new : Held = c.fetch.new.book.held in
    subst (λ (o : Offer). OnOk c.fetch.result (Names h o.named old new)) made c.fetch.ensures.names

pub offer-returns-clause-grew : goal.offer-returns-clause-grew
offer-returns-clause-grew g t c =
    let h : List ℕ → List ℕ = g.H.Hash160.naming in
    let a : Answers = g.P.Parents.answers c.args.parents.now in
    let replicas : List Replica = c.args.replicas.now in
    let name : List ℕ = c.args.name in
    let r : ℕ = c.args.replica in
    let fetch : Offer = fetched h a (above replicas r) r name replicas in
    let now : List Replica = c.own_answer.new.replicas in
    let same : now ≡ replicas = c.in_ok-bytes.ensures.same c.in_default.is in
    let made = ap (λ (list : List Replica). fetched h a (above list r) r name list) same ∙ sym (offered_is h a name replicas r c.requires.place ∙ c.in_ok-bytes.ensures.none c.in_default.is fetch) in
    let old : Held = c.args.book.now.held in
    let new : Held = c.fetch.new.book.held in
    subst (λ (o : Offer). Grew h old (Contains o.named) new) made c.fetch.ensures.grew

pub offer-returns-clause-fault : goal.offer-returns-clause-fault
offer-returns-clause-fault g t c =
    let h : List ℕ → List ℕ = g.H.Hash160.naming in
    let a : Answers = g.P.Parents.answers c.args.parents.now in
    let replicas : List Replica = c.args.replicas.now in
    let name : List ℕ = c.args.name in
    let r : ℕ = c.args.replica in
    let fetch : Offer = fetched h a (above replicas r) r name replicas in
    let now : List Replica = c.own_answer.new.replicas in
    let same : now ≡ replicas = c.in_ok-bytes.ensures.same c.in_default.is in
    let made = ap (λ (list : List Replica). fetched h a (above list r) r name list) same ∙ sym (offered_is h a name replicas r c.requires.place ∙ c.in_ok-bytes.ensures.none c.in_default.is fetch) in
    let old : Held = c.args.book.now.held in
    let new : Held = c.fetch.new.book.held in
    subst (λ (o : Offer). IfErr c.fetch.result (IsClashIn h new (Contains o.named))) made c.fetch.ensures.fault
