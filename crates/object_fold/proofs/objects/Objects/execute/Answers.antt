use Rattle.std.proofs.Common.{◌≡◌, ap, sym, ◌∙◌, refl, subst}
use Rattle.std.specs.Prelude.{All, Contains}
use Rattle.std.proofs.lemmas.List.Elements.{All-nil}
use Rattle.block_names.specs.Growth.{Grew, Holds, IsClashIn, keep_all}
use Rattle.tree_format.specs.declared.root.Root.{Root}
use Rattle.object_model.specs.Folds.{versions_after}
use Rattle.ring_message.specs.declared.outcome.Outcome.TheVariants as told
use Rattle.object_fold.specs.Choice.{refusal_of}
use Rattle.object_model.specs.Outcomes.{strings_of_effect, outcome_of}
use Rattle.object_fold.proofs.Execution.{again_after, refused_effect, refused_after, refused_known, tree_known, has_room, edits_known, next_strings, next_counted, made_outcome, made_after, made_known}
use Rattle.object_fold.proofs.objects.Objects.execute.Goals as goal

-- ---- a request that was executed before

pub returns-then-has-clause-after : goal.returns-then-has-clause-after
returns-then-has-clause-after g c = again_after g.H.Hash160.naming c.args.self.now _ c.self.view_is c.args.request.now c.if-has.ensures

-- ---- a refusal

pub returns-in-Err-clause-outcome : goal.returns-in-Err-clause-outcome
returns-in-Err-clause-outcome g c = λ block earlier after.
    let h = g.H.Hash160.naming in
    let versions = versions_after h block c.args.request.now.label earlier in
    c.told.ensures h block versions
    ∙ sym (ap (λ e. outcome_of h block e versions)
    (refused_effect h c.args.self.now _ c.self.view_is c.args.request.now c.as_slice-clauses.result.now c.as_slice-clauses.ensures c.newest.result.now c.newest.result.now c.newest.ensures c.newest.ensures c.if-has.ensures
    (refusal_of c.in-Err.refused) (λ b content older stands. c.in-Err.ensures h b content older stands) block earlier after))

pub returns-in-Err-clause-after : goal.returns-in-Err-clause-after
returns-in-Err-clause-after g c =
    let h = g.H.Hash160.naming in
    refused_after h c.args.self.now _ c.self.view_is c.args.request.now c.as_slice-clauses.result.now c.as_slice-clauses.ensures c.newest.result.now c.newest.result.now c.newest.ensures c.newest.ensures c.if-has.ensures
    (refusal_of c.in-Err.refused) (λ b content older stands. c.in-Err.ensures h b content older stands) _ refl refl refl c.in_ok-add-in-Err.ensures

pub returns-in-Err-clause-known : goal.returns-in-Err-clause-known
returns-in-Err-clause-known g c =
    let h = g.H.Hash160.naming in
    refused_known h c.args.self.now _ c.self.view_is c.args.request.now c.as_slice-clauses.result.now c.as_slice-clauses.ensures c.newest.result.now c.newest.result.now c.newest.ensures c.newest.ensures c.if-has.ensures
    (refusal_of c.in-Err.refused) (λ b content older stands. c.in-Err.ensures h b content older stands) c.args.book.now.held _ refl refl refl c.in_ok-add-in-Err.ensures c.requires.known

pub returns-in-Err-clause-held : goal.returns-in-Err-clause-held
returns-in-Err-clause-held g c = λ block earlier after.
    let h = g.H.Hash160.naming in
    let versions = versions_after h block c.args.request.now.label earlier in
    sym (ap (λ e. keep_all h (strings_of_effect h block e versions) c.args.book.now.held)
    (refused_effect h c.args.self.now _ c.self.view_is c.args.request.now c.as_slice-clauses.result.now c.as_slice-clauses.ensures c.newest.result.now c.newest.result.now c.newest.ensures c.newest.ensures c.if-has.ensures
    (refusal_of c.in-Err.refused) (λ b content older stands. c.in-Err.ensures h b content older stands) block earlier after))

pub returns-in-Err-clause-all : goal.returns-in-Err-clause-all
returns-in-Err-clause-all g c = λ block earlier after.
    let h = g.H.Hash160.naming in
    let versions = versions_after h block c.args.request.now.label earlier in
    subst (λ e. All (Holds h c.args.book.now.held) (strings_of_effect h block e versions))
    (sym
    (refused_effect h c.args.self.now _ c.self.view_is c.args.request.now c.as_slice-clauses.result.now c.as_slice-clauses.ensures c.newest.result.now c.newest.result.now c.newest.ensures c.newest.ensures c.if-has.ensures
    (refusal_of c.in-Err.refused) (λ b content older stands. c.in-Err.ensures h b content older stands) block earlier after))
    (All-nil (Holds h c.args.book.now.held))

-- ---- the next version of the newest tree

pub apply-requires-clause-tree : goal.apply-requires-clause-tree
apply-requires-clause-tree g c =
    let h = g.H.Hash160.naming in
    tree_known h c.args.self.now _ c.self.view_is c.args.request.now c.as_slice-clauses.result.now c.as_slice-clauses.ensures c.newest.result.now c.newest-newest.result.now c.newest.ensures c.newest-newest.ensures c.if-has.ensures
    c.args.book.now.held c.requires.known

pub apply-requires-clause-room : goal.apply-requires-clause-room
apply-requires-clause-room g c =
    let h = g.H.Hash160.naming in
    has_room h c.args.self.now _ c.self.view_is c.args.request.now c.as_slice-clauses.result.now c.as_slice-clauses.ensures c.newest.result.now c.newest-newest.result.now c.newest.ensures c.newest-newest.ensures c.if-has.ensures
    c.args.book.now.held c.requires.known c.requires.room

pub apply-requires-clause-edits : goal.apply-requires-clause-edits
apply-requires-clause-edits g c =
    let h = g.H.Hash160.naming in
    edits_known h c.args.self.now _ c.self.view_is c.args.request.now c.as_slice-clauses.result.now c.as_slice-clauses.ensures c.newest.result.now c.newest-newest.result.now c.newest.ensures c.newest-newest.ensures c.if-has.ensures
    c.in-Ok.actions.now (λ b content older stands. c.in-Ok.ensures h b content older stands) c.args.book.now.held c.requires.known

-- ---- a fault of naming

pub returns-in-Err-apply-clause-grew : goal.returns-in-Err-apply-clause-grew
returns-in-Err-apply-clause-grew g c =
    let h = g.H.Hash160.naming in
    next_strings h c.args.self.now _ c.self.view_is c.args.request.now c.as_slice-clauses.result.now c.as_slice-clauses.ensures c.newest.result.now c.newest-newest.result.now c.newest.ensures c.newest-newest.ensures c.if-has.ensures
    c.in-Ok.actions.now (λ b content older stands. c.in-Ok.ensures h b content older stands)
    (λ strings. Grew h c.args.book.now.held (Contains strings) c.apply.new.book.held) c.apply.ensures.grew

pub returns-in-Err-apply-clause-counted : goal.returns-in-Err-apply-clause-counted
returns-in-Err-apply-clause-counted g c =
    let h = g.H.Hash160.naming in
    next_counted h c.args.self.now _ c.self.view_is c.args.request.now c.as_slice-clauses.result.now c.as_slice-clauses.ensures c.newest.result.now c.newest-newest.result.now c.newest.ensures c.newest-newest.ensures c.if-has.ensures
    c.in-Ok.actions.now (λ b content older stands. c.in-Ok.ensures h b content older stands) c.args.book.now.namings c.apply.new.book.namings c.apply.ensures.counted

pub returns-in-Err-apply-clause-fault : goal.returns-in-Err-apply-clause-fault
returns-in-Err-apply-clause-fault g c =
    let h = g.H.Hash160.naming in
    next_strings h c.args.self.now _ c.self.view_is c.args.request.now c.as_slice-clauses.result.now c.as_slice-clauses.ensures c.newest.result.now c.newest-newest.result.now c.newest.ensures c.newest-newest.ensures c.if-has.ensures
    c.in-Ok.actions.now (λ b content older stands. c.in-Ok.ensures h b content older stands)
    (λ strings. IsClashIn h c.apply.new.book.held (Contains strings) c.in-Err-apply.fault) c.in-Err-apply.ensures.fault

-- ---- want of memory after it

pub returns-in_err-keep-clause-grew : goal.returns-in_err-keep-clause-grew
returns-in_err-keep-clause-grew g c =
    let h = g.H.Hash160.naming in
    next_strings h c.args.self.now _ c.self.view_is c.args.request.now c.as_slice-clauses.result.now c.as_slice-clauses.ensures c.newest.result.now c.newest-newest.result.now c.newest.ensures c.newest-newest.ensures c.if-has.ensures
    c.in-Ok.actions.now (λ b content older stands. c.in-Ok.ensures h b content older stands)
    (λ strings. Grew h c.args.book.now.held (Contains strings) c.apply.new.book.held) c.apply.ensures.grew

pub returns-in_err-keep-clause-counted : goal.returns-in_err-keep-clause-counted
returns-in_err-keep-clause-counted g c =
    let h = g.H.Hash160.naming in
    next_counted h c.args.self.now _ c.self.view_is c.args.request.now c.as_slice-clauses.result.now c.as_slice-clauses.ensures c.newest.result.now c.newest-newest.result.now c.newest.ensures c.newest-newest.ensures c.if-has.ensures
    c.in-Ok.actions.now (λ b content older stands. c.in-Ok.ensures h b content older stands) c.args.book.now.namings c.apply.new.book.namings c.apply.ensures.counted

pub returns-in_err-changed-clause-grew : goal.returns-in_err-changed-clause-grew
returns-in_err-changed-clause-grew g c =
    let h = g.H.Hash160.naming in
    next_strings h c.args.self.now _ c.self.view_is c.args.request.now c.as_slice-clauses.result.now c.as_slice-clauses.ensures c.newest.result.now c.newest-newest.result.now c.newest.ensures c.newest-newest.ensures c.if-has.ensures
    c.in-Ok.actions.now (λ b content older stands. c.in-Ok.ensures h b content older stands)
    (λ strings. Grew h c.args.book.now.held (Contains strings) c.apply.new.book.held) c.apply.ensures.grew

pub returns-in_err-changed-clause-counted : goal.returns-in_err-changed-clause-counted
returns-in_err-changed-clause-counted g c =
    let h = g.H.Hash160.naming in
    next_counted h c.args.self.now _ c.self.view_is c.args.request.now c.as_slice-clauses.result.now c.as_slice-clauses.ensures c.newest.result.now c.newest-newest.result.now c.newest.ensures c.newest-newest.ensures c.if-has.ensures
    c.in-Ok.actions.now (λ b content older stands. c.in-Ok.ensures h b content older stands) c.args.book.now.namings c.apply.new.book.namings c.apply.ensures.counted

-- ---- a version

pub returns-clause-outcome : goal.returns-clause-outcome
returns-clause-outcome g c = λ block earlier after.
    let h = g.H.Hash160.naming in
    ap (λ (r : Root). told.Made r.version c.name.result) c.root.ensures.value
    ∙ ap (λ n. told.Made c.in-Ok-apply.tree.root.version n) c.name.ensures
    ∙ made_outcome h c.args.self.now _ c.self.view_is c.args.request.now c.as_slice-clauses.result.now c.as_slice-clauses.ensures c.newest.result.now c.newest-newest.result.now c.newest.ensures c.newest-newest.ensures c.if-has.ensures
    c.in-Ok.actions.now (λ b content older stands. c.in-Ok.ensures h b content older stands) c.in-Ok-apply.tree c.in-Ok-apply.ensures.stands block earlier after

pub returns-clause-after : goal.returns-clause-after
returns-clause-after g c =
    let h = g.H.Hash160.naming in
    made_after h c.args.self.now _ c.self.view_is c.args.request.now c.as_slice-clauses.result.now c.as_slice-clauses.ensures c.newest.result.now c.newest-newest.result.now c.newest.ensures c.newest-newest.ensures c.if-has.ensures
    c.in-Ok.actions.now (λ b content older stands. c.in-Ok.ensures h b content older stands) c.in-Ok-apply.tree c.in-Ok-apply.ensures.stands c.args.book.now.held c.apply.new.book.held c.keep.new.self c.as_slice.result.now
    c.requires.known c.in_ok-keep.ensures (c.as_slice.ensures ∙ c.in_ok-changed.ensures) c.in-Ok-apply.ensures.tree c.apply.ensures.grew

pub returns-clause-known : goal.returns-clause-known
returns-clause-known g c =
    let h = g.H.Hash160.naming in
    made_known h c.args.self.now _ c.self.view_is c.args.request.now c.as_slice-clauses.result.now c.as_slice-clauses.ensures c.newest.result.now c.newest-newest.result.now c.newest.ensures c.newest-newest.ensures c.if-has.ensures
    c.in-Ok.actions.now (λ b content older stands. c.in-Ok.ensures h b content older stands) c.in-Ok-apply.tree c.in-Ok-apply.ensures.stands c.args.book.now.held c.apply.new.book.held c.keep.new.self c.as_slice.result.now
    c.requires.known c.in_ok-keep.ensures (c.as_slice.ensures ∙ c.in_ok-changed.ensures) c.in-Ok-apply.ensures.tree c.apply.ensures.grew

pub returns-clause-held : goal.returns-clause-held
returns-clause-held g c =
    let h = g.H.Hash160.naming in
    next_strings h c.args.self.now _ c.self.view_is c.args.request.now c.as_slice-clauses.result.now c.as_slice-clauses.ensures c.newest.result.now c.newest-newest.result.now c.newest.ensures c.newest-newest.ensures c.if-has.ensures
    c.in-Ok.actions.now (λ b content older stands. c.in-Ok.ensures h b content older stands)
    (λ strings. c.apply.new.book.held ≡ keep_all h strings c.args.book.now.held) c.in-Ok-apply.ensures.held

pub returns-clause-all : goal.returns-clause-all
returns-clause-all g c =
    let h = g.H.Hash160.naming in
    next_strings h c.args.self.now _ c.self.view_is c.args.request.now c.as_slice-clauses.result.now c.as_slice-clauses.ensures c.newest.result.now c.newest-newest.result.now c.newest.ensures c.newest-newest.ensures c.if-has.ensures
    c.in-Ok.actions.now (λ b content older stands. c.in-Ok.ensures h b content older stands)
    (All (Holds h c.apply.new.book.held)) c.in-Ok-apply.ensures.all

pub returns-clause-grew : goal.returns-clause-grew
returns-clause-grew g c =
    let h = g.H.Hash160.naming in
    next_strings h c.args.self.now _ c.self.view_is c.args.request.now c.as_slice-clauses.result.now c.as_slice-clauses.ensures c.newest.result.now c.newest-newest.result.now c.newest.ensures c.newest-newest.ensures c.if-has.ensures
    c.in-Ok.actions.now (λ b content older stands. c.in-Ok.ensures h b content older stands)
    (λ strings. Grew h c.args.book.now.held (Contains strings) c.apply.new.book.held) c.apply.ensures.grew

pub returns-clause-counted : goal.returns-clause-counted
returns-clause-counted g c =
    let h = g.H.Hash160.naming in
    next_counted h c.args.self.now _ c.self.view_is c.args.request.now c.as_slice-clauses.result.now c.as_slice-clauses.ensures c.newest.result.now c.newest-newest.result.now c.newest.ensures c.newest-newest.ensures c.if-has.ensures
    c.in-Ok.actions.now (λ b content older stands. c.in-Ok.ensures h b content older stands) c.args.book.now.namings c.apply.new.book.namings c.apply.ensures.counted
