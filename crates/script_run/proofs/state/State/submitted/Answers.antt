use Rattle.std.proofs.Common.{◌≡◌, ◌∷◌, [], Contains, true, ◌∙◌, ap, sym, subst, arith}
use Rattle.std.specs.List.{flat_map}
use Rattle.std.proofs.lemmas.Result.{err_from_is_err_and}
use Rattle.block_names.specs.Growth.{Grew}
use Rattle.guarded_update.specs.Fitting.{request_fits}
use Rattle.guarded_update.specs.Spelling.{request_string}
use Rattle.pond_world.proofs.Sites.{named_clash}
use Rattle.pond_world.specs.Sites.{IsClashAfter}
use Rattle.ring_world.specs.declared.event.Event.{Event}
use Rattle.ring_world.specs.declared.event.Event.TheVariants as event
use Rattle.ring_world.specs.Steps.{IsStep}
use Rattle.script_terms.specs.declared.line.Line.{Line}
use Rattle.script_terms.specs.declared.line.Line.TheVariants.{Submit}
use Rattle.text_model.specs.Events.{ring_for, events_of}
use Rattle.text_model.specs.Named.{clause_strings}
use Rattle.text_model.specs.Requests.{next_request, submitted}
use Rattle.tree_format.specs.Strings.{label_string}
use Rattle.pond_node.specs.declared.node.Node.{Node}
use Rattle.ring_mail.specs.Skips.{Skips}
use Rattle.ring_world.specs.declared.state.World.{World}
use Rattle.script_run.specs.States.{StandsNext, lines_before}
use Rattle.script_run.proofs.Requesting.{counted, few_counted, next_fits, next_is, submits, stands_same, stands_next, second_held}
use Rattle.script_run.proofs.Submitted.{leaves_clash, request_clash, submitted_next}
use Rattle.script_run.proofs.Turns.{turn_fits}
use Rattle.ring_world.specs.Skipping.{skips as skips_of}
use Rattle.script_run.proofs.state.State.submitted.Goals as goal

pub clauses_of-requires : goal.clauses_of-requires
clauses_of-requires g c =
    let a = c.args in
    (turn_fits c.lines_fit_in_turn.ensures.turn g.H.Hash160.naming a.script.now a.at (Submit a.client a.label a.clauses.now) a.self.site (skips_of a.self.site.world) c.requires).light.0.1

pub returns-in_err-clauses-clause-fault : goal.returns-in_err-clauses-clause-fault
returns-in_err-clauses-clause-fault g c =
    let p = err_from_is_err_and c.from_residual.result c.from_residual.ensures.1 in
    let h = g.H.Hash160.naming in
    let a = c.args in
    let grew = subst (λ held. Grew h held (Contains (flat_map clause_strings a.clauses.now)) c.clauses_of.new.book.held) c.into_parts-book.ensures.book c.clauses_of.ensures.grew in
    rw (p.1, p.2) (leaves_clash h a.script.now a.at a.client a.label a.clauses.now a.self.site (skips_of a.self.site.world) c.in_err-clauses.field-0.0 c.requires (c.clauses_of.new.book.held, grew, c.in_err-clauses.ensures.fault))

pub overflow_add-request : goal.overflow_add-request
overflow_add-request g c =
    let h = g.H.Hash160.naming in
    let a = c.args in
    let fit = c.lines_fit_in_turn.ensures in
    let counts = counted fit.turn c.submits_are_requests.ensures.counts h a.script.now a.at a.client a.label a.clauses.now a.self.site (skips_of a.self.site.world) c.into_parts-book.result.1 c.submitted.result c.requires c.into_parts-book.ensures.world c.submitted.ensures in
    omega (arith, counts, few_counted fit.turn fit.few h a.script.now a.at a.client a.label a.clauses.now a.self.site (skips_of a.self.site.world) c.requires)

pub write-requires : goal.write-requires
write-requires g c =
    let h = g.H.Hash160.naming in
    let a = c.args in
    let fit = c.lines_fit_in_turn.ensures in
    let counts = counted fit.turn c.submits_are_requests.ensures.counts h a.script.now a.at a.client a.label a.clauses.now a.self.site (skips_of a.self.site.world) c.into_parts-book.result.1 c.submitted.result c.requires c.into_parts-book.ensures.world c.submitted.ensures in
    subst (λ request. request_fits request ≡ true)
    (sym (next_is h (submitted h (lines_before a.script.now a.at)) a.client c.submitted.result a.label a.clauses.now c.in_ok-clauses.clauses counts c.in_ok-clauses.ensures.value))
    (next_fits fit.turn h a.script.now a.at a.client a.label a.clauses.now a.self.site (skips_of a.self.site.world) c.requires)

pub of-site-requires : goal.of-site-requires
of-site-requires g c = λ going. c.worlds_stay_known.ensures g.H.Hash160.naming c.into_parts-book.result.0.held c.clauses_of.new.book.held c.into_parts-book.result.1 c.clauses_of.ensures.grew.kept (c.into_parts-book.ensures.known going)

pub step-requires : goal.step-requires
step-requires g c =
    let h = g.H.Hash160.naming in
    let a = c.args in
    let fit = c.lines_fit_in_turn.ensures in
    let counts = counted fit.turn c.submits_are_requests.ensures.counts h a.script.now a.at a.client a.label a.clauses.now a.self.site (skips_of a.self.site.world) c.into_parts-book.result.1 c.submitted.result c.requires c.into_parts-book.ensures.world c.submitted.ensures in
    let now = submits fit.turn c.submits_are_requests.ensures.counts c.setups_join.ensures.sound c.events_come_of_lines.ensures c.events_may_come.ensures h a.script.now a.at a.client c.submitted.result a.label a.clauses.now
    c.in_ok-clauses.clauses a.self.site (skips_of a.self.site.world) c.requires counts c.in_ok-clauses.ensures.value c.in_ok-write.ensures.allowed in
    let earlier = lines_before a.script.now a.at in
    let line : Line = Submit a.client a.label a.clauses.now in
    let e : Event = event.Submit a.client a.label (record { clauses = c.in_ok-clauses.clauses }) in
    subst (λ w. IsStep w e) (sym c.of-site.ensures.world)
    (c.may_step.ensures (ring_for h a.script.now) (events_of h a.script.now earlier) (stands_same h a.script.now a.at line a.self.site (skips_of a.self.site.world) c.into_parts-book.result.1 c.requires c.into_parts-book.ensures.world) now.may_step)

pub returns-in-Err-clause-fault : goal.returns-in-Err-clause-fault
returns-in-Err-clause-fault g c =
    let h = g.H.Hash160.naming in
    let a = c.args in
    let fit = c.lines_fit_in_turn.ensures in
    let counts = counted fit.turn c.submits_are_requests.ensures.counts h a.script.now a.at a.client a.label a.clauses.now a.self.site (skips_of a.self.site.world) c.into_parts-book.result.1 c.submitted.result c.requires c.into_parts-book.ensures.world c.submitted.ensures in
    let now = submits fit.turn c.submits_are_requests.ensures.counts c.setups_join.ensures.sound c.events_come_of_lines.ensures c.events_may_come.ensures h a.script.now a.at a.client c.submitted.result a.label a.clauses.now
    c.in_ok-clauses.clauses a.self.site (skips_of a.self.site.world) c.requires counts c.in_ok-clauses.ensures.value c.in_ok-write.ensures.allowed in
    let earlier = lines_before a.script.now a.at in
    let line : Line = Submit a.client a.label a.clauses.now in
    let ring = (c.setups_join.ensures.sound h a.script.now c.requires.within.setup).0 in
    let stood = stands_same h a.script.now a.at line a.self.site (skips_of a.self.site.world) c.of-site.result.world c.requires (c.of-site.ensures.world ∙ c.into_parts-book.ensures.world) in
    let grew = subst (λ held. Grew h held (Contains (flat_map clause_strings a.clauses.now)) c.clauses_of.new.book.held) c.into_parts-book.ensures.book c.clauses_of.ensures.grew in
    let strings = label_string a.label ∷ request_string (next_request h (submitted h earlier) a.client a.label a.clauses.now) ∷ [] in
    let events = events_of h a.script.now earlier in
    let left = c.step.new.self.held in
    let clash = named_clash h left _ c.cause_of.result c.in-Err.fault c.cause_of.ensures (c.in-Err.ensures.fault (ring_for h a.script.now) events ring stood now.may_happen) in
    let more = c.step.ensures.grew (ring_for h a.script.now) events ring stood now.may_happen in
    request_clash h a.script.now a.at a.client a.label a.clauses.now a.self.site (skips_of a.self.site.world) c.clauses_of.new.book.held c.cause_of.result c.requires grew
    (subst (λ held. IsClashAfter h held (Contains strings) c.cause_of.result) c.of-site.ensures.held
    (subst (λ ss. IsClashAfter h c.of-site.result.held (Contains ss) c.cause_of.result) now.names (left, more, clash)))

pub returns-in-Ok-clause-stands : goal.returns-in-Ok-clause-stands
returns-in-Ok-clause-stands g c =
    let h = g.H.Hash160.naming in
    let a = c.args in
    let fit = c.lines_fit_in_turn.ensures in
    let counts = counted fit.turn c.submits_are_requests.ensures.counts h a.script.now a.at a.client a.label a.clauses.now a.self.site (skips_of a.self.site.world) c.into_parts-book.result.1 c.submitted.result c.requires c.into_parts-book.ensures.world c.submitted.ensures in
    let now = submits fit.turn c.submits_are_requests.ensures.counts c.setups_join.ensures.sound c.events_come_of_lines.ensures c.events_may_come.ensures h a.script.now a.at a.client c.submitted.result a.label a.clauses.now
    c.in_ok-clauses.clauses a.self.site (skips_of a.self.site.world) c.requires counts c.in_ok-clauses.ensures.value c.in_ok-write.ensures.allowed in
    let earlier = lines_before a.script.now a.at in
    let line : Line = Submit a.client a.label a.clauses.now in
    let ring = (c.setups_join.ensures.sound h a.script.now c.requires.within.setup).0 in
    let stood = stands_same h a.script.now a.at line a.self.site (skips_of a.self.site.world) c.of-site.result.world c.requires (c.of-site.ensures.world ∙ c.into_parts-book.ensures.world) in
    let grew = subst (λ held. Grew h held (Contains (flat_map clause_strings a.clauses.now)) c.clauses_of.new.book.held) c.into_parts-book.ensures.book c.clauses_of.ensures.grew in
    let e : Event = event.Submit a.client a.label (record { clauses = c.in_ok-clauses.clauses }) in
    let next = next_request h (submitted h earlier) a.client a.label a.clauses.now in
    let left = c.step.new.self in
    let same : skips_of left.world ≡ skips_of a.self.site.world = c.step.ensures.skips ∙ ap (λ (w : World Node). skips_of w) (c.of-site.ensures.world ∙ c.into_parts-book.ensures.world) in
    subst (λ (skips : Skips). StandsNext h a.script.now a.at left skips) (sym same)
    (submitted_next h a.script.now a.at a.client a.label a.clauses.now a.self.site (skips_of a.self.site.world) c.clauses_of.new.book.held left c.requires
    (stands_next fit.turn c.events_come_of_lines.ensures h a.script.now a.at line e a.self.site (skips_of a.self.site.world) left.world c.requires now.is_event (c.in-Ok.ensures.stands (ring_for h a.script.now) (events_of h a.script.now earlier) ring stood now.may_happen))
    grew c.in_ok-clauses.ensures.holds
    (subst (λ held. Grew h held (Contains (label_string a.label ∷ request_string next ∷ [])) left.held) c.of-site.ensures.held
    (subst (λ strings. Grew h c.of-site.result.held (Contains strings) left.held) now.names (c.step.ensures.grew (ring_for h a.script.now) (events_of h a.script.now earlier) ring stood now.may_happen)))
    (second_held h (label_string a.label) (request_string next) _ c.of-site.result.held left.held now.names (c.in-Ok.ensures.held (ring_for h a.script.now) (events_of h a.script.now earlier) ring stood now.may_happen))
    now.request)
