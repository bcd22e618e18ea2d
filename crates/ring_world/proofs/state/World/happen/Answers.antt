use Rattle.std.proofs.Common.{ℕ, ◌-◌, ◌∷◌, ◌++◌, Ok, slice_get, is_some, sym, ap, ◌∙◌, subst, append-nil}
use Rattle.std.proofs.lemmas.Result.{err_from_is_err_and}
use Rattle.ring_model.specs.World.{world, MayHappen, between, came}
use Rattle.message_model.specs.Meaning.{who}
use Rattle.ring_model.specs.Places.{delivery}
use Rattle.ring_world.specs.declared.event.Event.{Event}
use Rattle.ring_world.specs.declared.event.Event.TheVariants.{Submit}
use Rattle.client_core.specs.Naming.{Names}
use Rattle.ring_world.specs.Worlds.{IsWorld, WorldStands, event_of, strings_of}
use Rattle.ring_model.specs.Deliveries.{deliveries}
use Rattle.message_model.specs.Naming.{named_of}
use Rattle.ring_world.proofs.Calls.{names_none}
use Rattle.ring_world.proofs.Stepping.{at_place, nothing_there, place_less, delivered_nothing}
use Rattle.ring_world.specs.Steps.{is_there}
use Rattle.client_core.proofs.Calls.{names_err}
use Rattle.ring_world.proofs.Order.{all_in_order}
use Rattle.ring_world.proofs.state.World.happen.Goals as goal

pub returns-in_err-submit-in-Submit-clause-names : goal.returns-in_err-submit-in-Submit-clause-names
returns-in_err-submit-in-Submit-clause-names g c = λ r events ring h may.
    let p = err_from_is_err_and c.from_residual.result c.from_residual.ensures.1 in
    let failed = c.in_err-submit-in-Submit.ensures.names r (world r events) (deliveries r events) ring h.is in
    subst (λ (e : Event). Names g.H.Hash160.naming (strings_of r (world r events) e) c.args.book.now.held c.submit.new.book.held c.from_residual.result) (sym c.in-Submit.is)
    (names_err g.H.Hash160.naming (strings_of r (world r events) (Submit c.in-Submit.client c.in-Submit.label c.in-Submit.update)) c.args.book.now.held c.submit.new.book.held c.from_residual.result p.0 c.in_err-submit-in-Submit.field-0.0 p.1 p.2 failed.0 failed.1)

pub returns-in_ok-submit-in-Submit-clause-stands : goal.returns-in_ok-submit-in-Submit-clause-stands
returns-in_ok-submit-in-Submit-clause-stands g c = λ r events ring h may.
    let may2 = subst (λ (e : Event). MayHappen r (world r events) (event_of r (world r events) e)) c.in-Submit.is may in
    subst (λ (e : Event). WorldStands g.N.Node.stands r c.submit.new.self (event_of r (world r events) e ∷ events)) (sym c.in-Submit.is)
    (record { is = subst (IsWorld g.N.Node.stands r c.submit.new.self _) (sym (append-nil (deliveries r events))) (c.in_ok-submit-in-Submit.ensures.ok r (world r events) (deliveries r events) ring h.is); legal = (may2, h.legal) })

pub returns-in_ok-submit-in-Submit-clause-names : goal.returns-in_ok-submit-in-Submit-clause-names
returns-in_ok-submit-in-Submit-clause-names g c = λ r events ring h may.
    subst (λ (e : Event). Names {X = ℕ} g.H.Hash160.naming (strings_of r (world r events) e) c.args.book.now.held c.submit.new.book.held (Ok 0)) (sym c.in-Submit.is)
    (c.in_ok-submit-in-Submit.ensures.names r (world r events) (deliveries r events) ring h.is)

pub returns-in_ok-resubmit-in-Resubmit-clause-known : goal.returns-in_ok-resubmit-in-Resubmit-clause-known
returns-in_ok-resubmit-in-Resubmit-clause-known g c = c.in_ok-resubmit-in-Resubmit.ensures.known g.H.Hash160.naming c.args.book.now.held c.requires.known

pub returns-in_ok-resubmit-in-Resubmit-clause-stands : goal.returns-in_ok-resubmit-in-Resubmit-clause-stands
returns-in_ok-resubmit-in-Resubmit-clause-stands g c = λ r events ring h may.
    let may2 = subst (λ (e : Event). MayHappen r (world r events) (event_of r (world r events) e)) c.in-Resubmit.is may in
    subst (λ (e : Event). WorldStands g.N.Node.stands r c.resubmit.new.self (event_of r (world r events) e ∷ events)) (sym c.in-Resubmit.is)
    (record {
      is = subst (IsWorld g.N.Node.stands r c.resubmit.new.self _) (sym (append-nil (deliveries r events)))
          (c.in_ok-resubmit-in-Resubmit.ensures.ok g.H.Hash160.naming r (world r events) (deliveries r events) ring h.is (all_in_order r events h.legal));
      legal = (may2, h.legal);
    })

pub returns-then-place-eq0-clause-there : goal.returns-then-place-eq0-clause-there
returns-then-place-eq0-clause-there g c = λ r events ring h may.
    ap is_some (sym (nothing_there (world r events).sent (who c.in-Deliver.from) (who c.in-Deliver.to) c.in-Deliver.place c.if-place-eq0.true))
    ∙ ap (λ (e : Event). is_there (world r events) (event_of r (world r events) e)) (sym c.in-Deliver.is)

pub returns-then-place-eq0-clause-stands : goal.returns-then-place-eq0-clause-stands
returns-then-place-eq0-clause-stands g c = λ r events ring h may.
    let may2 = subst (λ (e : Event). MayHappen r (world r events) (event_of r (world r events) e)) c.in-Deliver.is may in
    subst (λ (e : Event). WorldStands g.N.Node.stands r c.args.self.now (event_of r (world r events) e ∷ events)) (sym c.in-Deliver.is)
    (record {
      is = delivered_nothing g.N.Node.stands r c.args.self.now (world r events) (deliveries r events) (who c.in-Deliver.from) (who c.in-Deliver.to) c.in-Deliver.place c.if-place-eq0.true h.is;
      legal = (may2, h.legal);
    })

pub returns-then-place-eq0-clause-names : goal.returns-then-place-eq0-clause-names
returns-then-place-eq0-clause-names g c = λ r events ring h may.
    subst (λ (e : Event). Names {X = ℕ} g.H.Hash160.naming (strings_of r (world r events) e) c.args.book.now.held c.args.book.now.held (Ok 0)) (sym c.in-Deliver.is)
    (subst (λ o. Names {X = ℕ} g.H.Hash160.naming (named_of r (world r events) o) c.args.book.now.held c.args.book.now.held (Ok 0))
    (sym (nothing_there (world r events).sent (who c.in-Deliver.from) (who c.in-Deliver.to) c.in-Deliver.place c.if-place-eq0.true)) (names_none {X = ℕ} g.H.Hash160.naming c.args.book.now.held 0))

pub returns-in_ok-there-in-Deliver-clause-there : goal.returns-in_ok-there-in-Deliver-clause-there
returns-in_ok-there-in-Deliver-clause-there g c = λ r events ring h may.
    let may2 = subst (λ (e : Event). MayHappen r (world r events) (event_of r (world r events) e)) c.in-Deliver.is may in
    c.in_ok-there-in-Deliver.ensures.there r (world r events) (deliveries r events) ring h.is may2.0 may2.1
    ∙ ap (λ k. is_some (slice_get (between (who c.in-Deliver.from) (who c.in-Deliver.to) (world r events).sent) k)) (sym (place_less (world r events).sent c.in-Deliver.place c.if-place-eq0.false))
    ∙ ap (λ (e : Event). is_there (world r events) (event_of r (world r events) e)) (sym c.in-Deliver.is)

pub returns-in_ok-there-in-Deliver-clause-stands : goal.returns-in_ok-there-in-Deliver-clause-stands
returns-in_ok-there-in-Deliver-clause-stands g c = λ r events ring h may.
    let may2 = subst (λ (e : Event). MayHappen r (world r events) (event_of r (world r events) e)) c.in-Deliver.is may in
    let p = who c.in-Deliver.from in
    let q = who c.in-Deliver.to in
    subst (λ (e : Event). WorldStands g.N.Node.stands r c.deliver.new.self (event_of r (world r events) e ∷ events)) (sym c.in-Deliver.is)
    (record {
      is = subst (λ k. IsWorld g.N.Node.stands r c.deliver.new.self (came r (world r events) (slice_get (between p q (world r events).sent) k)) (deliveries r events ++ delivery (world r events).sent (at_place p q k)))
          (sym (place_less (world r events).sent c.in-Deliver.place c.if-place-eq0.false)) (c.in_ok-there-in-Deliver.ensures.ok r (world r events) (deliveries r events) ring h.is may2.0 may2.1);
      legal = (may2, h.legal);
    })

pub returns-in_err-there-in-Deliver-clause-names : goal.returns-in_err-there-in-Deliver-clause-names
returns-in_err-there-in-Deliver-clause-names g c = λ r events ring h may.
    let hash = g.H.Hash160.naming in
    let failure = c.from_residual-in_err-there-in-Deliver in
    let p = err_from_is_err_and failure.result failure.ensures.1 in
    let may2 = subst (λ (e : Event). MayHappen r (world r events) (event_of r (world r events) e)) c.in-Deliver.is may in
    let link = between (who c.in-Deliver.from) (who c.in-Deliver.to) (world r events).sent in
    let failed = c.in_err-there-in-Deliver.ensures.names r (world r events) (deliveries r events) ring h.is may2.0 may2.1 in
    subst (λ (e : Event). Names hash (strings_of r (world r events) e) c.args.book.now.held c.deliver.new.book.held failure.result) (sym c.in-Deliver.is)
    (subst (λ k. Names hash (named_of r (world r events) (slice_get link k)) c.args.book.now.held c.deliver.new.book.held failure.result)
    (sym (place_less (world r events).sent c.in-Deliver.place c.if-place-eq0.false))
    (names_err hash (named_of r (world r events) (slice_get link (c.in-Deliver.place - 1))) c.args.book.now.held c.deliver.new.book.held failure.result p.0 c.in_err-there-in-Deliver.field-0.0 p.1 p.2 failed.0 failed.1))

pub returns-in_ok-there-in-Deliver-clause-names : goal.returns-in_ok-there-in-Deliver-clause-names
returns-in_ok-there-in-Deliver-clause-names g c = λ r events ring h may.
    let may2 = subst (λ (e : Event). MayHappen r (world r events) (event_of r (world r events) e)) c.in-Deliver.is may in
    subst (λ (e : Event). Names {X = ℕ} g.H.Hash160.naming (strings_of r (world r events) e) c.args.book.now.held c.deliver.new.book.held (Ok 0)) (sym c.in-Deliver.is)
    (subst (λ k. Names {X = ℕ} g.H.Hash160.naming (named_of r (world r events) (slice_get (between (who c.in-Deliver.from) (who c.in-Deliver.to) (world r events).sent) k)) c.args.book.now.held c.deliver.new.book.held (Ok 0))
    (sym (place_less (world r events).sent c.in-Deliver.place c.if-place-eq0.false)) (c.in_ok-there-in-Deliver.ensures.names r (world r events) (deliveries r events) ring h.is may2.0 may2.1))

pub returns-in_ok-forge-in-Forge-clause-known : goal.returns-in_ok-forge-in-Forge-clause-known
returns-in_ok-forge-in-Forge-clause-known g c = c.in_ok-forge-in-Forge.ensures.known g.H.Hash160.naming c.args.book.now.held c.requires.known

pub returns-in_ok-forge-in-Forge-clause-stands : goal.returns-in_ok-forge-in-Forge-clause-stands
returns-in_ok-forge-in-Forge-clause-stands g c = λ r events ring h may.
    let may2 = subst (λ (e : Event). MayHappen r (world r events) (event_of r (world r events) e)) c.in-Forge.is may in
    subst (λ (e : Event). WorldStands g.N.Node.stands r c.forge.new.self (event_of r (world r events) e ∷ events)) (sym c.in-Forge.is)
    (record {
      is = subst (IsWorld g.N.Node.stands r c.forge.new.self _) (sym (append-nil (deliveries r events))) (c.in_ok-forge-in-Forge.ensures.ok g.H.Hash160.naming r (world r events) (deliveries r events) ring h.is);
      legal = (may2, h.legal);
    })
