use Rattle.std.proofs.Common.{◌≡◌, Result, Ok, Err, IfErr, OnOk, Contains, map, ap, sym, subst, ◌∙◌}
use Rattle.block_names.specs.Growth.{IsClashIn}
use Rattle.block_names.proofs.Grown.{clash_wider}
use Rattle.ring_model.specs.Messages.{Client, Request}
use Rattle.message_model.specs.Meaning.{said}
use Rattle.message_model.specs.Reading.{asked_in}
use Rattle.ring_member.specs.Members.{IsOwn}
use Rattle.ring_member.proofs.Owning.{fields_own, own_owner, own_held, own_grew, own_contains}
use Rattle.ring_member.proofs.Quiets.{idle_stands, idle_told, request_from_other}
use Rattle.ring_member.proofs.member.Member.hear.Goals as goal

err_wider : {X E : Type 0} (r : Result X E) (P Q : E → Type 0) → ((e : E) → P e → Q e) → IfErr r P → IfErr r Q
err_wider (Ok x) P Q f h = h
err_wider (Err e) P Q f h = f e h

pub returns-then-owner-client-clause-stands : goal.returns-then-owner-client-clause-stands
returns-then-owner-client-clause-stands g c = λ g' i got ring party st.
    let r = c.args.request in
    let read = c.asker.ensures c.requires.0 c.requires.1 c.requires.2 in
    let own = fields_own r c.in-Some.owner c.in-Some.number c.requires.0 c.requires.1 c.requires.2 (sym c.in-Some.is ∙ read) in
    idle_stands g' i c.args.self.now got (record { from = Client c.args.client.0; message = Request r }) st
    (request_from_other g' c.args.client.0 r party (λ e. c.if-owner-client.true (sym (own_owner g.H.Hash160.naming g' r c.in-Some.owner c.in-Some.number ring own) ∙ e)))

pub returns-then-owner-client-clause-told : goal.returns-then-owner-client-clause-told
returns-then-owner-client-clause-told g c = λ g' i got ring party st.
    let r = c.args.request in
    let read = c.asker.ensures c.requires.0 c.requires.1 c.requires.2 in
    let own = fields_own r c.in-Some.owner c.in-Some.number c.requires.0 c.requires.1 c.requires.2 (sym c.in-Some.is ∙ read) in
    ap (map said) c.new-then-owner-client.ensures.items
    ∙ sym (idle_told g' i c.args.self.now got (record { from = Client c.args.client.0; message = Request r }) st
    (request_from_other g' c.args.client.0 r party (λ e. c.if-owner-client.true (sym (own_owner g.H.Hash160.naming g' r c.in-Some.owner c.in-Some.number ring own) ∙ e))))

ok_also : {X E : Type 0} (r : Result X E) (P Q : Type 0) → (P → Q) → OnOk r P → OnOk r Q
ok_also (Ok x) P Q f h = f h
ok_also (Err e) P Q f h = tt

pub returns-clause-all : goal.returns-clause-all
returns-clause-all g c =
    let h = g.H.Hash160.naming in
    let r = c.args.request in
    let read = c.asker.ensures c.requires.0 c.requires.1 c.requires.2 in
    let own = fields_own r c.in-Some.owner c.in-Some.number c.requires.0 c.requires.1 c.requires.2 (sym c.in-Some.is ∙ read) in
    ok_also c.hear_own.result _ _ (own_held h r c.args.client.0 c.in-Some.number c.args.book.now.held c.hear_own.new.book.held (subst (λ k. IsOwn r k c.in-Some.number) c.if-owner-client.false own)) c.hear_own.ensures.held

pub returns-clause-grew : goal.returns-clause-grew
returns-clause-grew g c =
    let r = c.args.request in
    let read = c.asker.ensures c.requires.0 c.requires.1 c.requires.2 in
    let own = fields_own r c.in-Some.owner c.in-Some.number c.requires.0 c.requires.1 c.requires.2 (sym c.in-Some.is ∙ read) in
    own_grew g.H.Hash160.naming r c.args.client.0 c.in-Some.number c.args.book.now.held c.hear_own.new.book.held (subst (λ k. IsOwn r k c.in-Some.number) c.if-owner-client.false own) c.hear_own.ensures.grew

pub returns-clause-fault : goal.returns-clause-fault
returns-clause-fault g c =
    let r = c.args.request in
    let read = c.asker.ensures c.requires.0 c.requires.1 c.requires.2 in
    let own = fields_own r c.in-Some.owner c.in-Some.number c.requires.0 c.requires.1 c.requires.2 (sym c.in-Some.is ∙ read) in
    let mine = subst (λ k. IsOwn r k c.in-Some.number) c.if-owner-client.false own in
    err_wider c.hear_own.result (IsClashIn g.H.Hash160.naming c.hear_own.new.book.held (λ s. s ≡ r)) (IsClashIn g.H.Hash160.naming c.hear_own.new.book.held (λ s. Contains (asked_in (Client c.args.client.0) (Request r)) s))
    (λ e. clash_wider g.H.Hash160.naming c.hear_own.new.book.held (λ s. s ≡ r) (λ s. Contains (asked_in (Client c.args.client.0) (Request r)) s) e (own_contains r c.args.client.0 c.in-Some.number mine)) c.hear_own.ensures.fault
