use Rattle.std.proofs.Common.{[], length, sym, ap, ◌∙◌, arith}
use Rattle.std.proofs.lemmas.List.{append-nil}
use Rattle.guarded_update.specs.declared.request.Request.{Request}
use Rattle.guarded_update.specs.Fitting.{request_fits}
use Rattle.guarded_update.specs.Spelling.{kind_of, request_fields}
use Rattle.guarded_update.proofs.reading.read.Goals as goal

pub returns-then-left-ne0-clause-spelled : goal.returns-then-left-ne0-clause-spelled
returns-then-left-ne0-clause-spelled c = λ request is e.
    let one = c.in_ok-kind.ensures.spelled (kind_of request.update.clauses) (request_fields request) (c.new-fields.ensures ∙ e) in
    let two = c.in_ok-request.ensures.spelled request [] is.places (one.1 ∙ sym (append-nil (request_fields request))) in
    absurd (omega (arith, ap length two.1, c.left.ensures, c.if-left-ne0.true))

pub returns-then-kind-kind_of-clause-spelled : goal.returns-then-kind-kind_of-clause-spelled
returns-then-kind-kind_of-clause-spelled c = λ request is e.
    let one = c.in_ok-kind.ensures.spelled (kind_of request.update.clauses) (request_fields request) (c.new-fields.ensures ∙ e) in
    let two = c.in_ok-request.ensures.spelled request [] is.places (one.1 ∙ sym (append-nil (request_fields request))) in
    c.if-kind-kind_of.true (one.0 ∙ sym (c.kind_of.ensures ∙ ap (λ (r : Request). kind_of r.update.clauses) two.0))

pub returns-then-not-fits-clause-spelled : goal.returns-then-not-fits-clause-spelled
returns-then-not-fits-clause-spelled c = λ request is e.
    let one = c.in_ok-kind.ensures.spelled (kind_of request.update.clauses) (request_fields request) (c.new-fields.ensures ∙ e) in
    let two = c.in_ok-request.ensures.spelled request [] is.places (one.1 ∙ sym (append-nil (request_fields request))) in
    let yes = c.fits.ensures ∙ ap request_fits two.0 ∙ is.fits in absurd (cc)

pub returns-clause-spelled : goal.returns-clause-spelled
returns-clause-spelled c = λ request is e.
    let one = c.in_ok-kind.ensures.spelled (kind_of request.update.clauses) (request_fields request) (c.new-fields.ensures ∙ e) in
    let two = c.in_ok-request.ensures.spelled request [] is.places (one.1 ∙ sym (append-nil (request_fields request))) in
    two.0
