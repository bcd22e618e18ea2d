use Rattle.std.proofs.Common.{[], ap, ◌∙◌, arith}
use Rattle.object_fold.proofs.ExecutedLemmas.{after_nothing, known_nothing}
use Rattle.object_fold.proofs.objects.Objects.new.Goals as goal

pub returns-clause-after : goal.returns-clause-after
returns-clause-after g c =
    after_nothing g.H.Hash160.naming c.args.block c.in_ok-first.first c.in_ok-strings.strings _ (omega (arith, c.requires.least)) c.in_ok-first.ensures.stands c.in_ok-strings.ensures
    (ap (λ t. record { trees = t; added = c.new-2.result; seen = c.new-3.result; made = c.new-4.result }) c.new.ensures
    ∙ ap (λ a. record { trees = record { first = c.in_ok-first.first; later = [] }; added = a; seen = c.new-3.result; made = c.new-4.result }) c.new-2.ensures
    ∙ ap (λ s. record { trees = record { first = c.in_ok-first.first; later = [] }; added = record { first = c.in_ok-strings.strings; later = [] }; seen = s; made = c.new-4.result }) c.new-3.ensures
    ∙ ap (λ m. record { trees = record { first = c.in_ok-first.first; later = [] }; added = record { first = c.in_ok-strings.strings; later = [] }; seen = []; made = m }) c.new-4.ensures)

pub returns-clause-known : goal.returns-clause-known
returns-clause-known g c =
    known_nothing g.H.Hash160.naming c.first.new.book.held c.args.block c.in_ok-first.first c.in_ok-strings.strings _ (omega (arith, c.requires.least)) c.in_ok-first.ensures.stands c.in_ok-first.ensures.tree c.in_ok-strings.ensures
    (ap (λ t. record { trees = t; added = c.new-2.result; seen = c.new-3.result; made = c.new-4.result }) c.new.ensures
    ∙ ap (λ a. record { trees = record { first = c.in_ok-first.first; later = [] }; added = a; seen = c.new-3.result; made = c.new-4.result }) c.new-2.ensures
    ∙ ap (λ s. record { trees = record { first = c.in_ok-first.first; later = [] }; added = record { first = c.in_ok-strings.strings; later = [] }; seen = s; made = c.new-4.result }) c.new-3.ensures
    ∙ ap (λ m. record { trees = record { first = c.in_ok-first.first; later = [] }; added = record { first = c.in_ok-strings.strings; later = [] }; seen = []; made = m }) c.new-4.ensures)
