use Rattle.std.proofs.Common.{◌≡◌, ℕ, List, [], Option, None, unwrap_or, sym, ◌∙◌, ap, subst, rules}
use Rattle.std.specs.Map.{lookup}
use Rattle.std.specs.BTreeMap.{BTreeMap, is_at}
use Rattle.std.specs.Ordering.{nat_cmp}
use Rattle.std.specs.Cmp.Lexicographic.{slice_cmp}
use Rattle.std.proofs.lemmas.Result.{on_ok_weaker}
use Rattle.object_fold.specs.Views.{AddedView, StringsView}
use Rattle.cow_tree.specs.Views.{NodeView}
use Rattle.cow_tree.specs.Rows.{names_in}
use Rattle.object_fold.specs.Added.{strings_at, AddsUnder}
use Rattle.object_fold.proofs.Adding.{adds_there}
use Rattle.object_fold.proofs.added.Added.add.Goals as goal

pub returns-in-Some : goal.returns-in-Some
returns-in-Some c =
    let new = (c.get_mut.follows.lender c.add.new.self).entries in
    on_ok_weaker c.add.result (λ e.
    subst (λ (old : AddedView). AddsUnder old (record { first = c.self.inside.first; later = new }) c.args.label.now c.args.changed.now) c.self.view_is
    (adds_there (record { first = c.self.inside.first; later = c.self.inside.later.entries }) new c.args.label.now c.args.changed.now c.in-Some.strings.now c.add.new.self
    (λ other. ((c.get_mut.follows.holds c.add.new.self).3 (search rules)).0 other) c.in-Some.ensures.value e)) c.add.ensures

pub add_first-requires : goal.add_first-requires
add_first-requires c =
    let none : None ≡ lookup (is_at (slice_cmp nat_cmp c.args.label.now)) c.self.inside.later.entries = c.in-None.ensures.value in
    ap (λ (m : BTreeMap (List ℕ) StringsView). strings_at (record { first = c.as_slice.result.now; later = m.entries }) c.args.label.now) c.get_mut.follows.holds-at-none
    ∙ sym (ap (λ (o : Option StringsView). unwrap_or o (record { names = names_in c.as_slice.result.now; added = [] })) none)

pub returns-in-None : goal.returns-in-None
returns-in-None c =
    let new = c.add_first.new.later.entries in
    on_ok_weaker c.add_first.result (λ more.
    subst (λ (old : AddedView). AddsUnder old (record { first = c.self.inside.first; later = new }) c.args.label.now c.args.changed.now) c.self.view_is
    (subst (λ (m : BTreeMap (List ℕ) StringsView). AddsUnder (record { first = c.self.inside.first; later = m.entries }) (record { first = c.self.inside.first; later = new }) c.args.label.now c.args.changed.now) c.get_mut.follows.holds-at-none
    (subst (λ (first : List NodeView). AddsUnder (record { first = first; later = c.get_mut.follows.lender-at-none.entries }) (record { first = first; later = new }) c.args.label.now c.args.changed.now) c.as_slice.ensures more))) c.add_first.ensures
