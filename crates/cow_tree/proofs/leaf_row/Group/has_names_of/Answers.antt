use Rattle.std.proofs.Common.{◌≡◌, sym, ◌∙◌, ap}
use Rattle.std.proofs.lemmas.Slice.Eq.{bytes_eq-Decides}
use Rattle.cow_tree.specs.Rows.{names_in}
use Rattle.cow_tree.proofs.Differing.{same_names}
use Rattle.cow_tree.proofs.leaf_row.Group.has_names_of.Goals as goal

pub returns : goal.returns
returns c = λ t.
    let same : c.as_slice.result.now ≡ c.as_slice-2.result.now = (bytes_eq-Decides c.as_slice.result.now c.as_slice-2.result.now).0 (sym c.eq.ensures ∙ t) in
    ap names_in (sym c.self.view_is)
    ∙ same_names (names_in c.self.inside.leaves) (names_in c.other.inside.leaves) c.self.invariant.1 c.other.invariant.1
    (sym c.self.invariant.0 ∙ sym c.as_slice.ensures ∙ same ∙ c.as_slice-2.ensures ∙ c.other.invariant.0)
    ∙ ap names_in c.other.view_is
