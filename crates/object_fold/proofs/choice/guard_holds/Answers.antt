use Rattle.std.proofs.Common.{◌≡◌, ◌&&◌, ◌*◌, ℕ, List, Bool, true, false, cond, Some, None, length, nat_lt, refl, ap, ◌∙◌}
use Rattle.std.specs.Fork.{slice_chunk}
use Rattle.std.specs.Str.{bytes_eq}
use Rattle.tree_format.specs.Strings.{leaf_string}
use Rattle.object_fold.specs.Choice.{is_this}
use Rattle.object_fold.proofs.choice.guard_holds.Goals as goal

this_where : (there : Bool) (found name : List ℕ) → is_this (cond there (Some found) None) name ≡ (there && bytes_eq found name)
this_where true found name = refl
this_where false found name = refl

pub returns-in-BlockIs : goal.returns-in-BlockIs
returns-in-BlockIs c = λ h block content older stands. rw c.in-BlockIs.is
    (c.is_name.ensures ∙ ap (λ o. is_this o c.in-BlockIs.name) (c.leaf_name.ensures h block content older stands)
    ∙ this_where (nat_lt (c.in-BlockIs.place * block) (length content)) (h (leaf_string (slice_chunk content block c.in-BlockIs.place))) c.in-BlockIs.name)
