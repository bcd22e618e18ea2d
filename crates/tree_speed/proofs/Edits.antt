-- Edits that fit an object.
use Rattle.std.proofs.Common.{◌≡◌, ◌+◌, ◌≤◌, ℕ, Bool, true, cond, List, [], ◌∷◌, ◌++◌, length, nat_le, Ok, Err, refl, sym, ◌∙◌, ap, subst, arith}
use Rattle.std.specs.Prelude.{IsOk}
use Rattle.std.proofs.lemmas.Bool.Decides.{nat_tests}
use Rattle.block_names.specs.Held.{Held}
use Rattle.guarded_update.specs.declared.update.Action.{Action}
use Rattle.guarded_update.specs.declared.update.Action.TheVariants.{Replace, Append}
use Rattle.object_model.specs.Updates.{act_all, largest, spliced, OutOfRange, TooLong, and_then}
use Rattle.cow_tree.specs.Views.{TreeView}
use Rattle.cow_tree.specs.Versions.{IsTreeIn, content_of}
use Rattle.cow_tree.proofs.Standing.{stood_for}

-- the root of a tree says how many bytes it holds
length_is : (h : List ℕ → List ℕ) (held : Held) (tree : TreeView) → IsTreeIn h held tree → length (content_of tree) ≡ tree.root.length
length_is h held tree is =
    let least : 64 ≤ tree.root.block = omega (arith, is.least, ap (λ (t : TreeView). t.root.block) is.stands) in
    ap length (stood_for h is.block tree is.bytes is.older least is.stands) ∙ sym (ap (λ (t : TreeView). t.root.length) is.stands)

pub replace_fits : (h : List ℕ → List ℕ) (held : Held) (tree : TreeView) (place : ℕ) (content : List ℕ) → IsTreeIn h held tree → place + length content ≤ tree.root.length
    → IsOk (act_all (Replace place content ∷ []) (content_of tree))
replace_fits h held tree place content is within =
    let fits : place + length content ≤ length (content_of tree) = omega (arith, length_is h held tree is, within) in
    let t : nat_le (place + length content) (length (content_of tree)) ≡ true = grind (arith, nat_tests) in
    subst (λ b. IsOk (and_then (cond b (Ok (spliced place (length content) content (content_of tree))) (Err OutOfRange)) (act_all []))) (sym t) refl

pub append_fits : (h : List ℕ → List ℕ) (held : Held) (tree : TreeView) (content : List ℕ) → IsTreeIn h held tree → tree.root.length + length content ≤ largest
    → IsOk (act_all (Append content ∷ []) (content_of tree))
append_fits h held tree content is short =
    let fits : length (content_of tree) + length content ≤ largest = omega (arith, length_is h held tree is, short) in
    let t : nat_le (length (content_of tree) + length content) largest ≡ true = grind (arith, nat_tests) in
    subst (λ b. IsOk (and_then (cond b (Ok (content_of tree ++ content)) (Err TooLong)) (act_all []))) (sym t) refl
