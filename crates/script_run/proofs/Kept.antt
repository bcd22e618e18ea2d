-- The strings of all versions that the committed list makes are held.
use Rattle.std.proofs.Common.{◌≡◌, ◌<◌, ◌^◌, ℕ, Bool, true, false, cond, List, [], ◌∷◌, All, Contains, get_or, inl, inr, refl, sym, ◌∙◌, ap, subst, arith}
use Rattle.std.specs.Str.{bytes_eq}
use Rattle.std.proofs.lemmas.List.Elements.{All-contains, Contains-append_left, Contains-append_cases, Contains-push}
use Rattle.std.proofs.lemmas.Slice.Eq.{bytes_eq-Decides}
use Rattle.block_names.specs.Held.{Held}
use Rattle.block_names.specs.Growth.{Holds}
use Rattle.cow_tree.specs.Versions.{IsTreeIn}
use Rattle.cow_tree.specs.Views.{TreeView}
use Rattle.cow_tree.proofs.Standing.{strings_stood_for}
use Rattle.guarded_update.specs.declared.request.Request.{Request}
use Rattle.object_model.specs.Folds.{Made, Effect, Makes, Refuses, Repeats, effect, with_effect, made_by, versions_of, versions_after}
use Rattle.object_model.specs.Trees.{version_strings}
use Rattle.object_fold.specs.Executed.{AreAfter, AreKnown}
use Rattle.object_fold.specs.Shelves.{trees_in, trees_of, tree_of}
use Rattle.object_fold.specs.Views.{ObjectsView}
use Rattle.object_model.proofs.VersionLemmas.{one_more}
use Rattle.fold_model.specs.Folds.{requests_of}
use Rattle.fold_model.specs.Rings.{FoldsAs}
use Rattle.fold_model.specs.Laws.{OneBlock}
use Rattle.pond_node.specs.declared.node.Node.{Node}
use Rattle.pond_node.specs.Standing as node
use Rattle.pond_node.specs.Standing.{NodeStands}
use Rattle.pond_world.specs.Sites.{SiteView}
use Rattle.ring_model.specs.Messages.{Member}
use Rattle.ring_model.specs.Member.{executed}
use Rattle.ring_model.specs.World.{chosen}
use Rattle.ring_model.specs.Laws.{IsCorrect}
use Rattle.ring_world.specs.Worlds.{WorldStands, IsKnown}
use Rattle.script_terms.specs.declared.script.Script.{Script}
use Rattle.script_requests.specs.Holding.{HoldsAll}
use Rattle.script_requests.proofs.Holds.{contains_none}
use Rattle.text_model.specs.Events.{ring_for, events_of, world_of}
use Rattle.text_model.specs.Named.{effect_strings, made_strings, executed_strings, committed_strings}
use Rattle.text_model.specs.Requests.{Numbered}

-- a book holds the strings of all trees of these versions
abbrev AreTreesIn : (List ℕ → List ℕ) → Held → ℕ → List Request → Type 0
AreTreesIn h held block requests = (label : List ℕ) (tree : TreeView) → Contains (trees_of h block (versions_after h block label requests)) tree → IsTreeIn h held tree

tree_strings : (h : List ℕ → List ℕ) (held : Held) (block : ℕ) (content : List ℕ) (older : List (List ℕ)) → IsTreeIn h held (tree_of h block content older) → All (Holds h held) (version_strings h block content older)
tree_strings h held block content older is =
    subst (All (Holds h held)) (sym (strings_stood_for h is.block (tree_of h block content older) is.bytes is.older is.stands) ∙ strings_stood_for h block (tree_of h block content older) content older refl) is.known

-- the trees of versions are among those of more
among_more : (h : List ℕ → List ℕ) (block : ℕ) (label own : List ℕ) (e : Effect) (made : List Made) (tree : TreeView) → Contains (trees_of h block (versions_of label made)) tree
    → Contains (trees_of h block (versions_of label (with_effect own e made))) tree
among_more h block label own (Refuses refusal) made tree c = c
among_more h block label own Repeats made tree c = c
among_more h block label own (Makes content) made tree c = subst (λ vs. Contains (trees_of h block vs) tree) (sym (one_more label own content made)) (by (bytes_eq own label))
  where
    by : (b : Bool) → Contains (trees_of h block (cond b (content ∷ versions_of label made) (versions_of label made))) tree
    by true = Contains-append_left (trees_of h block (versions_of label made)) (tree_of h block content (versions_of label made) ∷ []) tree c
    by false = c

-- the strings of the version that a request makes
made_held : (h : List ℕ → List ℕ) (held : Held) (block : ℕ) (request : Request) (earlier : List Request) → AreTreesIn h held block (request ∷ earlier) → HoldsAll h held (made_strings h block request earlier)
made_held h held block request earlier are = by (effect h block request earlier (made_by h block earlier)) refl
  where
    made : List Made
    made = made_by h block earlier

    label : List ℕ
    label = request.label

    by : (e : Effect) → effect h block request earlier made ≡ e → HoldsAll h held (effect_strings h block (versions_of label made) e)
    by (Refuses refusal) e s c = absurd (contains_none s c)
    by Repeats e s c = absurd (contains_none s c)
    by (Makes content) e s c =
        let own : bytes_eq label label ≡ true = (bytes_eq-Decides label label).1 refl in
        let versions : versions_after h block label (request ∷ earlier) ≡ content ∷ versions_of label made =
        ap (λ x. versions_of label (with_effect label x made)) e ∙ one_more label label content made ∙ ap (λ b. cond b (content ∷ versions_of label made) (versions_of label made)) own in
        let tree = tree_of h block content (versions_of label made) in
        let here : Contains (trees_of h block (versions_after h block label (request ∷ earlier))) tree =
        subst (λ vs. Contains (trees_of h block vs) tree) (sym versions) (Contains-push (trees_of h block (versions_of label made)) tree) in
        All-contains (Holds h held) (version_strings h block content (versions_of label made)) s (tree_strings h held block content (versions_of label made) (are label tree here)) c

all_held : (h : List ℕ → List ℕ) (held : Held) (block : ℕ) (requests : List Request) → AreTreesIn h held block requests → HoldsAll h held (executed_strings h block requests)
all_held h held block [] are s c = absurd (contains_none s c)
all_held h held block (request ∷ earlier) are s c =
    elim (Contains-append_cases (executed_strings h block earlier) (made_strings h block request earlier) s c) as (λ _. Holds h held s) [
      | inl before ↦
          all_held h held block earlier
          (λ label tree d. are label tree (among_more h block label request.label (effect h block request earlier (made_by h block earlier)) (made_by h block earlier) tree d)) s before
      | inr now ↦ made_held h held block request earlier are s now
    ]

-- what a known member's objects are made of
objects_held : (h : List ℕ → List ℕ) (held : Held) (block : ℕ) (requests : List Request) (objects : ObjectsView) → AreAfter h block requests objects → AreKnown h held objects → HoldsAll h held (executed_strings h block requests)
objects_held h held block requests objects after known =
    all_held h held block requests
    (λ label tree c. All-contains (IsTreeIn h held) (trees_in objects.trees label) tree (known.known label) (subst (λ ts. Contains ts tree) (sym (after.trees label)) c))

-- what the committed list makes, where a correct member has executed it
pub committed_held : (h : List ℕ → List ℕ) (script : Script) (held : Held) (lines : List Numbered) (i archived : ℕ) (one_node : Node) → OneBlock → script.setup.block < 2 ^ 32 → FoldsAs h script.setup.block (ring_for h script)
    → node.IsKnown h held one_node → NodeStands one_node (ring_for h script) i ((world_of h script lines).got (Member i)) archived
    → executed (ring_for h script) ((world_of h script lines).got (Member i)) ≡ chosen (ring_for h script) (world_of h script lines) → HoldsAll h held (committed_strings h script lines)
committed_held h script held lines i archived one_node one low folds knows stood is =
    let g = ring_for h script in
    let same : one_node.block ≡ script.setup.block = one h g one_node.block script.setup.block (omega (arith, one_node.short_block)) low stood.done.folds folds in
    let after : AreAfter h one_node.block (requests_of (executed g ((world_of h script lines).got (Member i)))) one_node.objects = stood.done.done_is.after in
    objects_held h held script.setup.block (requests_of (chosen g (world_of h script lines))) one_node.objects
    (subst (λ strings. AreAfter h script.setup.block (requests_of strings) one_node.objects) is (subst (λ b. AreAfter h b (requests_of (executed g ((world_of h script lines).got (Member i)))) one_node.objects) same after)) knows.objects_known
