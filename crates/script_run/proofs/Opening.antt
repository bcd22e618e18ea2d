-- What is named before the first line.
use Rattle.std.proofs.Common.{◌≡◌, ◌<◌, ◌^◌, ℕ, List, [], ◌∷◌, ◌++◌, get_or, Contains, Result, Ok, Err, IfOk, refl, sym, ◌∙◌, subst, arith}
use Rattle.std.proofs.Math.Path.{fun_ext}
use Rattle.std.specs.FinMap as finite
use Rattle.std.specs.List.{flat_map}
use Rattle.std.proofs.lemmas.List.Elements.{All-contains, Contains-append_left, Contains-append_right}
use Rattle.block_names.specs.Held.{Held}
use Rattle.block_names.specs.Growth.{Holds, Grew}
use Rattle.block_names.specs.declared.fault.NameFault.{NameFault}
use Rattle.object_model.specs.Trees.{version_strings}
use Rattle.ring_model.specs.Member.{committed, executed}
use Rattle.ring_model.specs.Laws.{IsCorrect}
use Rattle.ring_model.proofs.Lists.{run_none}
use Rattle.object_fold.specs.Executed.{AreAfter}
use Rattle.object_fold.proofs.Kept.{first_held}
use Rattle.fold_model.specs.Folds.{requests_of}
use Rattle.fold_model.specs.Rings.{FoldsAs}
use Rattle.fold_model.specs.Laws.{OneBlock}
use Rattle.pond_node.specs.declared.node.Node.{Node}
use Rattle.pond_node.specs.Standing as node
use Rattle.pond_node.specs.Standing.{NodeStands}
use Rattle.pond_world.specs.Sites.{SiteView, IsClashAfter}
use Rattle.ring_mail.specs.Skips.{Skips}
use Rattle.ring_world.specs.Skipping.{PassNothing}
use Rattle.ring_world.specs.Worlds.{WorldStands, IsKnown}
use Rattle.script_requests.specs.Holding.{HoldsAll, HoldsJust, IsClashOf}
use Rattle.script_requests.proofs.Holds.{contains_first, all_named}
use Rattle.script_terms.specs.declared.script.Script.{Script}
use Rattle.text_model.specs.Events.{ring_for}
use Rattle.text_model.specs.Named.{label_strings}
use Rattle.script_run.specs.States.{StandsFor}
use Rattle.script_run.proofs.Widening.{holds_wider, clash_among}

-- ---- a string more

one_among : (strings : List (List ℕ)) (bytes string : List ℕ) → bytes ≡ string → (s : List ℕ) → s ≡ bytes → Contains (strings ++ string ∷ []) s
one_among strings bytes string same s e = Contains-append_right strings (string ∷ []) s (subst (Contains (string ∷ [])) (sym (e ∙ same)) (contains_first string []))

-- it is held
pub one_held : (h : List ℕ → List ℕ) (held now : Held) (bytes string : List ℕ) → bytes ≡ string → now ≡ finite.insert held (h bytes) bytes → Grew h held (λ s. s ≡ bytes) now
    → (strings : List (List ℕ)) → HoldsJust h held strings → HoldsJust h now (strings ++ string ∷ [])
one_held h held now bytes string same is grew strings just =
    holds_wider h held now strings (string ∷ []) (λ s. s ≡ bytes) just grew (one_among strings bytes string same) (all_named h held now bytes string same is)

-- a clash of it is one among all
pub one_clash : (h : List ℕ → List ℕ) (held : Held) (bytes string : List ℕ) (fault : NameFault) → bytes ≡ string → IsClashAfter h held (λ s. s ≡ bytes) fault → (strings : List (List ℕ)) → HoldsJust h held strings
    → IsClashOf h (strings ++ string ∷ []) fault
one_clash h held bytes string fault same after strings just =
    clash_among h held strings (strings ++ string ∷ []) (λ s. s ≡ bytes) fault just (λ s c. Contains-append_left strings (string ∷ []) s c) (one_among strings bytes string same) after

-- what follows from two facts of a success
pub ok_by_both : {X Y : Type 0} (r : Result X Y) (P Q R : X → Type 0) → ((x : X) → P x → Q x → R x) → IfOk r P → IfOk r Q → IfOk r R
ok_by_both (Ok x) P Q R from p q = from x p q
ok_by_both (Err y) P Q R from p q = p

-- ---- the empty version

-- its strings are held before the first line, since each correct member has made them
pub empty_held : (h : List ℕ → List ℕ) (script : Script) (held : Held) (i archived : ℕ) (one_node : Node) → OneBlock → script.setup.block < 2 ^ 32 → FoldsAs h script.setup.block (ring_for h script)
    → node.IsKnown h held one_node → NodeStands one_node (ring_for h script) i [] archived → HoldsAll h held (version_strings h script.setup.block [] [])
empty_held h script held i archived one_node one low folds knows stood s c =
    let g = ring_for h script in
    let block = script.setup.block in
    let same : one_node.block ≡ block = one h g one_node.block block (omega (arith, one_node.short_block)) low stood.done.folds folds in
    let after : AreAfter h one_node.block (requests_of (executed g [])) one_node.objects = stood.done.done_is.after in
    let none : executed g [] ≡ [] = run_none (committed g []) g.slots 1 refl in
    let first : AreAfter h block [] one_node.objects =
    subst (λ strings. AreAfter h block (requests_of strings) one_node.objects) none (subst (λ b. AreAfter h b (requests_of (executed g [])) one_node.objects) same after) in
    All-contains (Holds h held) (version_strings h block [] []) s (first_held h held block one_node.objects first knows.objects_known) c

-- the state before the first line
pub stands_first : (h : List ℕ → List ℕ) (script : Script) (first now : SiteView) (skips : Skips) → WorldStands NodeStands (ring_for h script) first.world []
    → HoldsJust h first.held (version_strings h script.setup.block [] []) → now.world ≡ first.world
    → ((strings : List (List ℕ)) → HoldsJust h first.held strings → HoldsJust h now.held (strings ++ flat_map label_strings script.lines)) → PassNothing skips → StandsFor h script [] now skips
stands_first h script first now skips stands just same labels nothing = record {
  holds = labels (version_strings h script.setup.block [] []) just;
  stands = subst (λ world. WorldStands NodeStands (ring_for h script) world []) (sym same) stands;
  muted_are = fun_ext nothing.0;
  lost_are = fun_ext nothing.1;
  requests = tt;
}
