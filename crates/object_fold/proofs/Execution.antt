-- What the execution of one request comes to, at each of its ends.
use Rattle.std.proofs.Common.{◌≡◌, ◌+◌, ◌<◌, ◌≤◌, ◌^◌, ℕ, true, false, List, [], ◌∷◌, length, drop, All, Err, slice_index_or, suc, ap, sym, ◌∙◌, subst, arith}
use Rattle.std.specs.Prelude.{IsOk, Contains}
use Rattle.block_names.specs.Held.{Held}
use Rattle.block_names.specs.Growth.{Grew}
use Rattle.guarded_update.specs.declared.request.Request.{Request}
use Rattle.guarded_update.specs.declared.update.Action.{Action}
use Rattle.guarded_update.specs.declared.update.Clause.{Clause}
use Rattle.object_model.specs.Trees.{version_strings}
use Rattle.object_model.specs.Updates.{Refusal, newest, outcome, act_all}
use Rattle.object_model.specs.Folds.{Makes, Refuses, made_by, versions_after}
use Rattle.ring_message.specs.declared.outcome.Outcome.TheVariants as told
use Rattle.cow_tree.specs.Views.{NodeView, TreeView}
use Rattle.cow_tree.specs.Changed.{changed_nodes}
use Rattle.cow_tree.specs.Namings.{most_namings}
use Rattle.cow_tree.specs.Versions.{StandsFor, ForNext, IsTreeIn, content_of}
use Rattle.cow_tree.proofs.Standing.{stays, stood_for}
use Rattle.object_fold.specs.Views.{ShelfView, ObjectsView}
use Rattle.object_fold.specs.Shelves.{trees_in, trees_of, later_at, last_tree, newest_in}
use Rattle.object_fold.specs.Executed.{is_seen, AreAfter, AreKnown, SeesOneMore, KeepsTree, most_for_effect, most_named}
use Rattle.object_model.specs.Outcomes.{effect_after, outcome_of, outcome_after, strings_of_effect, strings_named}
use Rattle.std.proofs.lemmas.List.Elements.{recursion_from_All}
use Rattle.object_fold.proofs.HeldStrings.{all_held, held_strings}
use Rattle.object_fold.proofs.NewStrings.{AreNew, are_new}
use Rattle.object_model.proofs.VersionLemmas.{split}
use Rattle.object_fold.proofs.ExecutedLemmas.{newest_for, few_made, effect_first, after_repeat, after_refusal, after_made, more_known, for_made}

-- what holds of each tree holds of the last
last_one : (P : TreeView → Type 0) (first : TreeView) (trees : List TreeView) → P first → ((k : ℕ) (d : TreeView) → k < length trees → P (slice_index_or trees k d)) → P (last_tree first trees)
last_one P first [] one all = one
last_one P first (tree ∷ trees) one all = last_one P tree trees (all 0 first (omega arith)) (λ k d l. all (suc k) d (omega arith))

module _ (h : List ℕ → List ℕ) (old inside : ObjectsView) (view : inside ≡ old) (request : Request) where
  -- a request that was executed before changes nothing
  pub again_after : true ≡ is_seen inside.seen request → (block : ℕ) (earlier : List Request) → AreAfter h block earlier old → AreAfter h block (request ∷ earlier) old
  again_after seen block earlier after = after_repeat h block request earlier old after (ap (λ (o : ObjectsView). is_seen o.seen request) (sym view) ∙ sym seen)

  module _ (clauses : List Clause) (same : clauses ≡ request.update.clauses) (one two : TreeView) (is_one : one ≡ newest_in inside.trees request.label) (is_two : two ≡ newest_in inside.trees request.label)
      (seen : false ≡ is_seen inside.seen request) where
    is_new : is_seen old.seen request ≡ false
    is_new = ap (λ (o : ObjectsView). is_seen o.seen request) (sym view) ∙ sym seen

    old_one : one ≡ newest_in old.trees request.label
    old_one = is_one ∙ ap (λ (o : ObjectsView). newest_in o.trees request.label) view

    old_two : two ≡ newest_in old.trees request.label
    old_two = is_two ∙ ap (λ (o : ObjectsView). newest_in o.trees request.label) view

    -- ---- a refusal

    module _ (refusal : Refusal) (decides : (block : ℕ) (content : List ℕ) (older : List (List ℕ)) → StandsFor h block one content older → outcome h block clauses (content ∷ older) ≡ Err refusal) where
      refused : (block : ℕ) (earlier : List Request) → AreAfter h block earlier old → outcome h block request.update.clauses (versions_after h block request.label earlier) ≡ Err refusal
      refused block earlier after =
          ap (outcome h block request.update.clauses) (split request.label (made_by h block earlier))
          ∙ ap (λ c. outcome h block c (newest (versions_after h block request.label earlier) ∷ drop 1 (versions_after h block request.label earlier))) (sym same)
          ∙ decides block (newest (versions_after h block request.label earlier)) (drop 1 (versions_after h block request.label earlier)) (old_one ∙ newest_for h block earlier old after request.label)

      pub refused_effect : (block : ℕ) (earlier : List Request) → AreAfter h block earlier old → effect_after h block request earlier ≡ Refuses refusal
      refused_effect block earlier after = effect_first h block request earlier old after is_new (Err refusal) (refused block earlier after)

      pub refused_after : (new : ObjectsView) → new.trees ≡ inside.trees → new.added ≡ inside.added → new.made ≡ inside.made → SeesOneMore inside.seen new.seen request.client request.number
          → (block : ℕ) (earlier : List Request) → AreAfter h block earlier old → AreAfter h block (request ∷ earlier) new
      refused_after new trees added made more block earlier after =
          after_refusal h block request earlier old after new refusal is_new (refused block earlier after)
          (trees ∙ ap (λ (o : ObjectsView). o.trees) view) (added ∙ ap (λ (o : ObjectsView). o.added) view) (made ∙ ap (λ (o : ObjectsView). o.made) view) (subst (λ (o : ObjectsView). SeesOneMore o.seen new.seen request.client request.number) view more)

      pub refused_known : (held : Held) (new : ObjectsView) → new.trees ≡ inside.trees → new.added ≡ inside.added → new.made ≡ inside.made → SeesOneMore inside.seen new.seen request.client request.number → AreKnown h held old → AreKnown h held new
      refused_known held new trees added made more known = record {
        block = known.block;
        requests = request ∷ known.requests;
        after = refused_after new trees added made more known.block known.requests known.after;
        known = λ label. subst (λ (s : ShelfView). All (IsTreeIn h held) (trees_in s label)) (sym (trees ∙ ap (λ (o : ObjectsView). o.trees) view)) (known.known label);
      }

    -- ---- a version

    module _ (held : Held) (known : AreKnown h held old) where
      pub tree_known : IsTreeIn h held two
      tree_known =
          let all = known.known request.label in
          subst (IsTreeIn h held) (sym old_two) (last_one (IsTreeIn h held) old.trees.first (later_at old.trees.later request.label) (all 0 old.trees.first (omega arith)) (λ k d l. all (suc k) d (omega arith)))

      pub has_room : length old.made + 1 < 2 ^ 32 → two.root.version.0 + 1 < 2 ^ 32
      has_room room =
          let number : two.root.version.0 ≡ (newest_in old.trees request.label).root.version.0 = ap (λ (t : TreeView). t.root.version.0) old_two in
          omega (arith, few_made h known.block known.requests old known.after request.label)

    module _ (actions : List Action)
        (decides : (block : ℕ) (content : List ℕ) (older : List (List ℕ)) → StandsFor h block one content older
        → (outcome h block clauses (content ∷ older) ≡ act_all actions content) × IsOk (act_all actions content)) where
      pub edits_known : (held : Held) → AreKnown h held old → IsOk (act_all actions (content_of two))
      edits_known held known =
          let is = tree_known held known in
          let stands = newest_for h known.block known.requests old known.after request.label in
          let bytes = newest (versions_after h known.block request.label known.requests) in
          let older = drop 1 (versions_after h known.block request.label known.requests) in
          let least : 64 ≤ two.root.block = omega (arith, is.least, ap (λ (t : TreeView). t.root.block) is.stands) in
          subst (λ b. IsOk (act_all actions b)) (sym (stood_for h known.block two bytes older least (old_two ∙ stands))) (decides known.block bytes older (old_one ∙ stands)).1

      -- what holds of the tree's next version holds of the one that the request makes
      pub next_made : (P : ℕ → List ℕ → List (List ℕ) → Type 0) → ForNext h two actions P → (block : ℕ) (earlier : List Request) → AreAfter h block earlier old
          → (content : List ℕ) × (effect_after h block request earlier ≡ Makes content) × P block content (versions_after h block request.label earlier)
      next_made P next block earlier after =
          for_made h block request earlier old after actions is_new
          (λ content older stands.
          let d = decides block content older (old_one ∙ stands) in
          (ap (λ c. outcome h block c (content ∷ older)) (sym same) ∙ d.0, d.1))
          P (subst (λ t. ForNext h t actions P) old_two next)

      -- a fact of the strings that it names
      pub next_strings : (Q : List (List ℕ) → Type 0) → ForNext h two actions (λ block content older. Q (version_strings h block content older)) → (block : ℕ) (earlier : List Request) → AreAfter h block earlier old
          → Q (strings_named h block request earlier)
      next_strings Q next block earlier after =
          let m = next_made (λ block content older. Q (version_strings h block content older)) next block earlier after in
          subst (λ e. Q (strings_of_effect h block e (versions_after h block request.label earlier))) (sym m.1) m.2

      -- how many names a book answers for it
      pub next_counted : (before now : ℕ) → ForNext h two actions (λ block content older. now ≤ before + most_namings block (newest older) content) → (block : ℕ) (earlier : List Request) → AreAfter h block earlier old
          → now ≤ before + most_named h block request earlier
      next_counted before now next block earlier after =
          let m = next_made (λ block content older. now ≤ before + most_namings block (newest older) content) next block earlier after in
          subst (λ e. now ≤ before + most_for_effect block e (versions_after h block request.label earlier)) (sym m.1) m.2

      module _ (tree : TreeView) (stands : ForNext h two actions (λ block content older. StandsFor h block tree content older)) where
        pub made_outcome : (block : ℕ) (earlier : List Request) → AreAfter h block earlier old → told.Made tree.root.version tree.name ≡ outcome_after h block request earlier
        made_outcome block earlier after =
            let m = next_made (λ block content older. StandsFor h block tree content older) stands block earlier after in
            ap (λ (t : TreeView). told.Made t.root.version t.name) m.2 ∙ sym (ap (λ e. outcome_of h block e (versions_after h block request.label earlier)) m.1)

        module _ (held now : Held) (new : ObjectsView) (changed : List NodeView) (known : AreKnown h held old) (keeps : KeepsTree old new request tree changed) (changes : changed ≡ changed_nodes tree two)
            (made : IsTreeIn h now tree) (grew : ForNext h two actions (λ block content older. Grew h held (Contains (version_strings h block content older)) now)) where
          -- all trees are held still
          all_still : (label : List ℕ) → All (IsTreeIn h now) (trees_in old.trees label)
          all_still label k d l =
              stays h held now (slice_index_or (trees_in old.trees label) k d) (next_strings (λ strings. Grew h held (Contains strings) now) grew known.block known.requests known.after).kept (known.known label k d l)

          pub made_after : (block : ℕ) (earlier : List Request) → AreAfter h block earlier old → AreAfter h block (request ∷ earlier) new
          made_after block earlier after =
              let m = next_made (λ block content older. StandsFor h block tree content older) stands block earlier after in
              let versions : List (List ℕ) = versions_after h block request.label earlier in
              let all = all_held h now block versions (recursion_from_All (IsTreeIn h now) (trees_of h block versions) (subst (All (IsTreeIn h now)) (after.trees request.label) (all_still request.label))) in
              let before = newest_for h block earlier old after request.label in
              let news : AreNew h block (changed_nodes tree (newest_in old.trees request.label)) m.0 versions =
              are_new h now block tree (newest_in old.trees request.label) m.0 versions (split request.label (made_by h block earlier)) m.2 before all (held_strings h now block m.0 versions (subst (IsTreeIn h now) m.2 made)) in
              after_made h block request earlier old after new m.0 tree changed m.1 m.2 keeps
              (subst (λ ns. AreNew h block ns m.0 versions) (sym (changes ∙ ap (changed_nodes tree) old_two)) news)

          pub made_known : AreKnown h now new
          made_known = record {
            block = known.block;
            requests = request ∷ known.requests;
            after = made_after known.block known.requests known.after;
            known = more_known h now old.trees new.trees request.label tree keeps.trees all_still made;
          }
