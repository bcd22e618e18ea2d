-- The objects after one more request.
use Rattle.std.proofs.Common.{◌≡◌, ◌≢◌, ◌⊎◌, inl, inr, ◌==◌, ◌&&◌, ap₂, ◌||◌, ℕ, suc, ◌+◌, ◌<◌, ◌≤◌, Bool, true, false, cond, List, [], ◌∷◌, ◌++◌, length, map, filter, drop, All, Result, Ok, Err, refl, ap, sym, ◌∙◌, subst, arith, length-append}
use Rattle.std.proofs.lemmas.Bool.{cases_eq, false≢true, ne_eqb}
use Rattle.pond_base.specs.declared.numbers.ClientId.{ClientId}
use Rattle.std.proofs.lemmas.List.Elements.{All-push}
use Rattle.std.proofs.lemmas.Slice.Eq.{bytes_eq-Decides}
use Rattle.std.specs.List.{list_any}
use Rattle.std.specs.Str.{bytes_eq}
use Rattle.std.specs.Prelude.{IsOk}
use Rattle.block_names.specs.Held.{Held}
use Rattle.guarded_update.specs.declared.request.Request.{Request}
use Rattle.guarded_update.specs.declared.update.Action.{Action}
use Rattle.object_model.specs.Updates.{Refusal, newest, outcome, act_all}
use Rattle.object_model.specs.Folds.{Made, Effect, Makes, Refuses, Repeats, effect_of_outcome, same_number, with_effect, made_by, versions_of, versions_after}
use Rattle.cow_tree.specs.Views.{NodeView, TreeView}
use Rattle.cow_tree.specs.Versions.{StandsFor, ForNext, IsTreeIn}
use Rattle.object_fold.specs.Views.{AddedView, ShelfView, StringsView, ObjectsView}
use Rattle.object_fold.specs.Shelves.{tree_of, trees_of, trees_in, later_at, newest_in, HasOneMore}
use Rattle.object_fold.specs.Executed.{is_seen, in_order, AreAfter, AreKnown, SeesOneMore, KeepsTree}
use Rattle.object_model.specs.Outcomes.{effect_after}
use Rattle.cow_tree.specs.Rows.{names_in}
use Rattle.cow_tree.specs.Changed.{changed_nodes}
use Rattle.object_model.specs.Trees.{strings_so_far}
use Rattle.object_fold.specs.Added.{HasJust, added_by, added_in, added_of, strings_at}
use Rattle.object_model.proofs.VersionLemmas.{split, one_more}
use Rattle.object_fold.proofs.Adding.{just_names}
use Rattle.object_fold.proofs.NewStrings.{AreNew, first_added, names_nodes}
use Rattle.object_fold.proofs.ShelfLemmas.{newest_is}

-- ---- versions

-- there are no more versions of an object than were made, and version 0
pub few_versions : (label : List ℕ) (made : List Made) → length (versions_of label made) ≤ length made + 1
few_versions label [] = omega arith
few_versions label (m ∷ made) =
    let more = few_versions label made in
    let cases : length (versions_of label (m ∷ made)) ≤ length (versions_of label made) + 1 =
    subst (λ (xs : List (List ℕ)). length xs ≤ length (versions_of label made) + 1) (sym (one_more label m.label m.content made))
    (elim (bytes_eq m.label label) as (λ b. length (cond b (m.content ∷ versions_of label made) (versions_of label made)) ≤ length (versions_of label made) + 1) [ true ↦ omega arith | false ↦ omega arith ]) in
    omega arith

-- the list in order of making is as long as what was made
pub length-in_order : (made : List Made) → length (in_order made) ≡ length made
length-in_order [] = refl
length-in_order (m ∷ made) = omega (arith, length-append (in_order made) ((m.label, record { 0 = length (versions_of m.label made) }) ∷ []), length-in_order made)

-- ---- trees

-- the trees under each label, after one more
pub more_trees : (old new : ShelfView) (label : List ℕ) (tree : TreeView) → HasOneMore old new label tree → (other : List ℕ) → trees_in new other ≡ cond (bytes_eq label other) (trees_in old other ++ tree ∷ []) (trees_in old other)
more_trees old new label tree more other =
    ap (λ t. t ∷ later_at new.later other) more.0
    ∙ ap (λ ts. old.first ∷ ts) (more.1 other)
    ∙ elim (bytes_eq label other) as (λ b. old.first ∷ cond b (later_at old.later other ++ tree ∷ []) (later_at old.later other) ≡ cond b (trees_in old other ++ tree ∷ []) (trees_in old other)) [ true ↦ refl | false ↦ refl ]

-- trees that a book holds, with one more
pub more_known : (h : List ℕ → List ℕ) (held : Held) (old new : ShelfView) (label : List ℕ) (tree : TreeView) → HasOneMore old new label tree
    → ((other : List ℕ) → All (IsTreeIn h held) (trees_in old other)) → IsTreeIn h held tree → (other : List ℕ) → All (IsTreeIn h held) (trees_in new other)
more_known h held old new label tree more all one other =
    subst (All (IsTreeIn h held)) (sym (more_trees old new label tree more other))
    (elim (bytes_eq label other) as (λ b. All (IsTreeIn h held) (cond b (trees_in old other ++ tree ∷ []) (trees_in old other))) [
      | true ↦ All-push (IsTreeIn h held) (trees_in old other) tree (all other) one
      | false ↦ all other
    ])

same_label : (a b : List ℕ) → bytes_eq a b ≡ true → a ≡ b
same_label a b e = (bytes_eq-Decides a b).0 e

-- the newest tree of an object stands for its versions
pub newest_for : (h : List ℕ → List ℕ) (block : ℕ) (requests : List Request) (objects : ObjectsView) → AreAfter h block requests objects → (label : List ℕ)
    → StandsFor h block (newest_in objects.trees label) (newest (versions_after h block label requests)) (drop 1 (versions_after h block label requests))
newest_for h block requests objects after label =
    newest_is h block objects.trees label (newest (versions_after h block label requests)) (drop 1 (versions_after h block label requests))
    (after.trees label ∙ ap (trees_of h block) (split label (made_by h block requests)))

-- its number is one less than the number of versions
pub last_number : (h : List ℕ → List ℕ) (block : ℕ) (requests : List Request) (objects : ObjectsView) → AreAfter h block requests objects → (label : List ℕ)
    → length (versions_after h block label requests) ≡ (newest_in objects.trees label).root.version.0 + 1
last_number h block requests objects after label =
    let number = ap (λ (t : TreeView). t.root.version.0) (newest_for h block requests objects after label) in
    let more = ap length (split label (made_by h block requests)) in
    omega (arith, number, more)

-- its number is at most the number of versions that were made
pub few_made : (h : List ℕ → List ℕ) (block : ℕ) (requests : List Request) (objects : ObjectsView) → AreAfter h block requests objects → (label : List ℕ)
    → (newest_in objects.trees label).root.version.0 ≤ length objects.made
few_made h block requests objects after label =
    let count : length objects.made ≡ length (made_by h block requests) = ap length after.made ∙ length-in_order (made_by h block requests) in
    omega (arith, few_versions label (made_by h block requests), last_number h block requests objects after label)

few_more : (label : List ℕ) (e : Effect) (made : List Made) (n : ℕ) → length made ≤ n → length (with_effect label e made) ≤ suc n
few_more label (Makes content) made n few = omega arith
few_more label (Refuses refusal) made n few = omega arith
few_more label Repeats made n few = omega arith

few_of : (h : List ℕ → List ℕ) (block : ℕ) (requests : List Request) → length (made_by h block requests) ≤ length requests
few_of h block [] = omega arith
few_of h block (request ∷ earlier) = few_more request.label (effect_after h block request earlier) (made_by h block earlier) (length earlier) (few_of h block earlier)

-- no more versions are made than requests were executed
pub few_made_by : (h : List ℕ → List ℕ) (block : ℕ) (requests : List Request) (objects : ObjectsView) → AreAfter h block requests objects → length objects.made ≤ length requests
few_made_by h block requests objects after = omega (arith, ap length after.made, length-in_order (made_by h block requests), few_of h block requests)

-- the objects before any request
pub after_nothing : (h : List ℕ → List ℕ) (block : ℕ) (first : TreeView) (strings : List NodeView) (objects : ObjectsView) → 0 < block → StandsFor h block first [] [] → strings ≡ changed_nodes first first
    → objects ≡ record { trees = record { first = first; later = [] }; added = record { first = strings; later = [] }; seen = []; made = [] } → AreAfter h block [] objects
after_nothing h block first strings objects some stands changes is = record {
  trees = λ label. ap (λ (o : ObjectsView). trees_in o.trees label) is ∙ ap (λ t. t ∷ []) stands;
  added = λ label. ap (λ (o : ObjectsView). added_in o.added label) is ∙ ap (λ ns. ns ∷ []) (changes ∙ (first_added h block first some stands).0);
  names = λ label.
      let names : names_in strings ≡ map h (strings_so_far h block ([] ∷ [])) = ap names_in (changes ∙ (first_added h block first some stands).1) ∙ names_nodes h (strings_so_far h block ([] ∷ [])) in
      subst (λ (o : ObjectsView). HasJust (strings_at o.added label).names (map h (strings_so_far h block ([] ∷ [])))) (sym is) (subst (HasJust (names_in strings)) names (just_names (names_in strings)));
  seen = λ request. ap (λ (o : ObjectsView). is_seen o.seen request) is;
  made = ap (λ (o : ObjectsView). o.made) is;
}

-- a book that holds the tree of version 0 knows them
pub known_nothing : (h : List ℕ → List ℕ) (held : Held) (block : ℕ) (first : TreeView) (strings : List NodeView) (objects : ObjectsView) → 0 < block → StandsFor h block first [] [] → IsTreeIn h held first
    → strings ≡ changed_nodes first first → objects ≡ record { trees = record { first = first; later = [] }; added = record { first = strings; later = [] }; seen = []; made = [] } → AreKnown h held objects
known_nothing h held block first strings objects some stands one changes is = record {
  block = block;
  requests = [];
  after = after_nothing h block first strings objects some stands changes is;
  known = λ label. subst (λ (o : ObjectsView). All (IsTreeIn h held) (trees_in o.trees label)) (sym is) (All-push (IsTreeIn h held) [] first (λ k d l. absurd (omega arith)) one);
}

or_seen : (a b : Bool) → (a ≡ true → b ≡ true) → (a || b) ≡ b
or_seen true b e = sym (e refl)
or_seen false b e = refl

and_false : (b : Bool) → (b && false) ≡ false
and_false true = refl
and_false false = refl

-- requests of one client and number are seen or not alike
seen_alike : (seen : List (ClientId × ℕ)) (r other : Request) → same_number r other ≡ true → is_seen seen r ≡ is_seen seen other
seen_alike seen r other same = by (cases_eq r.client.0 other.client.0) (cases_eq r.number other.number)
  where
    by : (r.client.0 ≡ other.client.0) ⊎ (r.client.0 ≢ other.client.0) → (r.number ≡ other.number) ⊎ (r.number ≢ other.number) → is_seen seen r ≡ is_seen seen other
    by (inl client) (inl number) = ap₂ (λ c n. list_any (λ (pair : ClientId × ℕ). c == pair.0.0 && n == pair.1) seen) client number
    by (inl client) (inr apart) = absurd (false≢true (sym (ap (λ b. r.client.0 == other.client.0 && b) (ne_eqb r.number other.number apart) ∙ and_false (r.client.0 == other.client.0)) ∙ same))
    by (inr apart) number = absurd (false≢true (sym (ap (λ b. b && r.number == other.number) (ne_eqb r.client.0 other.client.0 apart)) ∙ same))

module _ (h : List ℕ → List ℕ) (block : ℕ) (request : Request) (earlier : List Request) (old : ObjectsView) (after : AreAfter h block earlier old) where
  abbrev made : List Made
  made = made_by h block earlier

  abbrev versions : List (List ℕ)
  versions = versions_after h block request.label earlier

  -- ---- what the request does

  pub effect_first : is_seen old.seen request ≡ false → (r : Result (List ℕ) Refusal) → outcome h block request.update.clauses versions ≡ r → effect_after h block request earlier ≡ effect_of_outcome r
  effect_first new r is =
      ap (λ b. cond b Repeats (effect_of_outcome (outcome h block request.update.clauses versions))) (sym (after.seen request) ∙ new) ∙ ap effect_of_outcome is

  -- the newest tree stands for the versions
  newest_stands : StandsFor h block (newest_in old.trees request.label) (newest versions) (drop 1 versions)
  newest_stands = newest_for h block earlier old after request.label

  -- ---- the objects after it

  pub seen_more : (new : ObjectsView) → SeesOneMore old.seen new.seen request.client request.number → (r : Request) → is_seen new.seen r ≡ list_any (same_number r) (request ∷ earlier)
  seen_more new more r = more r ∙ ap (λ b. same_number r request || b) (after.seen r)

  module _ (new : ObjectsView) (e : Effect) (is : effect_after h block request earlier ≡ e) (none : with_effect request.label e made ≡ made) (trees : new.trees ≡ old.trees) (added : new.added ≡ old.added) (same_made : new.made ≡ old.made)
      (seen : (r : Request) → is_seen new.seen r ≡ list_any (same_number r) (request ∷ earlier)) where
    pub after_none : AreAfter h block (request ∷ earlier) new
    after_none =
        let same : made_by h block (request ∷ earlier) ≡ made = ap (λ x. with_effect request.label x made) is ∙ none in
        record {
          trees = λ label. ap (λ t. trees_in t label) trees ∙ after.trees label ∙ ap (λ m. trees_of h block (versions_of label m)) (sym same);
          added = λ label. ap (λ a. added_in a label) added ∙ after.added label ∙ ap (λ m. added_of h block (versions_of label m)) (sym same);
          names = λ label.
              subst (λ m. HasJust (strings_at new.added label).names (map h (strings_so_far h block (versions_of label m)))) (sym same)
              (subst (λ (a : AddedView). HasJust (strings_at a label).names (map h (strings_so_far h block (versions_of label made)))) (sym added) (after.names label));
          seen = seen;
          made = same_made ∙ after.made ∙ ap in_order (sym same);
        }

  -- a request of a client and number that are seen is told apart by them alone
  seen_again : is_seen old.seen request ≡ true → (r : Request) → is_seen old.seen r ≡ list_any (same_number r) (request ∷ earlier)
  seen_again seen r = sym (or_seen (same_number r request) (is_seen old.seen r) (λ same. seen_alike old.seen r request same ∙ seen)) ∙ ap (λ b. same_number r request || b) (after.seen r)

  pub after_repeat : is_seen old.seen request ≡ true → AreAfter h block (request ∷ earlier) old
  after_repeat seen =
      after_none old Repeats (ap (λ b. cond b Repeats (effect_of_outcome (outcome h block request.update.clauses versions))) (sym (after.seen request) ∙ seen)) refl refl refl refl (seen_again seen)

  pub after_refusal : (new : ObjectsView) (refusal : Refusal) → is_seen old.seen request ≡ false → outcome h block request.update.clauses versions ≡ Err refusal
      → new.trees ≡ old.trees → new.added ≡ old.added → new.made ≡ old.made → SeesOneMore old.seen new.seen request.client request.number → AreAfter h block (request ∷ earlier) new
  after_refusal new refusal first is trees added same_made seen = after_none new (Refuses refusal) (effect_first first (Err refusal) is) refl trees added same_made (seen_more new seen)

  module _ (new : ObjectsView) (content : List ℕ) (tree : TreeView) (changed : List NodeView) (is : effect_after h block request earlier ≡ Makes content) (stands : StandsFor h block tree content versions)
      (keeps : KeepsTree old new request tree changed) (news : AreNew h block changed content versions) where
    trees_made : (label : List ℕ) (same : Bool) → (same ≡ true → request.label ≡ label)
        → cond same (trees_in old.trees label ++ tree ∷ []) (trees_in old.trees label) ≡ trees_of h block (cond same (content ∷ versions_of label made) (versions_of label made))
    trees_made label true is_label =
        ap (λ ts. ts ++ tree ∷ []) (after.trees label)
        ∙ ap (λ t. trees_of h block (versions_of label made) ++ t ∷ []) (stands ∙ ap (λ l. tree_of h block content (versions_of l made)) (is_label refl))
    trees_made label false is_label = after.trees label

    own_added : added_in new.added request.label ≡ added_of h block (content ∷ versions)
    own_added =
        ap (λ ns. ns ∷ (strings_at new.added request.label).added) keeps.added.first
        ∙ ap (λ more. old.added.first ∷ more) (keeps.added.own.added (map h (strings_so_far h block versions)) (after.names request.label))
        ∙ ap (λ ns. added_in old.added request.label ++ ns ∷ []) news.0 ∙ ap (λ lists. lists ++ added_by h block content versions ∷ []) (after.added request.label)

    other_added : (label : List ℕ) → bytes_eq request.label label ≡ false → added_in new.added label ≡ added_of h block (versions_of label made)
    other_added label other =
        ap (λ ns. ns ∷ (strings_at new.added label).added) keeps.added.first ∙ ap (λ (s : StringsView). old.added.first ∷ s.added) (keeps.added.others label other) ∙ after.added label

    own_names : HasJust (strings_at new.added request.label).names (map h (strings_so_far h block (content ∷ versions)))
    own_names name = keeps.added.own.names (map h (strings_so_far h block versions)) (after.names request.label) name ∙ news.1 name

    other_names : (label : List ℕ) → bytes_eq request.label label ≡ false → HasJust (strings_at new.added label).names (map h (strings_so_far h block (versions_of label made)))
    other_names label other = subst (λ (s : StringsView). HasJust s.names (map h (strings_so_far h block (versions_of label made)))) (sym (keeps.added.others label other)) (after.names label)

    -- what holds of the strings of each label, by the versions that it has now
    for_label : (P : List ℕ → List (List ℕ) → Type 0) → P request.label (content ∷ versions) → ((label : List ℕ) → bytes_eq request.label label ≡ false → P label (versions_of label made)) → (label : List ℕ)
        → P label (versions_of label (record { label = request.label; content = content } ∷ made))
    for_label P own others label =
        subst (P label) (sym (one_more label request.label content made))
        (elim (bytes_eq request.label label) as (λ b. bytes_eq request.label label ≡ b → P label (cond b (content ∷ versions_of label made) (versions_of label made))) [
          | true ↦ λ same. subst (λ l. P l (content ∷ versions_of l made)) (same_label request.label label same) own
          | false ↦ λ other. others label other
        ] refl)

    pub after_made : AreAfter h block (request ∷ earlier) new
    after_made =
        let now : made_by h block (request ∷ earlier) ≡ record { label = request.label; content = content } ∷ made = ap (λ x. with_effect request.label x made) is in
        record {
          trees = λ label.
              more_trees old.trees new.trees request.label tree keeps.trees label
              ∙ trees_made label (bytes_eq request.label label) (same_label request.label label)
              ∙ ap (trees_of h block) (sym (one_more label request.label content made))
              ∙ ap (λ m. trees_of h block (versions_of label m)) (sym now);
          added = λ label. subst (λ m. added_in new.added label ≡ added_of h block (versions_of label m)) (sym now) (for_label (λ l vs. added_in new.added l ≡ added_of h block vs) own_added other_added label);
          names = λ label.
              subst (λ m. HasJust (strings_at new.added label).names (map h (strings_so_far h block (versions_of label m)))) (sym now)
              (for_label (λ l vs. HasJust (strings_at new.added l).names (map h (strings_so_far h block vs))) own_names other_names label);
          seen = seen_more new keeps.seen;
          made = keeps.made
              ∙ ap (λ xs. xs ++ (request.label, tree.root.version) ∷ []) after.made
              ∙ ap (λ (t : TreeView). in_order made ++ (request.label, t.root.version) ∷ []) stands
              ∙ ap in_order (sym now);
        }

  -- ---- the version that it makes

  module _ (actions : List Action) (first : is_seen old.seen request ≡ false)
      (decides : (content : List ℕ) (older : List (List ℕ)) → StandsFor h block (newest_in old.trees request.label) content older
      → (outcome h block request.update.clauses (content ∷ older) ≡ act_all actions content) × IsOk (act_all actions content)) where
    -- what holds of the next version of the newest tree holds of the one that the request makes
    pub for_made : (P : ℕ → List ℕ → List (List ℕ) → Type 0) → ForNext h (newest_in old.trees request.label) actions P
        → (content : List ℕ) × (effect_after h block request earlier ≡ Makes content) × P block content versions
    for_made P next =
        let d = decides (newest versions) (drop 1 versions) newest_stands in
        let known : outcome h block request.update.clauses versions ≡ act_all actions (newest versions) = ap (outcome h block request.update.clauses) (split request.label made) ∙ d.0 in
        elim (act_all actions (newest versions)) as (λ r. act_all actions (newest versions) ≡ r → IsOk r → (content : List ℕ) × (effect_after h block request earlier ≡ Makes content) × P block content versions) [
          | Ok content ↦ λ is ok. (content, effect_first first (Ok content) (known ∙ is), subst (P block content) (sym (split request.label made)) (next block (newest versions) content (drop 1 versions) newest_stands is))
          | Err refusal ↦ λ is ok. absurd (false≢true ok)
        ] refl d.1
