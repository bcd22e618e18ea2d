-- The strings that a version adds, of the nodes that changed.
use Rattle.std.proofs.Common.{◌≡◌, ◌||◌, ℕ, ◌<◌, Bool, true, false, cond, List, [], ◌∷◌, ◌++◌, length, drop, Some, map, All, refl, ap, ap₂, sym, ◌∙◌, subst, append_assoc}
use Rattle.std.specs.List.{flat_map, AllByRecursion}
use Rattle.std.specs.Str.{bytes_eq}
use Rattle.std.specs.FinMap as finite
use Rattle.std.proofs.lemmas.Slice.Eq.{bytes_eq-Decides}
use Rattle.std.proofs.lemmas.List.Elements.{recursion_from_All}
use Rattle.block_names.specs.Held.{Held}
use Rattle.block_names.specs.Growth.{Holds}
use Rattle.tree_format.specs.Strings.{leaf_string, root_string, height_over}
use Rattle.object_model.proofs.PieceLemmas.{pieces_nil}
use Rattle.object_model.specs.Updates.{newest}
use Rattle.object_model.specs.Trees.{stands_in, first_times, leaf_row, rows_from, rows_of, strings_of, root_of, version_strings, strings_so_far}
use Rattle.cow_tree.specs.Views.{NodeView, TreeView}
use Rattle.cow_tree.specs.Rows.{node, nodes, names_in}
use Rattle.cow_tree.specs.Changed.{changed_in_row, changed_in_rows, root_node, nodes_of, changed_nodes}
use Rattle.cow_tree.specs.Versions.{StandsFor}
use Rattle.object_fold.specs.Added.{first_named, added_by}
use Rattle.object_fold.proofs.Adding.{stands_append, all_stand}

-- ---- nodes that stand in another tree are passed over

-- the names of nodes are among the known ones
abbrev AreNamed : List NodeView → List (List ℕ) → Type 0
AreNamed ns known = AllByRecursion (λ (n : NodeView). stands_in n.name known ≡ true) ns

-- a list has the names of another one, and perhaps more
abbrev HasAll : List (List ℕ) → List (List ℕ) → Type 0
HasAll known more = (name : List ℕ) → stands_in name known ≡ true → stands_in name more ≡ true

or_right : (a b : Bool) → b ≡ true → (a || b) ≡ true
or_right true b e = refl
or_right false b e = e

or_left : (a b : Bool) → a ≡ true → (a || b) ≡ true
or_left true b e = refl
or_left false b e = absurd (cc)

has_more : (known : List (List ℕ)) (name : List ℕ) → HasAll known (name ∷ known)
has_more known name other e = or_right (bytes_eq other name) (stands_in other known) e

still_named : (ns : List NodeView) (known more : List (List ℕ)) → HasAll known more → AreNamed ns known → AreNamed ns more
still_named [] known more all named = tt
still_named (n ∷ ns) known more all named = (all n.name named.0, still_named ns known more all named.1)

-- what follows gives the same, whatever is known beside
abbrev SameAfter : List (List ℕ) → List NodeView → List NodeView → Type 0
SameAfter known less rest = (more : List (List ℕ)) → HasAll known more → first_named more less ≡ first_named more rest

after_more : (known more : List (List ℕ)) (less rest : List NodeView) → HasAll known more → SameAfter known less rest → SameAfter more less rest
after_more known more less rest all same further beyond = same further (λ name e. beyond name (all name e))

kept_or_not : (b : Bool) (n : NodeView) (xs ys : List NodeView) (known : List (List ℕ)) → first_named known xs ≡ first_named known ys → first_named (n.name ∷ known) xs ≡ first_named (n.name ∷ known) ys
    → cond b (first_named known xs) (n ∷ first_named (n.name ∷ known) xs) ≡ cond b (first_named known ys) (n ∷ first_named (n.name ∷ known) ys)
kept_or_not true n xs ys known e f = e
kept_or_not false n xs ys known e f = ap (λ r. n ∷ r) f

skip_row : (row before less rest : List NodeView) (known : List (List ℕ)) → AreNamed before known → SameAfter known less rest → first_named known (changed_in_row row before ++ less) ≡ first_named known (row ++ rest)
skip_row [] before less rest known named same = same known (λ name e. e)
skip_row (n ∷ row) [] less rest known named same =
    kept_or_not (stands_in n.name known) n (changed_in_row row [] ++ less) (row ++ rest) known (skip_row row [] less rest known tt same)
    (skip_row row [] less rest (n.name ∷ known) tt (after_more known (n.name ∷ known) less rest (has_more known n.name) same))
skip_row (n ∷ row) (b ∷ before) less rest known named same =
    by (skip_row row before less rest known named.1 same)
    (skip_row row before less rest (n.name ∷ known) (still_named before known (n.name ∷ known) (has_more known n.name) named.1) (after_more known (n.name ∷ known) less rest (has_more known n.name) same))
    (bytes_eq b.name n.name) refl
  where
    by : first_named known (changed_in_row row before ++ less) ≡ first_named known (row ++ rest) → first_named (n.name ∷ known) (changed_in_row row before ++ less) ≡ first_named (n.name ∷ known) (row ++ rest)
        → (t : Bool) → bytes_eq b.name n.name ≡ t → first_named known ((cond t [] (n ∷ []) ++ changed_in_row row before) ++ less) ≡ first_named known (n ∷ (row ++ rest))
    by there here true is =
        let stands : stands_in n.name known ≡ true = ap (λ x. stands_in x known) (sym ((bytes_eq-Decides b.name n.name).0 is)) ∙ named.0 in
        there ∙ sym (ap (λ t. cond t (first_named known (row ++ rest)) (n ∷ first_named (n.name ∷ known) (row ++ rest))) stands)
    by there here false is = kept_or_not (stands_in n.name known) n (changed_in_row row before ++ less) (row ++ rest) known there here

named_split : (xs ys : List NodeView) (known : List (List ℕ)) → AreNamed (xs ++ ys) known → AreNamed xs known × AreNamed ys known
named_split [] ys known named = (tt, named)
named_split (n ∷ xs) ys known named = let rest = named_split xs ys known named.1 in ((named.0, rest.0), rest.1)

skip_rows : (rows before : List (List NodeView)) (rest : List NodeView) (known : List (List ℕ)) → AreNamed (flat_map (λ row. row) before) known
    → first_named known (changed_in_rows rows before ++ rest) ≡ first_named known (flat_map (λ row. row) rows ++ rest)
skip_rows [] before rest known named = refl
skip_rows (row ∷ rows) [] rest known named =
    ap (first_named known) (append_assoc (changed_in_row row []) (changed_in_rows rows []) rest)
    ∙ skip_row row [] (changed_in_rows rows [] ++ rest) (flat_map (λ r. r) rows ++ rest) known tt (λ more all. skip_rows rows [] rest more tt)
    ∙ ap (first_named known) (sym (append_assoc row (flat_map (λ r. r) rows) rest))
skip_rows (row ∷ rows) (b ∷ before) rest known named =
    let parts = named_split b (flat_map (λ r. r) before) known named in
    ap (first_named known) (append_assoc (changed_in_row row b) (changed_in_rows rows before) rest)
    ∙ skip_row row b (changed_in_rows rows before ++ rest) (flat_map (λ r. r) rows ++ rest) known parts.0
    (λ more all. skip_rows rows before rest more (still_named (flat_map (λ r. r) before) known more all parts.1))
    ∙ ap (first_named known) (sym (append_assoc row (flat_map (λ r. r) rows) rest))

-- ---- names tell strings apart where a book holds them

module _ (h : List ℕ → List ℕ) (held : Held) where
  same_string : (s t : List ℕ) → Holds h held s → Holds h held t → h s ≡ h t → s ≡ t
  same_string s t p q e = let both : Some s ≡ Some t = sym p ∙ ap (finite.get held) e ∙ q in cc

  one_test : (s t : List ℕ) → Holds h held s → Holds h held t → bytes_eq (h s) (h t) ≡ bytes_eq s t
  one_test s t p q = by (bytes_eq (h s) (h t)) (bytes_eq s t) refl refl
    where
      by : (a b : Bool) → bytes_eq (h s) (h t) ≡ a → bytes_eq s t ≡ b → a ≡ b
      by true true e f = refl
      by false false e f = refl
      by true false e f = sym ((bytes_eq-Decides s t).1 (same_string s t p q ((bytes_eq-Decides (h s) (h t)).0 e))) ∙ f
      by false true e f = sym e ∙ (bytes_eq-Decides (h s) (h t)).1 (ap h ((bytes_eq-Decides s t).0 f))

  named_test : (s : List ℕ) (known : List (List ℕ)) → Holds h held s → AllByRecursion (Holds h held) known → stands_in (h s) (map h known) ≡ stands_in s known
  named_test s [] p all = refl
  named_test s (t ∷ known) p all = ap₂ (λ a b. a || b) (one_test s t p all.0) (named_test s known p all.1)

  -- the first nodes of names are those of the first strings
  first_strings : (known strings : List (List ℕ)) → AllByRecursion (Holds h held) known → AllByRecursion (Holds h held) strings → first_named (map h known) (nodes h strings) ≡ nodes h (first_times known strings)
  first_strings known [] all each = refl
  first_strings known (s ∷ strings) all each =
      ap (λ t. cond t (first_named (map h known) (nodes h strings)) (node h s ∷ first_named (h s ∷ map h known) (nodes h strings))) (named_test s known each.0 all)
      ∙ by (first_strings known strings all each.1) (first_strings (s ∷ known) strings (each.0, all) each.1) (stands_in s known)
    where
      by : first_named (map h known) (nodes h strings) ≡ nodes h (first_times known strings) → first_named (h s ∷ map h known) (nodes h strings) ≡ nodes h (first_times (s ∷ known) strings)
          → (t : Bool) → cond t (first_named (map h known) (nodes h strings)) (node h s ∷ first_named (h s ∷ map h known) (nodes h strings))
          ≡ nodes h (cond t (first_times known strings) (s ∷ first_times (s ∷ known) strings))
      by there here true = there
      by there here false = ap (λ r. node h s ∷ r) here

-- ---- the nodes of a tree

nodes_append : (h : List ℕ → List ℕ) (xs ys : List (List ℕ)) → nodes h (xs ++ ys) ≡ nodes h xs ++ nodes h ys
nodes_append h [] ys = refl
nodes_append h (s ∷ xs) ys = ap (λ r. node h s ∷ r) (nodes_append h xs ys)

pub names_nodes : (h : List ℕ → List ℕ) (strings : List (List ℕ)) → names_in (nodes h strings) ≡ map h strings
names_nodes h [] = refl
names_nodes h (s ∷ strings) = ap (λ r. h s ∷ r) (names_nodes h strings)

flat_nodes : (h : List ℕ → List ℕ) (rows : List (List (List ℕ))) → flat_map (λ row. row) (map (nodes h) rows) ≡ nodes h (flat_map (λ row. row) rows)
flat_nodes h [] = refl
flat_nodes h (row ∷ rows) = ap (λ r. nodes h row ++ r) (flat_nodes h rows) ∙ sym (nodes_append h row (flat_map (λ r. r) rows))

-- they are the strings of its version, under their names
pub nodes_stood_for : (h : List ℕ → List ℕ) (block : ℕ) (tree : TreeView) (content : List ℕ) (older : List (List ℕ)) → StandsFor h block tree content older → nodes_of tree ≡ nodes h (version_strings h block content older)
nodes_stood_for h block tree content older stands =
    ap nodes_of stands ∙ ap (λ ns. ns ++ node h (root_string (root_of h block content older)) ∷ []) (flat_nodes h (rows_of h block content))
    ∙ sym (nodes_append h (strings_of h block content) (root_string (root_of h block content older) ∷ []))

map_append : (h : List ℕ → List ℕ) (xs ys : List (List ℕ)) → map h (xs ++ ys) ≡ map h xs ++ map h ys
map_append h [] ys = refl
map_append h (x ∷ xs) ys = ap (λ r. h x ∷ r) (map_append h xs ys)

all_named : (h : List ℕ → List ℕ) (strings known : List (List ℕ)) → HasAll (map h strings) known → AreNamed (nodes h strings) known
all_named h [] known all = tt
all_named h (s ∷ strings) known all =
    (all (h s) (or_left (bytes_eq (h s) (h s)) (stands_in (h s) (map h strings)) ((bytes_eq-Decides (h s) (h s)).1 refl)), all_named h strings known (λ name e. all name (or_right (bytes_eq name (h s)) (stands_in name (map h strings)) e)))

-- the nodes of the newest of some versions have names of strings so far
newest_named : (h : List ℕ → List ℕ) (block : ℕ) (tree : TreeView) (content : List ℕ) (older : List (List ℕ)) → StandsFor h block tree content older
    → AreNamed (flat_map (λ row. row) tree.rows) (map h (strings_so_far h block (content ∷ older)))
newest_named h block tree content older stands =
    subst (λ ns. AreNamed ns (map h (strings_so_far h block (content ∷ older)))) (sym (ap (λ (t : TreeView). flat_map (λ row. row) t.rows) stands ∙ flat_nodes h (rows_of h block content)))
    (all_named h (strings_of h block content) (map h (strings_so_far h block (content ∷ older))) (λ name e.
    let here : stands_in name (map h (version_strings h block content older)) ≡ true =
    ap (stands_in name) (map_append h (strings_of h block content) (root_string (root_of h block content older) ∷ []))
    ∙ stands_append name (map h (strings_of h block content)) (map h (root_string (root_of h block content older) ∷ []))
    ∙ or_left (stands_in name (map h (strings_of h block content))) (stands_in name (map h (root_string (root_of h block content older) ∷ []))) e in
    ap (stands_in name) (map_append h (strings_so_far h block older) (version_strings h block content older))
    ∙ stands_append name (map h (strings_so_far h block older)) (map h (version_strings h block content older))
    ∙ or_right (stands_in name (map h (strings_so_far h block older))) (stands_in name (map h (version_strings h block content older))) here))

-- a tree of the next version, over one of the newest of some versions; a book holds the strings of all of them
module _ (h : List ℕ → List ℕ) (held : Held) (block : ℕ) (tree before : TreeView) (content last : List ℕ) (older : List (List ℕ))
    (stands : StandsFor h block tree content (last ∷ older)) (stood : StandsFor h block before last older)
    (known : All (Holds h held) (strings_so_far h block (last ∷ older))) (made : All (Holds h held) (version_strings h block content (last ∷ older))) where
  abbrev names : List (List ℕ)
  names = map h (strings_so_far h block (last ∷ older))

  all_looked_at : first_named names (changed_nodes tree before) ≡ first_named names (nodes h (version_strings h block content (last ∷ older)))
  all_looked_at =
      skip_rows tree.rows before.rows (root_node tree ∷ []) names (newest_named h block before last older stood)
      ∙ ap (first_named names) (nodes_stood_for h block tree content (last ∷ older) stands)

  -- what is new of the changed nodes is what the version adds
  pub new_added : first_named names (changed_nodes tree before) ≡ added_by h block content (last ∷ older)
  new_added =
      all_looked_at
      ∙ first_strings h held (strings_so_far h block (last ∷ older)) (version_strings h block content (last ∷ older)) (recursion_from_All (Holds h held) (strings_so_far h block (last ∷ older)) known)
      (recursion_from_All (Holds h held) (version_strings h block content (last ∷ older)) made)

  -- with the names of the changed nodes all names are known
  pub new_names : (name : List ℕ) → stands_in name (names ++ names_in (changed_nodes tree before)) ≡ stands_in name (map h (strings_so_far h block (content ∷ last ∷ older)))
  new_names name =
      sym (all_stand name names (changed_nodes tree before))
      ∙ ap (λ ns. stands_in name (names ++ names_in ns)) all_looked_at
      ∙ all_stand name names (nodes h (version_strings h block content (last ∷ older)))
      ∙ ap (λ ns. stands_in name (names ++ ns)) (names_nodes h (version_strings h block content (last ∷ older)))
      ∙ ap (stands_in name) (sym (map_append h (strings_so_far h block (last ∷ older)) (version_strings h block content (last ∷ older))))

-- of changed nodes those are new that a version adds to some versions, and with the names of all of them those of its strings are known
abbrev pub AreNew : (List ℕ → List ℕ) → ℕ → List NodeView → List ℕ → List (List ℕ) → Type 0
AreNew h block changed content versions =
    (first_named (map h (strings_so_far h block versions)) changed ≡ added_by h block content versions)
    × ((name : List ℕ) → stands_in name (map h (strings_so_far h block versions) ++ names_in changed) ≡ stands_in name (map h (strings_so_far h block (content ∷ versions))))

pub are_new : (h : List ℕ → List ℕ) (held : Held) (block : ℕ) (tree before : TreeView) (content : List ℕ) (versions : List (List ℕ)) → versions ≡ newest versions ∷ drop 1 versions
    → StandsFor h block tree content versions → StandsFor h block before (newest versions) (drop 1 versions)
    → All (Holds h held) (strings_so_far h block versions) → All (Holds h held) (version_strings h block content versions) → AreNew h block (changed_nodes tree before) content versions
are_new h held block tree before content versions is stands stood known made =
    subst (λ vs. StandsFor h block tree content vs → All (Holds h held) (strings_so_far h block vs) → All (Holds h held) (version_strings h block content vs) → AreNew h block (changed_nodes tree before) content vs) (sym is)
    (λ s k m. (new_added h held block tree before content (newest versions) (drop 1 versions) s stood k m, new_names h held block tree before content (newest versions) (drop 1 versions) s stood k m))
    stands known made

-- ---- version 0

no_leaves : (block : ℕ) → 0 < block → leaf_row block [] ≡ []
no_leaves block p = ap (map leaf_string) (pieces_nil block p)

no_rows : (h : List ℕ → List ℕ) (block : ℕ) → 0 < block → rows_of h block [] ≡ [] ∷ []
no_rows h block p = ap (λ row. rows_from h (height_over (length row)) row) (no_leaves block p)

-- the nodes of its tree are what it adds
pub first_added : (h : List ℕ → List ℕ) (block : ℕ) (first : TreeView) → 0 < block → StandsFor h block first [] []
    → (changed_nodes first first ≡ added_by h block [] []) × (changed_nodes first first ≡ nodes h (strings_so_far h block ([] ∷ [])))
first_added h block first p stands =
    let root : NodeView = node h (root_string (root_of h block [] [])) in
    let alone : changed_nodes first first ≡ root ∷ [] =
    ap (λ t. changed_nodes t t) stands ∙ ap (λ rows. changed_in_rows (map (nodes h) rows) (map (nodes h) rows) ++ root ∷ []) (no_rows h block p) in
    let strings : version_strings h block [] [] ≡ root_string (root_of h block [] []) ∷ [] = ap (λ rows. flat_map (λ row. row) rows ++ root_string (root_of h block [] []) ∷ []) (no_rows h block p) in
    (alone ∙ sym (ap (λ ss. nodes h (first_times [] ss)) strings), alone ∙ sym (ap (nodes h) strings))
