-- The version of an object of a number: its tree, and what it added.
use Rattle.std.proofs.Common.{◌≡◌, ◌<◌, ◌≤◌, ◌+◌, ◌-◌, ℕ, zero, suc, Bool, true, false, cond, nat_lt, Some, None, List, [], ◌∷◌, ◌++◌, length, drop, codes, append_assoc, refl, sym, ◌∙◌, ap, ap₂, subst, arith, inl, inr}
use Rattle.std.specs.Fmt.{decimal}
use Rattle.std.proofs.lemmas.Bool.{cases_eq, eq-eqb, ne_eqb}
use Rattle.std.proofs.lemmas.Bool.Decides.{nat_tests}
use Rattle.std.proofs.lemmas.Grind.{common_steps}
use Rattle.std.proofs.lemmas.List.{length-drop, length-map}
use Rattle.cow_tree.specs.Views.{NodeView, TreeView}
use Rattle.cow_tree.specs.Versions.{StandsFor}
use Rattle.object_model.specs.Trees.{version_strings, new_strings, height_of, root_of}
use Rattle.tree_format.specs.declared.root.Root.{Root}
use Rattle.object_fold.specs.Shelves.{tree_of, tree_at}
use Rattle.object_fold.specs.Added.{added_by, added_at}
use Rattle.cow_tree.specs.Rows.{node}
use Rattle.text_model.specs.Blocks as model

drop_none : {X : Type 0} (xs : List X) (n : ℕ) → n ≡ 0 → drop n xs ≡ xs
drop_none xs n e = ap (λ k. drop k xs) e

drop_one : {X : Type 0} (x : X) (xs : List X) (n : ℕ) → n ≡ 1 → drop n (x ∷ xs) ≡ xs
drop_one x xs n e = ap (λ k. drop k (x ∷ xs)) e

drop_more : {X : Type 0} (x : X) (xs : List X) (n m : ℕ) → n ≡ m + 1 → drop n (x ∷ xs) ≡ drop m xs
drop_more x xs n m e = grind (arith, common_steps)

-- the tree of a number, where there is a version of it
tree_within : (h : List ℕ → List ℕ) (block : ℕ) (versions : List (List ℕ)) (k : ℕ) (tree : TreeView) → tree_at h block versions k ≡ Some tree → k < length versions
tree_within h block [] k tree e = absurd (cc)
tree_within h block (content ∷ older) k tree e = elim (cases_eq k (length older)) as (λ _. k < length (content ∷ older)) [
  | inl same ↦ omega arith
  | inr other ↦
      let below : k < length older = tree_within h block older k tree (sym (ap (λ b. cond b (Some (tree_of h block content older)) (tree_at h block older k)) (ne_eqb k (length older) other)) ∙ e) in
      omega arith
]

-- where there is no tree there is no version of the number
tree_past : (h : List ℕ → List ℕ) (block : ℕ) (versions : List (List ℕ)) (k : ℕ) → tree_at h block versions k ≡ None → length versions ≤ k
tree_past h block [] k e = omega arith
tree_past h block (content ∷ older) k e = elim (cases_eq k (length older)) as (λ _. length (content ∷ older) ≤ k) [
  | inl same ↦
      let bad : Some (tree_of h block content older) ≡ None = sym (ap (λ b. cond b (Some (tree_of h block content older)) (tree_at h block older k)) (eq-eqb k (length older) same)) ∙ e in absurd (cc)
  | inr other ↦
      let past : length older ≤ k = tree_past h block older k (sym (ap (λ b. cond b (Some (tree_of h block content older)) (tree_at h block older k)) (ne_eqb k (length older) other)) ∙ e) in
      omega arith
]

up_to_within : (k : ℕ) (versions : List (List ℕ)) → k < length versions → model.up_to k versions ≡ drop (length versions - 1 - k) versions
up_to_within k versions within = let is : nat_lt k (length versions) ≡ true = grind (arith, nat_tests) in ap (λ b. cond b (drop (length versions - 1 - k) versions) []) is

up_to_past : (k : ℕ) (versions : List (List ℕ)) → length versions ≤ k → model.up_to k versions ≡ []
up_to_past k versions past = let is : nat_lt k (length versions) ≡ false = grind (arith, nat_tests) in ap (λ b. cond b (drop (length versions - 1 - k) versions) []) is

-- the tree of a number is that of the version up to which versions are taken
pub record IsUpTo (h : List ℕ → List ℕ) (block : ℕ) (tree : TreeView) (versions : List (List ℕ)) : Type 0 where
  pub content : List ℕ
  pub older : List (List ℕ)
  pub is : versions ≡ content ∷ older
  pub stands : StandsFor h block tree content older

-- the same of what it added
pub record IsAddedUpTo (h : List ℕ → List ℕ) (block : ℕ) (list : List NodeView) (versions : List (List ℕ)) : Type 0 where
  pub content : List ℕ
  pub older : List (List ℕ)
  pub is : versions ≡ content ∷ older
  pub added : list ≡ added_by h block content older

pub tree_up_to : (h : List ℕ → List ℕ) (block : ℕ) (versions : List (List ℕ)) (k : ℕ) (tree : TreeView) → tree_at h block versions k ≡ Some tree → IsUpTo h block tree (model.up_to k versions)
tree_up_to h block [] k tree e = absurd (cc)
tree_up_to h block (content ∷ older) k tree e = elim (cases_eq k (length older)) as (λ _. IsUpTo h block tree (model.up_to k (content ∷ older))) [
  | inl same ↦
      let here : Some (tree_of h block content older) ≡ Some tree = sym (ap (λ b. cond b (Some (tree_of h block content older)) (tree_at h block older k)) (eq-eqb k (length older) same)) ∙ e in
      let is : tree ≡ tree_of h block content older = cc in
      record {
        content = content;
        older = older;
        is = up_to_within k (content ∷ older) (omega arith) ∙ drop_none (content ∷ older) (length (content ∷ older) - 1 - k) (omega arith);
        stands = is;
      }
  | inr other ↦
      let there : tree_at h block older k ≡ Some tree = sym (ap (λ b. cond b (Some (tree_of h block content older)) (tree_at h block older k)) (ne_eqb k (length older) other)) ∙ e in
      let below : k < length older = tree_within h block older k tree there in
      let same : model.up_to k (content ∷ older) ≡ model.up_to k older =
      up_to_within k (content ∷ older) (omega arith) ∙ drop_more content older (length (content ∷ older) - 1 - k) (length older - 1 - k) (omega arith) ∙ sym (up_to_within k older below) in
      subst (IsUpTo h block tree) (sym same) (tree_up_to h block older k tree there)
]

-- what the version of a number added
added_within : (h : List ℕ → List ℕ) (block : ℕ) (versions : List (List ℕ)) (k : ℕ) (added : List NodeView) → added_at h block versions k ≡ Some added → k < length versions
added_within h block [] k added e = absurd (cc)
added_within h block (content ∷ older) k added e = elim (cases_eq k (length older)) as (λ _. k < length (content ∷ older)) [
  | inl same ↦ omega arith
  | inr other ↦
      let below : k < length older = added_within h block older k added (sym (ap (λ b. cond b (Some (added_by h block content older)) (added_at h block older k)) (ne_eqb k (length older) other)) ∙ e) in
      omega arith
]

added_past : (h : List ℕ → List ℕ) (block : ℕ) (versions : List (List ℕ)) (k : ℕ) → added_at h block versions k ≡ None → length versions ≤ k
added_past h block [] k e = omega arith
added_past h block (content ∷ older) k e = elim (cases_eq k (length older)) as (λ _. length (content ∷ older) ≤ k) [
  | inl same ↦
      let bad : Some (added_by h block content older) ≡ None = sym (ap (λ b. cond b (Some (added_by h block content older)) (added_at h block older k)) (eq-eqb k (length older) same)) ∙ e in absurd (cc)
  | inr other ↦
      let past : length older ≤ k = added_past h block older k (sym (ap (λ b. cond b (Some (added_by h block content older)) (added_at h block older k)) (ne_eqb k (length older) other)) ∙ e) in
      omega arith
]

-- where it has another version below it, what it added stands in that list of versions
added_up_to : (h : List ℕ → List ℕ) (block : ℕ) (versions : List (List ℕ)) (k : ℕ) (added : List NodeView) → added_at h block versions k ≡ Some added → IsAddedUpTo h block added (model.up_to k versions)
added_up_to h block [] k added e = absurd (cc)
added_up_to h block (content ∷ older) k added e = elim (cases_eq k (length older)) as (λ _. IsAddedUpTo h block added (model.up_to k (content ∷ older))) [
  | inl same ↦
      let here : Some (added_by h block content older) ≡ Some added = sym (ap (λ b. cond b (Some (added_by h block content older)) (added_at h block older k)) (eq-eqb k (length older) same)) ∙ e in
      let is : added ≡ added_by h block content older = cc in
      record { content = content; older = older; is = up_to_within k (content ∷ older) (omega arith) ∙ drop_none (content ∷ older) (length (content ∷ older) - 1 - k) (omega arith); added = is }
  | inr other ↦
      let there : added_at h block older k ≡ Some added = sym (ap (λ b. cond b (Some (added_by h block content older)) (added_at h block older k)) (ne_eqb k (length older) other)) ∙ e in
      let below : k < length older = added_within h block older k added there in
      let same : model.up_to k (content ∷ older) ≡ model.up_to k older =
      up_to_within k (content ∷ older) (omega arith) ∙ drop_more content older (length (content ∷ older) - 1 - k) (length older - 1 - k) (omega arith) ∙ sym (up_to_within k older below) in
      subst (IsAddedUpTo h block added) (sym same) (added_up_to h block older k added there)
]

same_versions : (c d : List ℕ) (vs ws : List (List ℕ)) → c ∷ vs ≡ d ∷ ws → (c ≡ d) × (vs ≡ ws)
same_versions c d vs ws e = (cc, cc)

-- how many strings it added
pub count_added : (h : List ℕ → List ℕ) (block : ℕ) (versions : List (List ℕ)) (k : ℕ) (added : List NodeView) → added_at h block versions k ≡ Some added
    → (content : List ℕ) (older : List (List ℕ)) → model.up_to k versions ≡ content ∷ older → length added ≡ length (new_strings h block content older)
count_added h block versions k added e content older up =
    let a = added_up_to h block versions k added e in
    let same = same_versions a.content content a.older older (sym a.is ∙ up) in
    ap length a.added ∙ length-map (new_strings h block a.content a.older) (node h) ∙ ap₂ (λ c vs. length (new_strings h block c vs)) same.0 same.1

pub none_added : (h : List ℕ → List ℕ) (block : ℕ) (versions : List (List ℕ)) (k count : ℕ) → added_at h block versions k ≡ None
    → (content : List ℕ) (older : List (List ℕ)) → model.up_to k versions ≡ content ∷ older → count ≡ length (new_strings h block content older)
none_added h block versions k count e content older up =
    let none : [] ≡ content ∷ older = sym (up_to_past k versions (added_past h block versions k e)) ∙ up in absurd (cc)

-- what is shown of the version of a number
pub shown : (h : List ℕ → List ℕ) (block : ℕ) (versions : List (List ℕ)) (k : ℕ) (tree : TreeView) (printed : List ℕ) → tree_at h block versions k ≡ Some tree
    → ((content : List ℕ) (older : List (List ℕ)) → model.up_to k versions ≡ content ∷ older → StandsFor h block tree content older → printed ≡ model.shape_line h block content older)
    → printed ≡ model.shape_text h block (model.up_to k versions)
shown h block versions k tree printed e told =
    let up = tree_up_to h block versions k tree e in
    told up.content up.older up.is up.stands ∙ sym (ap (model.shape_text h block) up.is)

pub none_shown : (h : List ℕ → List ℕ) (block : ℕ) (versions : List (List ℕ)) (k : ℕ) (printed : List ℕ) → tree_at h block versions k ≡ None → printed ≡ model.shape_text h block [] → printed ≡ model.shape_text h block (model.up_to k versions)
none_shown h block versions k printed e told = told ∙ sym (ap (model.shape_text h block) (up_to_past k versions (tree_past h block versions k e)))

-- what is read of the version of a number
pub read_up_to : (h : List ℕ → List ℕ) (block : ℕ) (versions : List (List ℕ)) (k : ℕ) (tree : TreeView) (bytes printed : List ℕ) → tree_at h block versions k ≡ Some tree
    → ((content : List ℕ) (older : List (List ℕ)) → StandsFor h block tree content older → bytes ≡ content) → printed ≡ model.version_line k bytes → printed ≡ model.read_text (model.up_to k versions)
read_up_to h block versions k tree bytes printed e told line =
    let up = tree_up_to h block versions k tree e in
    let within : k < length versions = tree_within h block versions k tree e in
    let kept : length (up.content ∷ up.older) ≡ length versions - (length versions - 1 - k) = ap length (sym up.is ∙ up_to_within k versions within) ∙ length-drop (length versions - 1 - k) versions in
    let number : k ≡ length up.older = omega (arith, within, kept) in
    line ∙ ap₂ model.version_line number (told up.content up.older up.stands) ∙ sym (ap model.read_text up.is)

pub none_read : (h : List ℕ → List ℕ) (block : ℕ) (versions : List (List ℕ)) (k : ℕ) (printed : List ℕ) → tree_at h block versions k ≡ None → printed ≡ model.read_text [] → printed ≡ model.read_text (model.up_to k versions)
none_read h block versions k printed e told = told ∙ sym (ap model.read_text (up_to_past k versions (tree_past h block versions k e)))

-- the line of a shape
abbrev shape_of : ℕ → ℕ → ℕ → ℕ → ℕ → List ℕ
shape_of version size height count fresh =
    codes "version " ++ (decimal version ++ (codes " length " ++ (decimal size ++ (codes " height " ++ (decimal height ++ (codes " strings " ++ (decimal count ++ (codes " new " ++ (decimal fresh ++ 10 ∷ [])))))))))

shape_line_of : (h : List ℕ → List ℕ) (block : ℕ) (content : List ℕ) (older : List (List ℕ))
    → shape_of (length older) (length content) (height_of block content) (length (version_strings h block content older)) (length (new_strings h block content older)) ≡ model.shape_line h block content older
shape_line_of h block content older =
    eleven (codes "version ") (decimal (length older)) (codes " length ") (decimal (length content)) (codes " height ") (decimal (height_of block content)) (codes " strings ")
    (decimal (length (version_strings h block content older))) (codes " new ") (decimal (length (new_strings h block content older))) (10 ∷ [])
  where
    eleven : (a b c d e f g i j k l : List ℕ) → a ++ (b ++ (c ++ (d ++ (e ++ (f ++ (g ++ (i ++ (j ++ (k ++ l))))))))) ≡ a ++ b ++ c ++ d ++ e ++ f ++ g ++ i ++ j ++ k ++ l
    eleven a b c d e f g i j k l = simp append_assoc

pub shape_line_is : (h : List ℕ → List ℕ) (block : ℕ) (content : List ℕ) (older : List (List ℕ)) (tree : TreeView) (root : Root) (strings : List (List ℕ)) (count fresh : ℕ) → root ≡ tree.root → StandsFor h block tree content older
    → strings ≡ version_strings h block content older → count ≡ length strings → fresh ≡ length (new_strings h block content older)
    → shape_of root.version.0 root.length root.height count fresh ≡ model.shape_line h block content older
shape_line_is h block content older tree root strings count fresh at stands all counted new =
    let is : root ≡ root_of h block content older = at ∙ ap (λ (t : TreeView). t.root) stands in
    ap (λ (r : Root). shape_of r.version.0 r.length r.height count fresh) is
    ∙ ap (λ n. shape_of (length older) (length content) (height_of block content) n fresh) (counted ∙ ap length all)
    ∙ ap (shape_of (length older) (length content) (height_of block content) (length (version_strings h block content older))) new
    ∙ shape_line_of h block content older
