-- The versions of an object grow at their front.
use Rattle.std.proofs.Common.{◌≡◌, ℕ, ◌+◌, Bool, true, false, cond, List, [], ◌∷◌, ◌++◌, length, refl, sym, ap, ◌∙◌, subst, arith, append_assoc}
use Rattle.std.specs.List.{AllByRecursion as Each}
use Rattle.std.specs.Str.{bytes_eq}
use Rattle.std.proofs.lemmas.Slice.Eq.{bytes_eq-Decides}
use Rattle.object_model.specs.Trees.{object_name}
use Rattle.object_model.specs.Folds.{Made, made_by, versions_of, versions_after}
use Rattle.object_model.proofs.VersionLemmas.{one_more}
use Rattle.ring_model.specs.Messages.{Mark}
use Rattle.ring_model.specs.Laws.{IsPrefix}
use Rattle.ring_model.proofs.History.{Each-append}
use Rattle.fold_model.specs.Folds.{Archiving, requests_of, seal_of, seals_of}
use Rattle.fold_model.specs.Growing.{requests-append, requests_add}

-- what was made newer stands in front
pub versions_more : (label : List ℕ) (newer made : List Made) → (front : List (List ℕ)) × (front ++ versions_of label made ≡ versions_of label (newer ++ made))
versions_more label [] made = ([], refl)
versions_more label (m ∷ newer) made =
    let before = versions_more label newer made in
    let now = one_front m made (versions_of label (newer ++ made)) (bytes_eq m.label label) before in
    (now.0, now.1 ∙ sym (one_more label m.label m.content (newer ++ made)))
  where
    one_front : (m : Made) (made : List Made) (all : List (List ℕ)) (b : Bool) → (front : List (List ℕ)) × (front ++ versions_of label made ≡ all)
        → (front : List (List ℕ)) × (front ++ versions_of label made ≡ cond b (m.content ∷ all) all)
    one_front m made all true before = (m.content ∷ before.0, ap (λ vs. m.content ∷ vs) before.1)
    one_front m made all false before = before

pub own_label : (label : List ℕ) → bytes_eq label label ≡ true
own_label label = (bytes_eq-Decides label label).1 refl

-- the version that was made last stands in front of those of its object
pub version_first : (m : Made) (made : List Made) → versions_of m.label (m ∷ made) ≡ m.content ∷ versions_of m.label made
version_first m made = one_more m.label m.label m.content made ∙ ap (λ b. cond b (m.content ∷ versions_of m.label made) (versions_of m.label made)) (own_label m.label)

-- the versions after a list are among those after a longer one
pub versions_stay : (h : List ℕ → List ℕ) (block : ℕ) (label : List ℕ) (xs ys : List (List ℕ)) → IsPrefix xs ys
    → (newer : List (List ℕ)) × (newer ++ versions_after h block label (requests_of xs) ≡ versions_after h block label (requests_of ys))
versions_stay h block label xs ys prefix =
    let more = requests_add h block (requests_of prefix.0) (requests_of xs) in
    let front = versions_more label more.0 (made_by h block (requests_of xs)) in
    (front.0, front.1 ∙ ap (versions_of label) (sym more.1 ∙ ap (made_by h block) (sym (requests-append xs prefix.0) ∙ ap requests_of prefix.1)))

-- ---- seals

-- a mark is that of a version, by its manifest
pub record IsSealOf (h : List ℕ → List ℕ) (archiving : Archiving) (made : List Made) (mark : Mark) : Type 0 where
  pub label : List ℕ
  pub is_object : mark.object ≡ object_name h label
  pub versions : List (List ℕ)
  pub newer : List (List ℕ)
  pub among : newer ++ versions ≡ versions_of label made
  pub count : length versions ≡ mark.version + 1
  pub is_name : mark.name ≡ h (archiving.manifest mark.object versions)

pub all_seals : (h : List ℕ → List ℕ) (archiving : Archiving) (newer made : List Made) → Each (IsSealOf h archiving (newer ++ made)) (seals_of h archiving made)
all_seals h archiving newer [] = tt
all_seals h archiving newer (m ∷ made) =
    let older = subst (λ all. Each (IsSealOf h archiving all) (seals_of h archiving made)) (append_assoc newer (m ∷ []) made) (all_seals h archiving (newer ++ m ∷ []) made) in
    let front = versions_more m.label newer (m ∷ made) in
    Each-append (IsSealOf h archiving (newer ++ m ∷ made)) (seals_of h archiving made) (seal_of h archiving m made ∷ []) older (
      record {
        label = m.label;
        is_object = refl;
        versions = m.content ∷ versions_of m.label made;
        newer = front.0;
        among = ap (λ vs. front.0 ++ vs) (sym (version_first m made)) ∙ front.1;
        count = omega arith;
        is_name = refl;
      },
      tt,
    )
