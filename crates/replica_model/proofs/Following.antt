-- The walk at the name of a version is that of its tree.
use Rattle.std.proofs.Common.{◌≡◌, ◌<◌, ◌≤◌, ◌+◌, ◌-◌, ◌*◌, ◌++◌, min, ℕ, zero, suc, Bool, true, false, List, [], ◌∷◌, Option, Some, None, map, length, get_or, Contains, if◌then◌else◌, refl, ap, subst, ◌∙◌, append-nil, arith}
use Rattle.std.proofs.lemmas.List.Elements.{Contains-append_left, Contains-append_right}
use Rattle.std.specs.List.{AllByRecursion, range_with_len}
use Rattle.std.specs.Option.{is_some}
use Rattle.tree_format.specs.Strings.{root_string}
use Rattle.tree_format.specs.Grammar.{IsRoot}
use Rattle.object_model.specs.Trees.{leaf_row, rows_of, height_of, strings_of, root_of, version_name, version_strings}
use Rattle.object_model.proofs.RootLemmas.{is_root}
use Rattle.replica_model.specs.Replicas.{Replica, CachesHold}
use Rattle.replica_model.specs.Offers.{Answers}
use Rattle.replica_model.specs.Walks.{Walk, Step, unmoved, then_walked, in_order, stepped, walked, below}
use Rattle.replica_model.specs.Trees.{row_at, string_at, places_below, going_on, place_walk, content_walk, version_walk, AreApart, AreAmong, CanBeVersion}
use Rattle.replica_model.specs.declared.places.Place.{Place}
use Rattle.replica_model.proofs.Keeping.{IsRight, AllKnown, StepIsRight, stepped_right, walked_keeps}
use Rattle.replica_model.proofs.Standing.{below_empty, below_root}
use Rattle.replica_model.proofs.Rows.{next_row, first_row, below_place, string_among, top_name, one_top, low, leaf_count, below_leaf_at}

-- a walk, and then none
then_nothing : (walk : Walk) → then_walked walk unmoved ≡ walk
then_nothing walk =
    let put : walk.put + 0 ≡ walk.put = omega arith in
    let missing : walk.missing + 0 ≡ walk.missing = omega arith in
    λ i. record { replicas = walk.replicas; put = put i; missing = missing i; named = append-nil walk.named i }

-- walks that go on alike
then_same : (walk : Walk) (next other : List Replica → Walk) → next walk.replicas ≡ other walk.replicas → then_walked walk next ≡ then_walked walk other
then_same walk next other e = ap (λ (more : Walk). record { replicas = more.replicas; put = walk.put + more.put; missing = walk.missing + more.missing; named = walk.named ++ more.named }) e

all_inside : (a n count : ℕ) → n ≤ count - a → AllByRecursion (λ p. p < count) (range_with_len a n)
all_inside a zero count l = tt
all_inside a (suc n) count l = (omega (arith, l), all_inside (a + 1) n count (omega (arith, l)))

module _ (h : List ℕ → List ℕ) (known : List (List ℕ)) (answers : Answers) (places : List Place) (r : ℕ) (apart : AreApart h known) where
  abbrev Holding : List Replica → Type 0
  Holding replicas = CachesHold (IsRight h (Contains known) answers) replicas

  abbrev Among : List (List ℕ) → Type 0
  Among strings = AllKnown h (Contains known) answers strings

  visit : List ℕ → List Replica → Step
  visit name replicas = stepped h answers places r name replicas

  walk_in : ℕ → List ℕ → List Replica → Walk
  walk_in depth name replicas = walked h answers places r depth name replicas

  after : ℕ → Step → Walk
  after depth step = elim step.string as (λ _. Walk) [ None ↦ step.walk | Some bytes ↦ then_walked step.walk (in_order (walked h answers places r depth) (below bytes)) ]

  -- a walk at the name of a known string goes on below that string
  goes_on : (depth : ℕ) (string : List ℕ) (next : List Replica → Walk) → Contains known string
      → ((replicas : List Replica) → Holding replicas → Among (in_order (walked h answers places r depth) (below string) replicas).named → in_order (walked h answers places r depth) (below string) replicas ≡ next replicas)
      → (replicas : List Replica) → Holding replicas → Among (walked h answers places r (suc depth) (h string) replicas).named
      → walked h answers places r (suc depth) (h string) replicas ≡ going_on (stepped h answers places r (h string) replicas) next
  unfolding walked
  goes_on depth string next there same replicas all = by (stepped h answers places r (h string) replicas) (stepped_right h (Contains known) answers places r (h string) replicas all) where
    by : (step : Step) → (Among step.walk.named → StepIsRight h (Contains known) answers (h string) step)
        → Among (elim step.string as (λ _. Walk) [ None ↦ step.walk | Some bytes ↦ then_walked step.walk (in_order (walked h answers places r depth) (below bytes)) ]).named
        → (elim step.string as (λ _. Walk) [ None ↦ step.walk | Some bytes ↦ then_walked step.walk (in_order (walked h answers places r depth) (below bytes)) ]) ≡ going_on step next
    by step right = cases step.string refl where
      cases : (o : Option (List ℕ)) → step.string ≡ o
          → Among (elim o as (λ _. Walk) [ None ↦ step.walk | Some bytes ↦ then_walked step.walk (in_order (walked h answers places r depth) (below bytes)) ]).named
          → (elim o as (λ _. Walk) [ None ↦ step.walk | Some bytes ↦ then_walked step.walk (in_order (walked h answers places r depth) (below bytes)) ]) ≡ (if is_some o then then_walked step.walk next else step.walk)
      cases None e known_all = refl
      cases (Some bytes) e known_all =
          let more : Walk = in_order (walked h answers places r depth) (below bytes) step.walk.replicas in
          let here = right (λ s c. known_all s (Contains-append_left step.walk.named more.named s c)) in
          let came = here.came bytes e in
          let is : bytes ≡ string = apart bytes string came.1 there came.0 in
          let rest : Among more.named = λ s c. known_all s (Contains-append_right step.walk.named more.named s c) in
          let below_same : below bytes ≡ below string = ap below is in
          then_same step.walk (in_order (walked h answers places r depth) (below bytes)) next
          (ap (λ (names : List (List ℕ)). in_order (walked h answers places r depth) names step.walk.replicas) below_same
          ∙ same step.walk.replicas here.held (subst (λ (names : List (List ℕ)). Among (in_order (walked h answers places r depth) names step.walk.replicas).named) below_same rest))

  -- walks one after the other, each of which is another one
  in_order_same : (depth : ℕ) (name : ℕ → List ℕ) (other : ℕ → List Replica → Walk) (IsGood : ℕ → Type 0)
      → ((p : ℕ) → IsGood p → (replicas : List Replica) → Holding replicas → Among (walked h answers places r depth (name p) replicas).named → walked h answers places r depth (name p) replicas ≡ other p replicas)
      → (ps : List ℕ) → AllByRecursion IsGood ps → (replicas : List Replica) → Holding replicas → Among (in_order (walked h answers places r depth) (map name ps) replicas).named
      → in_order (walked h answers places r depth) (map name ps) replicas ≡ in_order other ps replicas
  in_order_same depth name other IsGood each [] good replicas all known_all = refl
  in_order_same depth name other IsGood each (p ∷ ps) good replicas all known_all =
      let first : Walk = walked h answers places r depth (name p) replicas in
      let more : Walk = in_order (walked h answers places r depth) (map name ps) first.replicas in
      let known_first : Among first.named = λ s c. known_all s (Contains-append_left first.named more.named s c) in
      let known_more : Among more.named = λ s c. known_all s (Contains-append_right first.named more.named s c) in
      let held : Holding first.replicas = walked_keeps h (Contains known) answers places r depth (name p) replicas all known_first in
      then_same first (in_order (walked h answers places r depth) (map name ps)) (in_order other ps) (in_order_same depth name other IsGood each ps good.1 first.replicas held known_more)
      ∙ ap (λ (w : Walk). then_walked w (in_order other ps)) (each p good.0 replicas all known_first)

  module _ (rows : List (List (List ℕ))) (top : ℕ)
      (leaf : (place : ℕ) → place < length (row_at rows 0) → below (string_at rows 0 place) ≡ [])
      (inner : (level place : ℕ) → suc level ≤ top → place < length (row_at rows (suc level))
      → below (string_at rows (suc level) place) ≡ map (λ p. h (string_at rows level p)) (places_below (length (row_at rows level)) place))
      (there : (level place : ℕ) → level ≤ top → place < length (row_at rows level) → Contains known (string_at rows level place)) where
    only_step : (step : Step) → going_on step unmoved ≡ step.walk
    only_step step = by (is_some step.string) where
      by : (b : Bool) → (if b then then_walked step.walk unmoved else step.walk) ≡ step.walk
      by true = then_nothing step.walk
      by false = refl

    -- the walk at the name of a string of a row is that of its place
    follows : (level depth place : ℕ) → level < depth → level ≤ top → place < length (row_at rows level) → (replicas : List Replica) → Holding replicas
        → Among (walked h answers places r depth (h (string_at rows level place)) replicas).named
        → walked h answers places r depth (h (string_at rows level place)) replicas ≡ place_walk (stepped h answers places r) h rows level place replicas
    follows level zero place deep high inside = absurd (omega arith)
    follows zero (suc depth) place deep high inside = λ replicas all known_all.
        goes_on depth (string_at rows 0 place) unmoved (there 0 place high inside)
        (λ rs held k. ap (λ (names : List (List ℕ)). in_order (walked h answers places r depth) names rs) (leaf place inside)) replicas all known_all
        ∙ only_step (stepped h answers places r (h (string_at rows 0 place)) replicas)
    follows (suc level) (suc depth) place deep high inside = λ replicas all known_all.
        goes_on depth (string_at rows (suc level) place) (in_order (place_walk (stepped h answers places r) h rows level) (places_below (length (row_at rows level)) place)) (there (suc level) place high inside)
        (λ rs held k.
        let names_same = inner level place high inside in
        ap (λ (names : List (List ℕ)). in_order (walked h answers places r depth) names rs) names_same
        ∙ in_order_same depth (λ p. h (string_at rows level p)) (place_walk (stepped h answers places r) h rows level) (λ p. p < length (row_at rows level))
        (λ p good. follows level depth p (omega (arith, deep)) (omega (arith, high)) good)
        (places_below (length (row_at rows level)) place) (all_inside (place * 64) (min 64 (length (row_at rows level) - place * 64)) (length (row_at rows level)) (omega arith)) rs held
        (subst (λ (names : List (List ℕ)). Among (in_order (walked h answers places r depth) names rs).named) names_same k)) replicas all known_all

-- the walk of a version's root and of what stands below it
module _ (h : List ℕ → List ℕ) (known : List (List ℕ)) (answers : Answers) (places : List Place) (r block : ℕ) (content : List ℕ) (older : List (List ℕ)) (long : (s : List ℕ) → length (h s) ≡ 20)
    (version : CanBeVersion block content older) (apart : AreApart h known) (among : AreAmong (version_strings h block content older) known) where
  sound : IsRoot (root_of h block content older)
  sound = is_root h block content older long version.least version.most version.small version.few version.first

  root_known : Contains known (root_string (root_of h block content older))
  root_known = among (root_string (root_of h block content older))
      (Contains-append_right (strings_of h block content) (root_string (root_of h block content older) ∷ []) (root_string (root_of h block content older)) (0, omega arith, refl))

  row_zero : row_at (rows_of h block content) 0 ≡ leaf_row block content
  row_zero = first_row h (height_of block content) (leaf_row block content)

  leaf : (place : ℕ) → place < length (row_at (rows_of h block content) 0) → below (string_at (rows_of h block content) 0 place) ≡ []
  leaf place inside =
      ap (λ (row : List (List ℕ)). below (get_or row place [])) row_zero
      ∙ below_leaf_at block content place (subst (λ (row : List (List ℕ)). place < length row) row_zero inside)

  inner : (level place : ℕ) → suc level ≤ height_of block content → place < length (row_at (rows_of h block content) (suc level))
      → below (string_at (rows_of h block content) (suc level) place) ≡ map (λ p. h (string_at (rows_of h block content) level p)) (places_below (length (row_at (rows_of h block content) level)) place)
  inner level place high inside =
      let next = next_row h (height_of block content) level (leaf_row block content) (omega (arith, high)) in
      ap (λ (row : List (List ℕ)). below (get_or row place [])) next
      ∙ below_place h long (row_at (rows_of h block content) level) place (subst (λ (row : List (List ℕ)). place < length row) next inside)

  there : (level place : ℕ) → level ≤ height_of block content → place < length (row_at (rows_of h block content) level) → Contains known (string_at (rows_of h block content) level place)
  there level place high inside =
      among (string_at (rows_of h block content) level place)
      (Contains-append_left (strings_of h block content) (root_string (root_of h block content older) ∷ []) (string_at (rows_of h block content) level place)
      (string_among h (height_of block content) level (leaf_row block content) place high inside))

  abbrev Holding_here : List Replica → Type 0
  Holding_here replicas = CachesHold (IsRight h (Contains known) answers) replicas

  abbrev Known_here : List (List ℕ) → Type 0
  Known_here strings = AllKnown h (Contains known) answers strings

  -- the strings below the root
  content_follows : (bytes : List ℕ) → content ≡ bytes → (replicas : List Replica) → Holding_here replicas
      → Known_here (in_order (walked h answers places r 4) (below (root_string (root_of h block content older))) replicas).named
      → in_order (walked h answers places r 4) (below (root_string (root_of h block content older))) replicas ≡ content_walk (stepped h answers places r) h block bytes replicas
  content_follows [] e replicas all known_all =
      let none : length content ≡ 0 = ap length e in
      ap (λ (names : List (List ℕ)). in_order (walked h answers places r 4) names replicas) (below_empty (root_of h block content older) sound.top sound.previous none)
  content_follows (byte ∷ bytes) e replicas all known_all =
      let some : 0 < length content = (let l = ap length e in omega (arith, l)) in
      let small : length content ≤ 1048576 = version.small in
      let count = leaf_count block content version.least some small in
      let one : length (row_at (rows_of h block content) (height_of block content)) ≡ 1 = one_top h (leaf_row block content) count.0 count.1 in
      let named : (root_of h block content older).top ≡ h (string_at (rows_of h block content) (height_of block content) 0) =
      top_name h (height_of block content) (leaf_row block content) _ one in
      let names : below (root_string (root_of h block content older)) ≡ h (string_at (rows_of h block content) (height_of block content) 0) ∷ [] =
      below_root (root_of h block content older) sound.top sound.previous (omega (arith, small)) some ∙ ap (λ (n : List ℕ). n ∷ []) named in
      let high = low (length (leaf_row block content)) in
      let at_top : Known_here (in_order (walked h answers places r 4) (h (string_at (rows_of h block content) (height_of block content) 0) ∷ []) replicas).named =
      subst (λ (ns : List (List ℕ)). Known_here (in_order (walked h answers places r 4) ns replicas).named) names known_all in
      let first : Walk = walked h answers places r 4 (h (string_at (rows_of h block content) (height_of block content) 0)) replicas in
      ap (λ (ns : List (List ℕ)). in_order (walked h answers places r 4) ns replicas) names
      ∙ then_nothing first
      ∙ follows h known answers places r apart (rows_of h block content) (height_of block content) leaf inner there (height_of block content) 4 0 (omega (arith, high)) (omega arith) (omega (arith, one)) replicas all
      (λ s c. at_top s (Contains-append_left first.named [] s c))
      ∙ ap (λ (bs : List ℕ). place_walk (stepped h answers places r) h (rows_of h block bs) (height_of block bs) 0 replicas) e

  pub version_follows : (replicas : List Replica) → Holding_here replicas → Known_here (walked h answers places r 5 (version_name h block (content ∷ older)) replicas).named
      → walked h answers places r 5 (version_name h block (content ∷ older)) replicas ≡ version_walk (stepped h answers places r) h block content older replicas
  version_follows replicas all known_all =
      goes_on h known answers places r apart 4 (root_string (root_of h block content older)) (content_walk (stepped h answers places r) h block content) root_known (content_follows content refl) replicas all known_all
