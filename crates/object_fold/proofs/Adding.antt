-- Names that are new among known ones, and sets of names.
use Rattle.std.proofs.Common.{◌≡◌, ◌||◌, ℕ, ◌<◌, Bool, true, false, cond, not, List, [], ◌∷◌, ◌++◌, length, take, get_or, ◌+◌, Option, Some, unwrap_or, refl, ap, ap₂, sym, ◌∙◌, subst, append_assoc, append-nil}
use Rattle.std.specs.Str.{bytes_eq}
use Rattle.std.specs.Ordering.{nat_cmp}
use Rattle.std.specs.Cmp.{unsigned_ties}
use Rattle.std.specs.Cmp.Lexicographic.{slice_cmp, lists_ties, nat_list_eq_equiv}
use Rattle.std.specs.BTreeMap.{is_at}
use Rattle.std.proofs.lemmas.Slice.Eq.{bytes_eq-Decides}
use Rattle.std.proofs.lemmas.List.Folds.{list_any-append}
use Rattle.object_model.specs.Trees.{stands_in}
use Rattle.cow_tree.specs.Views.{NodeView}
use Rattle.cow_tree.specs.Rows.{names_in}
use Rattle.cow_tree.proofs.Differing.{taken_next}
use Rattle.std.specs.Map.{lookup}
use Rattle.object_fold.specs.Views.{AddedView, StringsView}
use Rattle.object_fold.specs.Added.{is_among, HasJust, first_named, TakesNew, strings_at, AddsStrings, AddsUnder}
use Rattle.object_fold.proofs.ShelfLemmas.{label_test}

-- ---- lists of names

-- a name that is known stays so beside another
or_known : (a b : Bool) → b ≡ true → (a || b) ≡ true
or_known true b e = refl
or_known false b e = e

or_other : (a b : Bool) → (a ≡ true → b ≡ true) → (a || b) ≡ b
or_other true b e = sym (e refl)
or_other false b e = refl

or_nothing : (a : Bool) → (a || false) ≡ a
or_nothing true = refl
or_nothing false = refl

or_turned : (a b c : Bool) → (a || (b || c)) ≡ (b || (a || c))
or_turned true true c = refl
or_turned true false c = refl
or_turned false b c = refl

or_thrice : (a b c : Bool) → ((a || b) || c) ≡ (b || (a || c))
or_thrice true true c = refl
or_thrice true false c = refl
or_thrice false b c = refl

pub stands_append : (name : List ℕ) (xs ys : List (List ℕ)) → stands_in name (xs ++ ys) ≡ (stands_in name xs || stands_in name ys)
stands_append name xs ys = list_any-append (bytes_eq name) xs ys

-- a name of a known one is known
as_known : (name other : List ℕ) (known : List (List ℕ)) → stands_in other known ≡ true → bytes_eq name other ≡ true → stands_in name known ≡ true
as_known name other known e same = ap (λ x. stands_in x known) ((bytes_eq-Decides name other).0 same) ∙ e

-- beside the known names all names stand where the new ones do
pub all_stand : (name : List ℕ) (known : List (List ℕ)) (ns : List NodeView) → stands_in name (known ++ names_in (first_named known ns)) ≡ stands_in name (known ++ names_in ns)
all_stand name known [] = refl
all_stand name known (n ∷ ns) = by (all_stand name known ns) (all_stand name (n.name ∷ known) ns) (stands_in n.name known) refl
  where
    by : stands_in name (known ++ names_in (first_named known ns)) ≡ stands_in name (known ++ names_in ns)
        → stands_in name ((n.name ∷ known) ++ names_in (first_named (n.name ∷ known) ns)) ≡ stands_in name ((n.name ∷ known) ++ names_in ns)
        → (b : Bool) → stands_in n.name known ≡ b
        → stands_in name (known ++ names_in (cond b (first_named known ns) (n ∷ first_named (n.name ∷ known) ns))) ≡ stands_in name (known ++ n.name ∷ names_in ns)
    by there here true is =
        there ∙ stands_append name known (names_in ns)
        ∙ ap (λ b. b || stands_in name (names_in ns)) (sym (or_other (bytes_eq name n.name) (stands_in name known) (as_known name n.name known is)))
        ∙ or_thrice (bytes_eq name n.name) (stands_in name known) (stands_in name (names_in ns))
        ∙ sym (stands_append name known (n.name ∷ names_in ns))
    by there here false is =
        stands_append name known (n.name ∷ names_in (first_named (n.name ∷ known) ns))
        ∙ or_turned (stands_in name known) (bytes_eq name n.name) (stands_in name (names_in (first_named (n.name ∷ known) ns)))
        ∙ ap (λ b. bytes_eq name n.name || b) (sym (stands_append name known (names_in (first_named (n.name ∷ known) ns))))
        ∙ here
        ∙ ap (λ b. bytes_eq name n.name || b) (stands_append name known (names_in ns))
        ∙ or_turned (bytes_eq name n.name) (stands_in name known) (stands_in name (names_in ns))
        ∙ sym (stands_append name known (n.name ∷ names_in ns))

-- one node more
pub first_last : (known : List (List ℕ)) (ns : List NodeView) (n : NodeView) → first_named known (ns ++ n ∷ []) ≡ first_named known ns ++ cond (stands_in n.name (known ++ names_in ns)) [] (n ∷ [])
first_last known [] n = ap (λ names. cond (stands_in n.name names) [] (n ∷ [])) (sym (append-nil known))
first_last known (m ∷ ns) n = by (first_last known ns n) (first_last (m.name ∷ known) ns n) (stands_in m.name known) refl
  where
    by : first_named known (ns ++ n ∷ []) ≡ first_named known ns ++ cond (stands_in n.name (known ++ names_in ns)) [] (n ∷ [])
        → first_named (m.name ∷ known) (ns ++ n ∷ []) ≡ first_named (m.name ∷ known) ns ++ cond (stands_in n.name ((m.name ∷ known) ++ names_in ns)) [] (n ∷ [])
        → (b : Bool) → stands_in m.name known ≡ b
        → cond b (first_named known (ns ++ n ∷ [])) (m ∷ first_named (m.name ∷ known) (ns ++ n ∷ [])) ≡ cond b (first_named known ns) (m ∷ first_named (m.name ∷ known) ns) ++ cond (stands_in n.name (known ++ m.name ∷ names_in ns)) [] (n ∷ [])
    by there here true is =
        there
        ∙ ap (λ b. first_named known ns ++ cond b [] (n ∷ []))
        (stands_append n.name known (names_in ns) ∙ ap (λ b. b || stands_in n.name (names_in ns)) (sym (or_other (bytes_eq n.name m.name) (stands_in n.name known) (as_known n.name m.name known is)))
        ∙ or_thrice (bytes_eq n.name m.name) (stands_in n.name known) (stands_in n.name (names_in ns)) ∙ sym (stands_append n.name known (m.name ∷ names_in ns)))
    by there here false is =
        ap (λ r. m ∷ r) here
        ∙ ap (λ b. (m ∷ first_named (m.name ∷ known) ns) ++ cond b [] (n ∷ []))
        (ap (λ b. bytes_eq n.name m.name || b) (stands_append n.name known (names_in ns)) ∙ or_turned (bytes_eq n.name m.name) (stands_in n.name known) (stands_in n.name (names_in ns)) ∙ sym (stands_append n.name known (m.name ∷ names_in ns)))

-- ---- ordered sets of names

-- two names are compared by their bytes
same_test : (name other : List ℕ) → is_at (slice_cmp nat_cmp name) other ≡ bytes_eq other name
same_test name other = sym (lists_ties nat_cmp unsigned_ties name other) ∙ nat_list_eq_equiv.symm name other

names_as_kept : (name : List ℕ) (names : List (List ℕ)) → is_among name names ≡ stands_in name names
names_as_kept name [] = refl
names_as_kept name (other ∷ names) = ap₂ (λ a b. a || b) (same_test name other ∙ nat_list_eq_equiv.symm other name) (names_as_kept name names)

-- a list of names as a set
pub just_names : (names : List (List ℕ)) → HasJust names names
just_names names name = names_as_kept name names

pub just_none : (kept : List (List ℕ)) → kept ≡ [] → HasJust kept []
just_none kept none name = ap (is_among name) none

-- two sets that have the names of one list
pub just_both : (a b names known : List (List ℕ)) → HasJust a names → HasJust b names → HasJust b known → HasJust a known
just_both a b names known is are just name = is name ∙ sym (are name) ∙ just name

put_last : (a b : Bool) → cond a true b ≡ (b || (a || false))
put_last true true = refl
put_last true false = refl
put_last false true = refl
put_last false false = refl

-- a set with one name more
pub just_more : (old new names : List (List ℕ)) (name : List ℕ) → ((other : List ℕ) → is_among other new ≡ cond (is_at (slice_cmp nat_cmp name) other) true (is_among other old)) → HasJust old names → HasJust new (names ++ name ∷ [])
just_more old new names name more just other =
    more other ∙ ap₂ (λ a b. cond a true b) (same_test name other) (just other)
    ∙ put_last (bytes_eq other name) (stands_in other names) ∙ sym (stands_append other names (name ∷ []))

names_append : (xs ys : List NodeView) → names_in (xs ++ ys) ≡ names_in xs ++ names_in ys
names_append [] ys = refl
names_append (n ∷ xs) ys = ap (λ r. n.name ∷ r) (names_append xs ys)

not_back : (a b : Bool) → a ≡ not b → b ≡ not a
not_back a true e = ap not (sym e)
not_back a false e = ap not (sym e)

-- what was taken of the nodes up to a place
abbrev pub TakenUpTo : List (List ℕ) → List (List ℕ) → List NodeView → ℕ → List NodeView → Type 0
TakenUpTo start kept ns k taken = TakesNew start kept (take k ns) taken

-- the next node, whose name is put into the set
pub taken_more : (start old new : List (List ℕ)) (ns : List NodeView) (k : ℕ) (n : NodeView) (taken more : List NodeView) (added : Bool) → k < length ns → n ≡ get_or ns k n
    → ((other : List ℕ) → is_among other new ≡ cond (is_at (slice_cmp nat_cmp n.name) other) true (is_among other old)) → added ≡ not (is_among n.name old)
    → more ≡ taken ++ cond added (n ∷ []) [] → TakenUpTo start old ns k taken → TakenUpTo start new ns (k + 1) more
taken_more start old new ns k n taken more added within at puts told is before known just =
    let next : take (k + 1) ns ≡ take k ns ++ n ∷ [] = (taken_next ns k n within at).0 in
    let b = before known just in
    let names : known ++ names_in (take (k + 1) ns) ≡ (known ++ names_in (take k ns)) ++ n.name ∷ [] =
    ap (λ xs. known ++ names_in xs) next ∙ ap (λ xs. known ++ xs) (names_append (take k ns) (n ∷ [])) ∙ sym (append_assoc known (names_in (take k ns)) (n.name ∷ [])) in
    let unseen : stands_in n.name (known ++ names_in (take k ns)) ≡ not added = sym (b.0 n.name) ∙ not_back added (is_among n.name old) told in (
      subst (HasJust new) (sym names) (just_more old new (known ++ names_in (take k ns)) n.name puts b.0),
      is ∙ ap₂ (λ xs ys. xs ++ ys) b.1 (chosen added ∙ ap (λ t. cond t [] (n ∷ [])) (sym unseen)) ∙ sym (first_last known (take k ns) n) ∙ ap (first_named known) (sym next),
    )
  where
    chosen : (b : Bool) → cond b (n ∷ []) [] ≡ cond (not b) [] (n ∷ [])
    chosen true = refl
    chosen false = refl

pub taken_none : (start : List (List ℕ)) (ns taken : List NodeView) → taken ≡ [] → TakenUpTo start start ns 0 taken
taken_none start ns taken none known just = (subst (HasJust start) (sym (append-nil known)) just, none)

-- ---- strings under labels

-- what a map that has one entry more, or another one in its place, has at a label
abbrev HasEntry : List (List ℕ × StringsView) → List (List ℕ × StringsView) → List ℕ → StringsView → Type 0
HasEntry old new label strings =
    (other : List ℕ) → lookup (is_at (slice_cmp nat_cmp other)) new ≡ cond (is_at (slice_cmp nat_cmp label) other) (Some strings) (lookup (is_at (slice_cmp nat_cmp other)) old)

put_under : (old : AddedView) (new : List (List ℕ × StringsView)) (label : List ℕ) (changed : List NodeView) (strings : StringsView) → HasEntry old.later new label strings
    → AddsStrings (strings_at old label) strings changed → AddsUnder old (record { first = old.first; later = new }) label changed
put_under old new label changed strings has adds = record {
  first = refl;
  own =
      let own : strings_at (record { first = old.first; later = new }) label ≡ strings =
      ap (λ (o : Option StringsView). unwrap_or o (record { names = names_in old.first; added = [] })) (has label ∙ ap (λ b. cond b (Some strings) (lookup (is_at (slice_cmp nat_cmp label)) old.later)) (sym (label_test label label) ∙ (bytes_eq-Decides label label).1 refl)) in
      subst (λ s. AddsStrings (strings_at old label) s changed) (sym own) adds;
  others = λ other apart.
      ap (λ (o : Option StringsView). unwrap_or o (record { names = names_in old.first; added = [] })) (has other ∙ ap (λ b. cond b (Some strings) (lookup (is_at (slice_cmp nat_cmp other)) old.later)) (sym (label_test label other) ∙ apart));
}

-- the strings of a label with more beside them
pub adds_there : (old : AddedView) (new : List (List ℕ × StringsView)) (label : List ℕ) (changed : List NodeView) (before strings : StringsView) → HasEntry old.later new label strings
    → Some before ≡ lookup (is_at (slice_cmp nat_cmp label)) old.later → AddsStrings before strings changed → AddsUnder old (record { first = old.first; later = new }) label changed
adds_there old new label changed before strings has there adds =
    put_under old new label changed strings has
    (subst (λ s. AddsStrings s strings changed) (ap (λ (o : Option StringsView). unwrap_or o (record { names = names_in old.first; added = [] })) there) adds)

-- the first strings of a label beside those of version 0
pub adds_first : (old : AddedView) (new : List (List ℕ × StringsView)) (label : List ℕ) (changed : List NodeView) (before strings : StringsView) → HasEntry old.later new label strings
    → strings_at old label ≡ record { names = names_in old.first; added = [] } → HasJust before.names (names_in old.first) → before.added ≡ [] → AddsStrings before strings changed → AddsUnder old (record { first = old.first; later = new }) label changed
adds_first old new label changed before strings has none just empty adds =
    put_under old new label changed strings has
    (subst (λ s. AddsStrings s strings changed) (sym none) (record {
      names = λ known is. adds.names known (just_both before.names (names_in old.first) (names_in old.first) known just (just_names (names_in old.first)) is);
      added = λ known is. adds.added known (just_both before.names (names_in old.first) (names_in old.first) known just (just_names (names_in old.first)) is) ∙ ap (λ lists. lists ++ first_named known changed ∷ []) empty;
    }))
