-- What a store offers after each change.
use Rattle.std.proofs.Common.{◌≡◌, ℕ, ◌+◌, ◌≤◌, Bool, true, false, List, [], ◌∷◌, Option, Some, None, length, cond, if◌then◌else◌, refl, ap, sym, ◌∙◌, arith}
use Rattle.std.specs.Option.{is_some, option_map}
use Rattle.std.specs.Str.{bytes_eq}
use Rattle.std.specs.Ordering.{nat_cmp, is_eq, match_ordering}
use Rattle.std.specs.declared.cmp.Ordering.{Ordering}
use Rattle.std.specs.declared.cmp.Ordering.TheVariants.{Less, Equal, Greater}
use Rattle.std.specs.Cmp.Lexicographic.{slice_cmp, nat_list_cmp_total}
use Rattle.std.specs.List.{AllByRecursion}
use Rattle.std.specs.List.Sorted.{IsStrictlySortedBy}
use Rattle.std.specs.Map.{keys_of}
use Rattle.std.specs.BTreeMap.{is_at}
use Rattle.std.proofs.lemmas.Map.Text.{is_eq-slice_cmp}
use Rattle.std.proofs.lemmas.Map.Made.{lookup-map_values}
use Rattle.std.proofs.lemmas.Slice.Eq.{bytes_eq-Decides}
use Rattle.fragment_store.specs.Pairs.{Pairs, AreOrdered, offered, replaced, placed, spoiled, spoil_all}

abbrev at : List ℕ → List ℕ → Bool
at other name = is_at (slice_cmp nat_cmp other) name

same_name : (a b : List ℕ) → at a b ≡ true → a ≡ b
same_name a b e = (bytes_eq-Decides a b).0 (sym (is_eq-slice_cmp a b) ∙ e)

own_name : (a : List ℕ) → bytes_eq a a ≡ true
own_name a = (bytes_eq-Decides a a).1 refl

cond_twice : (b : Bool) (x y : List ℕ) (o : Option (List ℕ)) → cond b (Some x) o ≡ cond b (Some x) (cond b (Some y) o)
cond_twice true x y o = refl
cond_twice false x y o = refl

cond_swap : (a b : Bool) (x y : List ℕ) (o : Option (List ℕ)) → (a ≡ true → b ≡ true → ⊥) → cond a (Some x) (cond b (Some y) o) ≡ cond b (Some y) (cond a (Some x) o)
cond_swap true true x y o n = absurd (n refl refl)
cond_swap true false x y o n = refl
cond_swap false b x y o n = refl

not_greater : (a b : List ℕ) → slice_cmp nat_cmp a b ≡ Greater → a ≡ b → ⊥
not_greater a b e same =
    let found : is_eq (slice_cmp nat_cmp a b) ≡ true = is_eq-slice_cmp a b ∙ ap (bytes_eq a) (sym same) ∙ own_name a in
    let lost : is_eq (slice_cmp nat_cmp a b) ≡ false = ap is_eq e in
    absurd (cc)

-- what a pair more offers, by how its name compares with that of the first pair
insert_first : (p : List ℕ × List ℕ) (pairs more : Pairs) (name bytes other : List ℕ) (o : Ordering) → slice_cmp nat_cmp name p.0 ≡ o → offered more other ≡ cond (at other name) (Some bytes) (offered pairs other)
    → offered (match_ordering o ((name, bytes) ∷ p ∷ pairs) ((p.0, bytes) ∷ pairs) (p ∷ more)) other ≡ cond (at other name) (Some bytes) (offered (p ∷ pairs) other)
insert_first p pairs more name bytes other Less e rest = refl
insert_first p pairs more name bytes other Equal e rest =
    let same : name ≡ p.0 = same_name name p.0 (ap is_eq e) in
    cond_twice (at other p.0) bytes p.1 (offered pairs other) ∙ ap (λ n. cond (at other n) (Some bytes) (offered (p ∷ pairs) other)) (sym same)
insert_first p pairs more name bytes other Greater e rest =
    ap (cond (at other p.0) (Some p.1)) rest
    ∙ cond_swap (at other p.0) (at other name) p.1 bytes (offered pairs other) (λ f g. not_greater name p.0 e (sym (same_name other name g) ∙ same_name other p.0 f))

insert_offers : (pairs : Pairs) (name bytes other : List ℕ) → offered (replaced pairs name bytes) other ≡ cond (at other name) (Some bytes) (offered pairs other)
insert_offers [] name bytes other = refl
insert_offers (p ∷ pairs) name bytes other =
    insert_first p pairs (replaced pairs name bytes) name bytes other (slice_cmp nat_cmp name p.0) refl (insert_offers pairs name bytes other)

pub replaced_offers_so : (pairs : Pairs) (name bytes other : List ℕ) → offered (replaced pairs name bytes) other ≡ (if bytes_eq other name then Some bytes else offered pairs other)
replaced_offers_so pairs name bytes other = insert_offers pairs name bytes other ∙ ap (λ b. cond b (Some bytes) (offered pairs other)) (is_eq-slice_cmp other name)

-- a name at which nothing stood has nothing or the new string
placed_free : (pairs : Pairs) (name bytes other : List ℕ) (o : Option (List ℕ)) → offered pairs name ≡ None → offered pairs other ≡ o
    → (if bytes_eq other name then Some bytes else o) ≡ (if is_some o then o else if bytes_eq other name then Some bytes else None)
placed_free pairs name bytes other None free is = refl
placed_free pairs name bytes other (Some x) free is = taken (bytes_eq other name) refl where
  taken : (b : Bool) → bytes_eq other name ≡ b → (if b then Some bytes else Some x) ≡ Some x
  taken true e = let same : other ≡ name = (bytes_eq-Decides other name).0 e in let both : offered pairs name ≡ Some x = ap (offered pairs) (sym same) ∙ is in absurd (cc)
  taken false e = refl

placed_taken : (pairs : Pairs) (name bytes other x : List ℕ) (o : Option (List ℕ)) → offered pairs name ≡ Some x → offered pairs other ≡ o
    → o ≡ (if is_some o then o else if bytes_eq other name then Some bytes else None)
placed_taken pairs name bytes other x (Some y) there is = refl
placed_taken pairs name bytes other x None there is = free (bytes_eq other name) refl where
  free : (b : Bool) → bytes_eq other name ≡ b → None ≡ (if b then Some bytes else None)
  free true e = let same : other ≡ name = (bytes_eq-Decides other name).0 e in let both : offered pairs name ≡ None = ap (offered pairs) (sym same) ∙ is in absurd (cc)
  free false e = refl

placed_by : (pairs : Pairs) (name bytes other : List ℕ) (o : Option (List ℕ)) → offered pairs name ≡ o
    → offered (if is_some o then pairs else replaced pairs name bytes) other ≡ (if is_some (offered pairs other) then offered pairs other else if bytes_eq other name then Some bytes else None)
placed_by pairs name bytes other None e = replaced_offers_so pairs name bytes other ∙ placed_free pairs name bytes other (offered pairs other) e refl
placed_by pairs name bytes other (Some x) e = placed_taken pairs name bytes other x (offered pairs other) e refl

pub placed_offers_so : (pairs : Pairs) (name bytes other : List ℕ)
    → offered (placed pairs name bytes) other ≡ (if is_some (offered pairs other) then offered pairs other else if bytes_eq other name then Some bytes else None)
placed_offers_so pairs name bytes other = placed_by pairs name bytes other (offered pairs name) refl

-- a pair more where none has the name
count_first : (p : List ℕ × List ℕ) (pairs more : Pairs) (name bytes : List ℕ) (o : Ordering) → slice_cmp nat_cmp name p.0 ≡ o → cond (is_eq o) (Some p.1) (offered pairs name) ≡ None → (offered pairs name ≡ None → length more ≡ length pairs + 1)
    → length (match_ordering o ((name, bytes) ∷ p ∷ pairs) ((p.0, bytes) ∷ pairs) (p ∷ more)) ≡ length (p ∷ pairs) + 1
count_first p pairs more name bytes Less e free rest = omega arith
count_first p pairs more name bytes Equal e free rest = absurd (cc)
count_first p pairs more name bytes Greater e free rest = omega (arith, rest free)

insert_counts : (pairs : Pairs) (name bytes : List ℕ) → offered pairs name ≡ None → length (replaced pairs name bytes) ≡ length pairs + 1
insert_counts [] name bytes free = omega arith
insert_counts (p ∷ pairs) name bytes free =
    count_first p pairs (replaced pairs name bytes) name bytes (slice_cmp nat_cmp name p.0) refl free (insert_counts pairs name bytes)

counts_by : (pairs : Pairs) (name bytes : List ℕ) (o : Option (List ℕ)) → offered pairs name ≡ o → length (if is_some o then pairs else replaced pairs name bytes) ≡ (if is_some o then length pairs else length pairs + 1)
counts_by pairs name bytes None e = insert_counts pairs name bytes e
counts_by pairs name bytes (Some x) e = refl

pub placed_counts_so : (pairs : Pairs) (name bytes : List ℕ) → length (placed pairs name bytes) ≡ (if is_some (offered pairs name) then length pairs else length pairs + 1)
placed_counts_so pairs name bytes = counts_by pairs name bytes (offered pairs name) refl

pub spoiled_offers_so : (pairs : Pairs) (name : List ℕ) → offered (spoil_all pairs) name ≡ option_map spoiled (offered pairs name)
spoiled_offers_so pairs name = lookup-map_values spoiled (is_at (slice_cmp nat_cmp name)) pairs

pub spoiled_counts_so : (pairs : Pairs) → length (spoil_all pairs) ≡ length pairs
spoiled_counts_so [] = refl
spoiled_counts_so (p ∷ pairs) = omega (arith, spoiled_counts_so pairs)

-- at most one string more
longer_first : (p : List ℕ × List ℕ) (pairs more : Pairs) (name bytes : List ℕ) (o : Ordering) → length more ≤ length pairs + 1
    → length (match_ordering o ((name, bytes) ∷ p ∷ pairs) ((p.0, bytes) ∷ pairs) (p ∷ more)) ≤ length (p ∷ pairs) + 1
longer_first p pairs more name bytes Less rest = omega arith
longer_first p pairs more name bytes Equal rest = omega arith
longer_first p pairs more name bytes Greater rest = omega (arith, rest)

pub one_longer : (pairs : Pairs) (name bytes : List ℕ) → length (replaced pairs name bytes) ≤ length pairs + 1
one_longer [] name bytes = omega arith
one_longer (p ∷ pairs) name bytes = longer_first p pairs (replaced pairs name bytes) name bytes (slice_cmp nat_cmp name p.0) (one_longer pairs name bytes)

-- a name below all others has no string
below_none : (pairs : Pairs) (name first : List ℕ) → slice_cmp nat_cmp name first ≡ Less → AllByRecursion (λ k. slice_cmp nat_cmp first k ≡ Less) (keys_of pairs) → offered pairs name ≡ None
below_none [] name first e all = refl
below_none (p ∷ pairs) name first e all =
    let low : slice_cmp nat_cmp name p.0 ≡ Less = nat_list_cmp_total.trans name first p.0 e all.0 in
    ap (λ o. cond (is_eq o) (Some p.1) (offered pairs name)) low ∙ below_none pairs name first e all.1

again_first : (p : List ℕ × List ℕ) (pairs more : Pairs) (name bytes : List ℕ) (o : Ordering) → slice_cmp nat_cmp name p.0 ≡ o → AllByRecursion (λ k. slice_cmp nat_cmp p.0 k ≡ Less) (keys_of pairs)
    → (offered pairs name ≡ Some bytes → more ≡ pairs) → cond (is_eq o) (Some p.1) (offered pairs name) ≡ Some bytes
    → match_ordering o ((name, bytes) ∷ p ∷ pairs) ((p.0, bytes) ∷ pairs) (p ∷ more) ≡ p ∷ pairs
again_first p pairs more name bytes Less e above rest there = let none : offered pairs name ≡ None = below_none pairs name p.0 e above in absurd (cc)
again_first p pairs more name bytes Equal e above rest there = let same : p.1 ≡ bytes = cc in ap (λ b. (p.0, b) ∷ pairs) (sym same)
again_first p pairs more name bytes Greater e above rest there = ap (λ t. p ∷ t) (rest there)

pub replaced_again_so : (pairs : Pairs) (name bytes : List ℕ) → AreOrdered pairs → offered pairs name ≡ Some bytes → replaced pairs name bytes ≡ pairs
unfolding IsStrictlySortedBy
replaced_again_so [] name bytes sorted there = absurd (cc)
replaced_again_so (p ∷ pairs) name bytes sorted there =
    again_first p pairs (replaced pairs name bytes) name bytes (slice_cmp nat_cmp name p.0) refl sorted.0 (replaced_again_so pairs name bytes sorted.1) there
