-- The entries of one object stand together.
use Rattle.std.proofs.Common.{◌≡◌, ℕ, Bool, true, false, cond, ◌&&◌, List, [], ◌∷◌, Option, Some, None, refl, ap, sym, ◌∙◌, bytes_eq, arith}
use Rattle.std.specs.List.{All, AllByRecursion, filter}
use Rattle.std.specs.List.Sorted.{IsStrictlySortedBy}
use Rattle.std.specs.Map.{keys_of}
use Rattle.std.specs.Ordering.{nat_cmp, is_le, is_eq, ordering_then, ordering_reverse}
use Rattle.std.specs.declared.cmp.Ordering.{Ordering}
use Rattle.std.specs.declared.cmp.Ordering.TheVariants.{Less, Equal, Greater}
use Rattle.std.specs.Cmp.Lexicographic.{slice_cmp}
use Rattle.std.specs.BTreeMap.{BTreeMap, IsOrdered}
use Rattle.std.specs.BTreeMap.Range.{range_contains}
use Rattle.std.specs.declared.ops.Bound.TheVariants.{Included, Unbounded}
use Rattle.std.proofs.lemmas.Cmp.{nat_list_cmp_total, tied_itself}
use Rattle.std.proofs.lemmas.Bool.Decides.{nat_tests}
use Rattle.std.proofs.lemmas.Option.{slice_get-get_or}
use Rattle.std.proofs.lemmas.Map.Entries.{btree_map_get_place}
use Rattle.std.proofs.lemmas.Map.Keys.{sorted_head, sorted_tail}
use Rattle.std.proofs.lemmas.Map.Text.{is_eq-slice_cmp}
use Rattle.std.proofs.lemmas.Slice.Eq.{bytes_eq-Decides}
use Rattle.pond_base.specs.declared.numbers.Version.{Version}
use Rattle.heartbeat.specs.declared.entry.Entry.{Entry}
use Rattle.heartbeat.specs.Votes.{later_value}
use Rattle.heartbeat.specs.Boards.{Key, key_cmp, key_of, kept_at}
use Rattle.heartbeat.specs.Newest.{newest_among}
use Rattle.heartbeat.proofs.Keys.{key_total}

-- the latest of what was found before and of the entries up to the first of another object
abbrev pub newest_along : List ℕ → Option (Version × List ℕ) → List (Key × Entry) → Option (Version × List ℕ)
newest_along object before [] = before
newest_along object before (e ∷ es) = cond (bytes_eq e.0.0 object) (newest_along object (later_value before e.0.1 e.1.accepted) es) before

-- whether a key is at an object's first or later
abbrev is_from : List ℕ → Key → Bool
is_from o k = range_contains key_cmp (Included (key_of o 0)) Unbounded k

from_is : (o : List ℕ) (k : Key) → is_from o k ≡ is_le (key_cmp (key_of o 0) k)
from_is o k = each (is_le (key_cmp (key_of o 0) k))
  where
    each : (b : Bool) → (b && true) ≡ b
    each true = refl
    each false = refl

-- no number is below 0
zero_least : (n : ℕ) → is_le (nat_cmp 0 n) ≡ true
zero_least n = grind (arith, nat_tests)

-- an object's keys are from its first
from_own : (o : List ℕ) (k : Key) → is_from o k ≡ false → bytes_eq k.0 o ≡ false
from_own o k e = each (bytes_eq k.0 o) refl
  where
    each : (b : Bool) → bytes_eq k.0 o ≡ b → b ≡ false
    each false t = refl
    each true t =
        let tie : slice_cmp nat_cmp o k.0 ≡ Equal = ap (slice_cmp nat_cmp o) ((bytes_eq-Decides k.0 o).0 t) ∙ tied_itself nat_list_cmp_total o in
        absurd (cc (sym e ∙ from_is o k ∙ ap (λ c. is_le (ordering_then c (nat_cmp 0 k.1.0))) tie ∙ zero_least k.1.0))

-- of two keys that are not of one object, one alone can come first
one_first : (a b c : Ordering) → is_eq a ≡ false → ordering_then a b ≡ Less → is_le (ordering_then (ordering_reverse a) c) ≡ true → ⊥
one_first Less b c e f g = absurd (cc g)
one_first Equal b c e f g = absurd (cc e)
one_first Greater b c e f g = absurd (cc f)

-- a key after one of another object that is from an object's first is not of that object
none_after : (o : List ℕ) (k l : Key) → is_from o k ≡ true → bytes_eq k.0 o ≡ false → key_cmp k l ≡ Less → bytes_eq l.0 o ≡ false
none_after o k l e f g = each (bytes_eq l.0 o) refl
  where
    each : (b : Bool) → bytes_eq l.0 o ≡ b → b ≡ false
    each false t = refl
    each true t =
        absurd (one_first (slice_cmp nat_cmp k.0 o) (nat_cmp k.1.0 l.1.0) (nat_cmp 0 k.1.0) (is_eq-slice_cmp k.0 o ∙ f)
        (ap (λ n. ordering_then (slice_cmp nat_cmp k.0 n) (nat_cmp k.1.0 l.1.0)) (sym ((bytes_eq-Decides l.0 o).0 t)) ∙ g)
        (ap (λ c. is_le (ordering_then c (nat_cmp 0 k.1.0))) (sym (nat_list_cmp_total.antisymm o k.0)) ∙ sym (from_is o k) ∙ e))

-- the entries after it leave what was found
others_leave : (o : List ℕ) (k : Key) → is_from o k ≡ true → bytes_eq k.0 o ≡ false → (before : Option (Version × List ℕ)) (es : List (Key × Entry)) → AllByRecursion (λ l. key_cmp k l ≡ Less) (keys_of es)
    → newest_among o before es ≡ before
others_leave o k f t before [] after = refl
others_leave o k f t before (e ∷ es) after =
    ap (λ b. newest_among o (later_value before e.0.1 (cond b e.1.accepted None)) es) (none_after o k e.0 f t after.0)
    ∙ others_leave o k f t before es after.1

-- what is found from an object's first key on, up to another object, is what is found among all
pub along_own : (o : List ℕ) (before : Option (Version × List ℕ)) (es : List (Key × Entry)) → IsStrictlySortedBy key_cmp (keys_of es)
    → newest_along o before (filter (λ e. is_from o e.0) es) ≡ newest_among o before es
along_own o before [] s = refl
along_own o before (e ∷ es) s = each (is_from o e.0) (bytes_eq e.0.0 o) refl refl (λ b. along_own o b es (sorted_tail key_cmp e.0 (keys_of es) s))
  where
    later : Option (Version × List ℕ)
    later = later_value before e.0.1 e.1.accepted

    each : (a b : Bool) → is_from o e.0 ≡ a → bytes_eq e.0.0 o ≡ b → ((b : Option (Version × List ℕ)) → newest_along o b (filter (λ e. is_from o e.0) es) ≡ newest_among o b es)
        → newest_along o before (cond a (e ∷ filter (λ e. is_from o e.0) es) (filter (λ e. is_from o e.0) es)) ≡ newest_among o (later_value before e.0.1 (cond b e.1.accepted None)) es
    each true true f t rest = ap (λ b. cond b (newest_along o later (filter (λ e. is_from o e.0) es)) before) t ∙ rest later
    each true false f t rest =
        ap (λ b. cond b (newest_along o later (filter (λ e. is_from o e.0) es)) before) t
        ∙ sym (others_leave o e.0 f t before es (sorted_head key_cmp e.0 (keys_of es) s))
    each false true f t rest = absurd (cc (sym t ∙ from_own o e.0 f))
    each false false f t rest = rest before

-- a map in order finds each of its entries
pub all_found : (m : BTreeMap Key Entry) → IsOrdered key_cmp m → All (λ e. kept_at m.entries e.0 ≡ Some e.1) m.entries
all_found m s k d l = btree_map_get_place key_total m k _ _ s (slice_get-get_or m.entries k d l)
