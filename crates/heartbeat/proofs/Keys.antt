-- Keys, and what is kept for them.
use Rattle.std.proofs.Common.{◌≡◌, ℕ, Bool, true, false, cond, ◌==◌, ◌&&◌, List, [], ◌∷◌, Some, refl, ap, sym, ◌∙◌, arith, bytes_eq}
use Rattle.std.specs.Ordering.{nat_cmp, is_eq, ordering_then}
use Rattle.std.specs.declared.cmp.Ordering.{Ordering}
use Rattle.std.specs.declared.cmp.Ordering.TheVariants.{Less, Equal, Greater}
use Rattle.std.specs.Cmp.{IsTotalOrder}
use Rattle.std.specs.Cmp.Lexicographic.{slice_cmp}
use Rattle.std.specs.BTreeMap.{is_at}
use Rattle.std.specs.FinMap.{find, get, from_entries, get-from_entries}
use Rattle.std.proofs.lemmas.Cmp.{then_total, on_total, nat_list_cmp_total, nat_cmp_total}
use Rattle.std.proofs.lemmas.Map.Text.{is_eq-slice_cmp}
use Rattle.std.proofs.lemmas.Slice.Eq.{bytes_eq-Decides}
use Rattle.std.proofs.lemmas.Bool.Decides.{nat_tests}
use Rattle.heartbeat.specs.declared.entry.Entry.{Entry}
use Rattle.heartbeat.specs.Boards.{Key, key_cmp, key_of, kept_at, Board, Entries, kept}

is_eq_then : (a b : Ordering) → is_eq (ordering_then a b) ≡ (is_eq a && is_eq b)
is_eq_then Less b = refl
is_eq_then Equal b = refl
is_eq_then Greater b = refl

tie : (v w : ℕ) → is_eq (nat_cmp v w) ≡ (v == w)
tie v w = grind (arith, nat_tests)

-- keys tie where the object and the version are the same
pub key_ties : (o p : List ℕ) (v w : ℕ) → is_at (key_cmp (key_of o v)) (key_of p w) ≡ (bytes_eq o p && v == w)
key_ties o p v w =
    is_eq_then (slice_cmp nat_cmp o p) (nat_cmp v w)
    ∙ ap (λ b. b && is_eq (nat_cmp v w)) (is_eq-slice_cmp o p)
    ∙ ap (λ b. bytes_eq o p && b) (tie v w)

-- and then they are one key
pub same_key : (o p : List ℕ) (v w : ℕ) → (bytes_eq o p && v == w) ≡ true → key_of o v ≡ key_of p w
same_key o p v w e = each (bytes_eq o p) (v == w) refl refl e
  where
    each : (a b : Bool) → bytes_eq o p ≡ a → (v == w) ≡ b → (a && b) ≡ true → key_of o v ≡ key_of p w
    each true true s t e = let numbers : v ≡ w = grind (arith, nat_tests, t) in ap (λ x. key_of x v) ((bytes_eq-Decides o p).0 s) ∙ ap (key_of p) numbers
    each true false s t e = absurd (cc e)
    each false b s t e = absurd (cc e)

pub key_total : IsTotalOrder key_cmp
key_total = then_total (on_total (λ (k : Key). k.0) nat_list_cmp_total) (on_total (λ (k : Key). k.1.0) nat_cmp_total)

find_is : (es : List (Key × Entry)) (k : Key) → find key_cmp k es ≡ kept_at es k
find_is [] k = refl
find_is (e ∷ es) k = ap (cond (is_at (key_cmp k) e.0) (Some e.1)) (find_is es k)

-- what a map of entries has is what the entries have
pub get_kept : (es : List (Key × Entry)) (k : Key) → get (from_entries {R = key_cmp} es) k ≡ kept_at es k
get_kept es k = get-from_entries key_total es k ∙ find_is es k

-- what a board of these entries keeps
pub kept_is : (b : Board) (es : List (Key × Entry)) → from_entries es ≡ b.entries → (o : List ℕ) (v : ℕ) → kept b o v ≡ kept_at es (key_of o v)
kept_is b es same o v = ap (λ (m : Entries). get m (key_of o v)) (sym same) ∙ get_kept es (key_of o v)
