-- The map that the entries of a tree of names make.
use Rattle.std.proofs.Common.{◌≡◌, ℕ, List, [], ◌∷◌, Option, Some, None, Bool, true, false, IsSome, IsTrue, ◌↔◌, is_some, cond, refl, ap, sym, subst, ◌∙◌}
use Rattle.block_names.specs.Held.{Held, IsNamed, with_first}
use Rattle.block_names.specs.Growth.{IsFree}
use Rattle.std.specs.Ordering.{nat_cmp, is_eq, eq_by_cmp}
use Rattle.std.specs.declared.cmp.Ordering.{Ordering}
use Rattle.std.specs.declared.cmp.Ordering.TheVariants.{Less, Equal, Greater}
use Rattle.std.specs.Cmp.Lexicographic.{slice_cmp}
use Rattle.std.specs.Cmp.{eq_by_cmp_equiv}
use Rattle.std.specs.Cmp.Lexicographic.{nat_list_cmp_total}
use Rattle.std.specs.BTreeMap.{is_at}
use Rattle.std.specs.Map.{lookup}
use Rattle.std.specs.FinMap.{get, find, insert, from_entries, get-from_entries, get-insert, same_map, slice_cmp-IsAntisymmetric, nat_cmp-IsAntisymmetric}

abbrev pub string_at : List (List ℕ × List ℕ) → List ℕ → Option (List ℕ)
string_at es name = lookup (is_at (slice_cmp nat_cmp name)) es

equal_of : (o : Ordering) → is_eq o ≡ true → o ≡ Equal
equal_of Less e = cc
equal_of Equal e = refl
equal_of Greater e = cc

pub same_key : (q k : List ℕ) → eq_by_cmp (slice_cmp nat_cmp) q k ≡ true → q ≡ k
same_key q k t = slice_cmp-IsAntisymmetric nat_cmp-IsAntisymmetric q k (equal_of (slice_cmp nat_cmp q k) t)

find_at : (es : List (List ℕ × List ℕ)) (q : List ℕ) → find (slice_cmp nat_cmp) q es ≡ string_at es q
find_at [] q = refl
find_at (e ∷ es) q = ap (cond (is_at (slice_cmp nat_cmp q) e.0) (Some e.1)) (find_at es q)

pub get_at : (es : List (List ℕ × List ℕ)) (q : List ℕ) → get (from_entries {R = slice_cmp nat_cmp} es) q ≡ string_at es q
get_at es q = get-from_entries nat_list_cmp_total es q ∙ find_at es q

pub one_kept : (es fs : List (List ℕ × List ℕ)) (k v : List ℕ) → ((q : List ℕ) → string_at fs q ≡ cond (is_at (slice_cmp nat_cmp k) q) (Some v) (string_at es q)) → from_entries {R = slice_cmp nat_cmp} fs ≡ insert (from_entries es) k v
one_kept es fs k v h = same_map nat_list_cmp_total (slice_cmp-IsAntisymmetric nat_cmp-IsAntisymmetric) _ _ (λ q.
    get_at fs q ∙ h q ∙ ap (λ b. cond b (Some v) (string_at es q)) ((eq_by_cmp_equiv nat_list_cmp_total).symm k q)
    ∙ sym (get-insert nat_list_cmp_total (from_entries es) k v q ∙ ap (cond (is_at (slice_cmp nat_cmp q) k) (Some v)) (get_at es q)))

-- what is held already is not changed by holding it again
pub held_again : (m : Held) (k v : List ℕ) → get m k ≡ Some v → m ≡ insert m k v
held_again m k v e = same_map nat_list_cmp_total (slice_cmp-IsAntisymmetric nat_cmp-IsAntisymmetric) _ _ (λ q.
    elim (eq_by_cmp (slice_cmp nat_cmp) q k) as (λ b. eq_by_cmp (slice_cmp nat_cmp) q k ≡ b → get m q ≡ cond b (Some v) (get m q)) [
      | true ↦ λ t. ap (get m) (same_key q k t) ∙ e
      | false ↦ λ t. refl
    ] refl ∙ sym (get-insert nat_list_cmp_total m k v q))

pub free_held : (m : Held) (k v w : List ℕ) → get m k ≡ Some v → v ≡ w → IsFree m k w
free_held m k v w e same = λ other is. cc

pub free_none : (m : Held) (k w : List ℕ) → get m k ≡ None → IsFree m k w
free_none m k w e = λ other is. cc

-- a string that is held under its name keeps each under its own
pub named_insert : (h : List ℕ → List ℕ) (m : Held) (v : List ℕ) → IsNamed h m → IsNamed h (insert m (h v) v)
named_insert h m v all = λ name string is.
    elim (eq_by_cmp (slice_cmp nat_cmp) name (h v)) as (λ b. eq_by_cmp (slice_cmp nat_cmp) name (h v) ≡ b → cond b (Some v) (get m name) ≡ Some string → h string ≡ name) [
      | true ↦ λ t e. let same : v ≡ string = cc in ap h (sym same) ∙ sym (same_key name (h v) t)
      | false ↦ λ t e. all name string e
    ] refl (sym (get-insert nat_list_cmp_total m (h v) v name) ∙ is)

pub different : false ≡ true → ⊥
different e = cc

found_iff : (o : Option (List ℕ)) (b : Bool) → b ≡ is_some o → IsTrue b ↔ IsSome o
found_iff None b f = subst (λ x. IsTrue x ↔ IsSome {T = List ℕ} None) (sym f) (λ h. h, λ h. h)
found_iff (Some v) b f = subst (λ x. IsTrue x ↔ IsSome (Some v)) (sym f) (λ h. h, λ h. h)

pub is_held : (m : Held) (es : List (List ℕ × List ℕ)) (q : List ℕ) (b : Bool) → from_entries es ≡ m → b ≡ is_some (string_at es q) → IsTrue b ↔ IsSome (get m q)
is_held m es q b e f = found_iff (get m q) b (f ∙ ap is_some (sym (get_at es q) ∙ ap (λ n. get n q) e))

is_there : (m : Held) (es : List (List ℕ × List ℕ)) (q : List ℕ) (b : Bool) → from_entries es ≡ m → b ≡ is_some (string_at es q) → is_some (get m q) ≡ b
is_there m es q b e f = ap is_some (ap (λ n. get n q) (sym e) ∙ get_at es q) ∙ sym f

-- where a string is under the name, the first one stays
pub first_stays : (m : Held) (es : List (List ℕ × List ℕ)) (q v : List ℕ) (b : Bool) → from_entries es ≡ m → b ≡ is_some (string_at es q) → b ≡ true → m ≡ with_first m q v
first_stays m es q v b e f t = sym (ap (λ there. cond there m (insert m q v)) (is_there m es q b e f ∙ t))

-- where none is, the string goes in
pub first_goes_in : (m : Held) (es fs : List (List ℕ × List ℕ)) (q v : List ℕ) (b : Bool) → from_entries es ≡ m → b ≡ is_some (string_at es q) → b ≡ false
    → ((k : List ℕ) → string_at fs k ≡ cond (is_at (slice_cmp nat_cmp q) k) (Some v) (string_at es k)) → from_entries fs ≡ with_first m q v
first_goes_in m es fs q v b e f t put =
    one_kept es fs q v put ∙ ap (λ n. insert n q v) e ∙ sym (ap (λ there. cond there m (insert m q v)) (is_there m es q b e f ∙ t))
