-- The map that the entries of a tree make, whose keys are bytes.
use Rattle.std.proofs.Common.{◌≡◌, ℕ, List, [], ◌∷◌, Option, Some, cond, ap, sym, ◌∙◌, refl}
use Rattle.std.specs.Ordering.{nat_cmp}
use Rattle.std.specs.Cmp.{eq_by_cmp_equiv}
use Rattle.std.specs.Cmp.Lexicographic.{slice_cmp, nat_list_cmp_total}
use Rattle.std.specs.BTreeMap.{is_at}
use Rattle.std.specs.Map.{lookup}
use Rattle.std.specs.FinMap.{get, find, insert, from_entries, get-from_entries, get-insert, same_map, slice_cmp-IsAntisymmetric, nat_cmp-IsAntisymmetric}

module _ {X : Type 0} where
  abbrev pub value_at : List (List ℕ × X) → List ℕ → Option X
  value_at es key = lookup (is_at (slice_cmp nat_cmp key)) es

  find_at : (es : List (List ℕ × X)) (q : List ℕ) → find (slice_cmp nat_cmp) q es ≡ value_at es q
  find_at [] q = refl
  find_at (e ∷ es) q = ap (cond (is_at (slice_cmp nat_cmp q) e.0) (Some e.1)) (find_at es q)

  -- under each key the value of the first entry that has it
  pub get_at : (es : List (List ℕ × X)) (q : List ℕ) → get (from_entries {R = slice_cmp nat_cmp} es) q ≡ value_at es q
  get_at es q = get-from_entries nat_list_cmp_total es q ∙ find_at es q

  -- entries of which one was put in make the map with that one put in
  pub put_in : (es fs : List (List ℕ × X)) (k : List ℕ) (v : X) → ((q : List ℕ) → value_at fs q ≡ cond (is_at (slice_cmp nat_cmp k) q) (Some v) (value_at es q))
      → from_entries {R = slice_cmp nat_cmp} fs ≡ insert (from_entries es) k v
  put_in es fs k v h = same_map nat_list_cmp_total (slice_cmp-IsAntisymmetric nat_cmp-IsAntisymmetric) _ _ (λ q.
      get_at fs q ∙ h q ∙ ap (λ b. cond b (Some v) (value_at es q)) ((eq_by_cmp_equiv nat_list_cmp_total).symm k q)
      ∙ sym (get-insert nat_list_cmp_total (from_entries es) k v q ∙ ap (cond (is_at (slice_cmp nat_cmp q) k) (Some v)) (get_at es q)))
