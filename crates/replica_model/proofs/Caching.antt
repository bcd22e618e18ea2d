-- What is found in a cache after a change.
use Rattle.std.proofs.Common.{◌≡◌, ◌≤◌, ◌<◌, ℕ, zero, suc, Bool, true, false, List, [], ◌∷◌, Option, Some, None, cond, take, length, refl, ap, sym, ◌∙◌, arith}
use Rattle.std.specs.Option.{option_map_or}
use Rattle.std.specs.Map.{lookup_entry}
use Rattle.std.specs.Str.{bytes_eq}
use Rattle.std.specs.Cmp.Lexicographic.{same_text}
use Rattle.std.proofs.lemmas.Cmp.{nat_list_eq_equiv}
use Rattle.replica_model.specs.Caches.{Entries, kept_as, without, with_front, touched}

pub same_name : (name other : List ℕ) → bytes_eq name other ≡ true → name ≡ other
same_name name other e = same_text name other (sym e)

pub name_itself : (name : List ℕ) → bytes_eq name name ≡ true
name_itself name = nat_list_eq_equiv.refl name

-- what stands in front is found
pub found_in_front : (name bytes : List ℕ) (entries : Entries) → kept_as ((name, bytes) ∷ entries) name ≡ Some bytes
found_in_front name bytes entries = ap (λ b. cond b (Some bytes) (kept_as entries name)) (name_itself name)

-- under another name the same is found without an entry
pub found_without : (name other : List ℕ) → bytes_eq other name ≡ false → (entries : Entries) → kept_as (without entries name) other ≡ kept_as entries other
found_without name other e [] = refl
found_without name other e (entry ∷ entries) =
    elim (bytes_eq name entry.0) as (λ b. bytes_eq name entry.0 ≡ b → kept_as (cond b entries (entry ∷ without entries name)) other ≡ kept_as (entry ∷ entries) other) [
      | true ↦ λ is. sym (ap (λ b. cond b (Some entry.1) (kept_as entries other)) (sym (ap (bytes_eq other) (same_name name entry.0 is)) ∙ e))
      | false ↦ λ is. ap (cond (bytes_eq other entry.0) (Some entry.1)) (found_without name other e entries)
    ] refl

pub put_is_found : (size : ℕ) (entries : Entries) (name bytes : List ℕ) → 0 < size → kept_as (with_front size entries name bytes) name ≡ Some bytes
put_is_found zero entries name bytes some = absurd (omega arith)
put_is_found (suc size) entries name bytes some = found_in_front name bytes (take size (without entries name))

-- an entry that is found has the name, and its string is the one under the name
pub entry_found : (name : List ℕ) (entries : Entries) (e : List ℕ × List ℕ) → lookup_entry (bytes_eq name) entries ≡ Some e → (name ≡ e.0) × (kept_as entries name ≡ Some e.1)
entry_found name [] e is = cc
entry_found name (entry ∷ entries) e is = by (bytes_eq name entry.0) refl is (entry_found name entries e) where
  by : (b : Bool) → bytes_eq name entry.0 ≡ b → cond b (Some entry) (lookup_entry (bytes_eq name) entries) ≡ Some e
      → (lookup_entry (bytes_eq name) entries ≡ Some e → (name ≡ e.0) × (kept_as entries name ≡ Some e.1)) → (name ≡ e.0) × (cond (bytes_eq name entry.0) (Some entry.1) (kept_as entries name) ≡ Some e.1)
  by true same at more = let here : entry ≡ e = cc in
      (same_name name entry.0 same ∙ ap (λ (x : List ℕ × List ℕ). x.0) here, ap (λ b. cond b (Some entry.1) (kept_as entries name)) same ∙ ap (λ (x : List ℕ × List ℕ). Some x.1) here)
  by false other at more = ((more at).0, ap (λ b. cond b (Some entry.1) (kept_as entries name)) other ∙ (more at).1)

pub touched_finds : (entries : Entries) (name other : List ℕ) → kept_as (touched entries name) other ≡ kept_as entries other
touched_finds entries name other = by (lookup_entry (bytes_eq name) entries) refl where
  by : (o : Option (List ℕ × List ℕ)) → lookup_entry (bytes_eq name) entries ≡ o → kept_as (option_map_or (λ (e : List ℕ × List ℕ). e ∷ without entries name) o entries) other ≡ kept_as entries other
  by None is = refl
  by (Some e) is =
      let found = entry_found name entries e is in
      elim (bytes_eq other e.0) as (λ b. bytes_eq other e.0 ≡ b → cond b (Some e.1) (kept_as (without entries name) other) ≡ kept_as entries other) [
        | true ↦ λ same. sym found.1 ∙ ap (kept_as entries) (found.0 ∙ sym (same_name other e.0 same))
        | false ↦ λ apart. found_without name other (ap (bytes_eq other) found.0 ∙ apart) entries
      ] refl

-- where no entry has the name, nothing goes with it
pub nothing_goes : (name : List ℕ) (entries : Entries) → lookup_entry (bytes_eq name) entries ≡ None → without entries name ≡ entries
nothing_goes name [] is = refl
nothing_goes name (entry ∷ entries) is = by (bytes_eq name entry.0) is (nothing_goes name entries) where
  by : (b : Bool) → cond b (Some entry) (lookup_entry (bytes_eq name) entries) ≡ None → (lookup_entry (bytes_eq name) entries ≡ None → without entries name ≡ entries) → cond b entries (entry ∷ without entries name) ≡ entry ∷ entries
  by true at more = cc
  by false at more = ap (λ es. entry ∷ es) (more at)

-- where one has, one goes
pub one_goes : (name : List ℕ) (entries : Entries) (e : List ℕ × List ℕ) → lookup_entry (bytes_eq name) entries ≡ Some e → suc (length (without entries name)) ≡ length entries
one_goes name [] e is = cc
one_goes name (entry ∷ entries) e is = by (bytes_eq name entry.0) is (one_goes name entries e) where
  by : (b : Bool) → cond b (Some entry) (lookup_entry (bytes_eq name) entries) ≡ Some e → (lookup_entry (bytes_eq name) entries ≡ Some e → suc (length (without entries name)) ≡ length entries)
      → suc (length (cond b entries (entry ∷ without entries name))) ≡ suc (length entries)
  by true at more = refl
  by false at more = ap suc (more at)

pub take_is_short : {X : Type 0} (n : ℕ) (xs : List X) → length (take n xs) ≤ n
take_is_short zero xs = omega arith
take_is_short (suc n) [] = omega arith
take_is_short (suc n) (x ∷ xs) = let l = take_is_short n xs in omega (arith, l)
