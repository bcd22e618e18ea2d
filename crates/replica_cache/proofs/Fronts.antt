-- The entries of the kit's cache after a put, in the words of the model.
use Rattle.std.proofs.Common.{◌≡◌, ◌≤◌, ◌<◌, ◌-◌, ℕ, zero, suc, List, ◌∷◌, Option, Some, None, take, length, refl, ap, sym, ◌∙◌, arith}
use Rattle.std.specs.Option.{option_map_or}
use Rattle.std.specs.Map.{lookup_entry}
use Rattle.std.specs.Str.{bytes_eq}
use Rattle.std.proofs.lemmas.List.{take_all}
use Rattle.replica_model.specs.Caches.{Entries, without, with_front}
use Rattle.replica_model.proofs.Caching.{entry_found, nothing_goes, one_goes}

take_front : (size : ℕ) (e : List ℕ × List ℕ) (entries : Entries) → 0 < size → take size (e ∷ entries) ≡ e ∷ take (size - 1) entries
take_front zero e entries some = absurd (omega arith)
take_front (suc size) e entries some = ap (λ n. e ∷ take n entries) (let less : size ≡ suc size - 1 = omega arith in less)

-- what is put is in front, and as many entries stay as there is room for
pub put_in_front : (size : ℕ) (entries : Entries) (name bytes : List ℕ) → 0 < size → length entries ≤ size
    → option_map_or (λ (e : List ℕ × List ℕ). (e.0, bytes) ∷ without entries name) (lookup_entry (bytes_eq name) entries) ((name, bytes) ∷ take (size - 1) entries) ≡ with_front size entries name bytes
put_in_front size entries name bytes some few = by (lookup_entry (bytes_eq name) entries) refl where
  by : (o : Option (List ℕ × List ℕ)) → lookup_entry (bytes_eq name) entries ≡ o
      → option_map_or (λ (e : List ℕ × List ℕ). (e.0, bytes) ∷ without entries name) o ((name, bytes) ∷ take (size - 1) entries) ≡ with_front size entries name bytes
  by None is = sym (take_front size (name, bytes) entries some) ∙ ap (λ (es : Entries). take size ((name, bytes) ∷ es)) (sym (nothing_goes name entries is))
  by (Some e) is =
      ap (λ n. (n, bytes) ∷ without entries name) (sym (entry_found name entries e is).0)
      ∙ sym (take_all size ((name, bytes) ∷ without entries name) (let one = one_goes name entries e is in omega (arith, one, few)))
