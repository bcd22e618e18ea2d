-- How a book grows.
use Rattle.std.proofs.Common.{◌≡◌, ◌⊎◌, ℕ, List, [], ◌∷◌, ◌++◌, Some, true, false, cond, refl, ap, sym, ◌∙◌, subst, inl, inr}
use Rattle.std.specs.FinMap as map
use Rattle.std.specs.Ordering.{nat_cmp, eq_by_cmp}
use Rattle.std.specs.Cmp.{eq_by_cmp_equiv}
use Rattle.std.specs.Cmp.Lexicographic.{slice_cmp, nat_list_cmp_total}
use Rattle.block_names.specs.Held.{Held, IsNamed}
use Rattle.block_names.specs.Growth.{IsFree, Holds, Grew, IsClashIn, IsFaultAt, keep_all}
use Rattle.block_names.specs.declared.fault.NameFault.{NameFault}
use Rattle.block_names.specs.declared.fault.NameFault.TheVariants.{Clash, Memory}
use Rattle.block_names.proofs.Map.{same_key, held_again}

-- a book that names nothing holds what it held
pub grew_none : (h : List ℕ → List ℕ) (held : Held) (Of : List ℕ → Type 0) → Grew h held Of held
grew_none h held Of = record { kept = λ name s e. e; new = λ name s e. inl e }

-- a string more, where no other stands under its name
pub grew_one : (h : List ℕ → List ℕ) (held : Held) (t : List ℕ) → IsFree held (h t) t → Grew h held (λ s. s ≡ t) (map.insert held (h t) t)
grew_one h held t free = record {
  kept = λ name s e. map.get-insert nat_list_cmp_total held (h t) t name
      ∙ elim (eq_by_cmp (slice_cmp nat_cmp) name (h t)) as (λ b. eq_by_cmp (slice_cmp nat_cmp) name (h t) ≡ b → cond b (Some t) (map.get held name) ≡ Some s) [
        | true ↦ λ p. ap Some (sym (free s (ap (map.get held) (sym (same_key name (h t) p)) ∙ e)))
        | false ↦ λ p. e
      ] refl;
  new = λ name s e.
      elim (eq_by_cmp (slice_cmp nat_cmp) name (h t)) as (λ b. eq_by_cmp (slice_cmp nat_cmp) name (h t) ≡ b → cond b (Some t) (map.get held name) ≡ Some s → (map.get held name ≡ Some s) ⊎ ((name ≡ h s) × (s ≡ t))) [
        | true ↦ λ p f. let same : t ≡ s = cc in inr (same_key name (h t) p ∙ ap h same, sym same)
        | false ↦ λ p f. inl f
      ] refl (sym (map.get-insert nat_list_cmp_total held (h t) t name) ∙ e);
}

-- first strings of one kind, and then of another
pub grew_then : (h : List ℕ → List ℕ) (a b c : Held) (Xs Ys Zs : List ℕ → Type 0) → ((s : List ℕ) → Xs s → Zs s) → ((s : List ℕ) → Ys s → Zs s) → Grew h a Xs b → Grew h b Ys c → Grew h a Zs c
grew_then h a b c Xs Ys Zs left right f g = record {
  kept = λ name s e. g.kept name s (f.kept name s e);
  new = λ name s e. elim (g.new name s e) as (λ _. (map.get a name ≡ Some s) ⊎ ((name ≡ h s) × Zs s)) [
    | inl m ↦ elim (f.new name s m) as (λ _. (map.get a name ≡ Some s) ⊎ ((name ≡ h s) × Zs s)) [ inl o ↦ inl o | inr p ↦ inr (p.0, left s p.1) ]
    | inr p ↦ inr (p.0, right s p.1)
  ];
}

-- a clash of a string of a kind is one of a wider kind
pub clash_wider : (h : List ℕ → List ℕ) (now : Held) (Xs Zs : List ℕ → Type 0) (f : NameFault) → ((s : List ℕ) → Xs s → Zs s) → IsClashIn h now Xs f → IsClashIn h now Zs f
clash_wider h now Xs Zs (Clash old new) more c = (c.0, c.1, more new c.2)
clash_wider h now Xs Zs Memory more c = tt

-- the same, by equations
pub grew_made : (h : List ℕ → List ℕ) (held now : Held) (name t : List ℕ) → name ≡ h t → IsFree held name t → now ≡ map.insert held name t → Grew h held (λ s. s ≡ t) now
grew_made h held now name t is free made =
    subst (λ m. Grew h held (λ s. s ≡ t) m) (sym (made ∙ ap (λ n. map.insert held n t) is)) (grew_one h held t (subst (λ n. IsFree held n t) is free))

-- a clash under a name is a clash of the string that has it
pub clash_at : (h : List ℕ → List ℕ) (held now : Held) (name t : List ℕ) (f : NameFault) → name ≡ h t → now ≡ held → IsFaultAt held name t f → IsClashIn h now (λ s. s ≡ t) f
clash_at h held now name t (Clash old new) is same c = (ap (λ m. map.get m (h new)) same ∙ ap (map.get held) (ap h c.2 ∙ sym is) ∙ c.0, λ e. c.1 (e ∙ c.2), c.2)
clash_at h held now name t Memory is same c = tt

-- what is held stays held when a string is named without a clash
pub still_held : (h : List ℕ → List ℕ) (a b : Held) (Of : List ℕ → Type 0) (s : List ℕ) → Grew h a Of b → Holds h a s → Holds h b s
still_held h a b Of s grew holds = grew.kept (h s) s holds

-- the one that was named is held
pub now_held : (h : List ℕ → List ℕ) (held : Held) (t : List ℕ) → Holds h (map.insert held (h t) t) t
now_held h held t =
    map.get-insert nat_list_cmp_total held (h t) t (h t)
    ∙ ap (λ b. cond b (Some t) (map.get held (h t))) ((eq_by_cmp_equiv nat_list_cmp_total).refl (h t))

-- to name what is held changes nothing
pub held_same : (h : List ℕ → List ℕ) (held : Held) (t : List ℕ) → Holds h held t → map.insert held (h t) t ≡ held
held_same h held t holds = sym (held_again held (h t) t holds)

-- to keep strings, and then others, is to keep both
pub keep_append : (h : List ℕ → List ℕ) (xs ys : List (List ℕ)) (held : Held) → keep_all h (xs ++ ys) held ≡ keep_all h ys (keep_all h xs held)
keep_append h [] ys held = refl
keep_append h (x ∷ xs) ys held = keep_append h xs ys (map.insert held (h x) x)

-- strings stand under their names still
pub named_still : (h : List ℕ → List ℕ) (held now : Held) (Of : List ℕ → Type 0) → IsNamed h held → Grew h held Of now → IsNamed h now
named_still h held now Of named grew = λ name string is. elim (grew.new name string is) as (λ _. h string ≡ name) [ inl before ↦ named name string before | inr more ↦ sym more.0 ]
