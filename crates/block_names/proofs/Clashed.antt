-- Strings that are held together have names of their own.
use Rattle.std.proofs.Common.{◌≡◌, ◌⊎◌, ℕ, List, [], ◌∷◌, ◌++◌, Some, All, Contains, ap, sym, ◌∙◌, subst, ⊎_elim}
use Rattle.std.proofs.lemmas.List.Elements.{All-nil, All-push, All-append, All-weaker, All-contains}
use Rattle.std.specs.FinMap as map
use Rattle.block_names.specs.Held.{Held}
use Rattle.block_names.specs.Growth.{Holds, Grew, IsClashIn}
use Rattle.block_names.specs.Clashes.{AreHeld, NoneClash, IsClashAmong}
use Rattle.block_names.specs.declared.fault.NameFault.{NameFault}
use Rattle.block_names.specs.declared.fault.NameFault.TheVariants.{Clash, Memory}
use Rattle.block_names.proofs.Grown.{now_held}

same_string : (a b : List ℕ) → Some a ≡ Some b → a ≡ b
same_string a b e = cc

-- no string is there to be held
pub held_none : (h : List ℕ → List ℕ) (held : Held) → AreHeld h held []
held_none h held = All-nil (Holds h held)

-- the one string was named
pub held_one : (h : List ℕ → List ℕ) (held now : Held) (s : List ℕ) → now ≡ map.insert held (h s) s → AreHeld h now (s ∷ [])
held_one h held now s is = All-push (Holds h now) [] s (All-nil (Holds h now)) (subst (λ m. Holds h m s) (sym is) (now_held h held s))

-- strings that are held stay so
pub held_still : (h : List ℕ → List ℕ) (held now : Held) (strings : List (List ℕ)) → ((name s : List ℕ) → map.get held name ≡ Some s → map.get now name ≡ Some s) → AreHeld h held strings → AreHeld h now strings
held_still h held now strings keeps all = All-weaker (Holds h held) (Holds h now) (λ s is. keeps (h s) s is) strings all

-- some strings were named, and then others
pub held_then : (h : List ℕ → List ℕ) (between now : Held) (xs ys : List (List ℕ)) → ((name s : List ℕ) → map.get between name ≡ Some s → map.get now name ≡ Some s)
    → AreHeld h between xs → AreHeld h now ys → AreHeld h now (xs ++ ys)
held_then h between now xs ys keeps all more = All-append (Holds h now) xs ys (held_still h between now xs keeps all) more

-- where what was held is held still, and each string of a kind too, none of these clash
pub none_clash : (h : List ℕ → List ℕ) (held now : Held) (Of : List ℕ → Type 0) → ((name s : List ℕ) → map.get held name ≡ Some s → map.get now name ≡ Some s) → ((s : List ℕ) → Of s → Holds h now s) → NoneClash h held Of
none_clash h held now Of kept all old new clash =
    ⊎_elim (λ there. clash.1 (same_string old new (sym (kept (h new) old there) ∙ all new clash.0)))
    (λ own. clash.1 (same_string old new (sym (all old own.1) ∙ ap (map.get now) (sym own.0) ∙ all new clash.0))) clash.2

-- the same of the strings that a call named
pub named_apart : (h : List ℕ → List ℕ) (held now : Held) (strings : List (List ℕ)) → Grew h held (Contains strings) now → AreHeld h now strings → NoneClash h held (Contains strings)
named_apart h held now strings grew all = none_clash h held now (Contains strings) grew.kept (λ s there. All-contains (Holds h now) strings s all there)

-- a clash with what a call left is one among what was held before and what it named
pub clash_among : (h : List ℕ → List ℕ) (held now : Held) (Of : List ℕ → Type 0) (f : NameFault) → Grew h held Of now → IsClashIn h now Of f → IsClashAmong h held Of f
clash_among h held now Of (Clash old new) grew c = (c.2, c.1, grew.new (h new) old c.0)
clash_among h held now Of Memory grew c = tt
