-- What a book holds, and clashes, where more was named than a line says.
use Rattle.std.proofs.Common.{◌≡◌, inl, inr, ℕ, List, ◌++◌, Contains, sym}
use Rattle.std.proofs.lemmas.List.Elements.{Contains-append_left, Contains-append_cases}
use Rattle.block_names.specs.Held.{Held}
use Rattle.block_names.specs.Growth.{Holds, Grew}
use Rattle.block_names.proofs.Grown.{grew_then, clash_wider}
use Rattle.block_names.specs.declared.fault.NameFault.{NameFault}
use Rattle.block_names.specs.declared.fault.NameFault.TheVariants.{Clash, Memory}
use Rattle.pond_world.specs.Sites.{IsClashAfter}
use Rattle.script_requests.specs.Holding.{HoldsAll, HoldsJust, IsClashOf}

-- strings more, where what was named is among all of them
pub holds_wider : (h : List ℕ → List ℕ) (held now : Held) (strings extra : List (List ℕ)) (Of : List ℕ → Type 0) → HoldsJust h held strings → Grew h held Of now → ((s : List ℕ) → Of s → Contains (strings ++ extra) s) → HoldsAll h now extra
    → HoldsJust h now (strings ++ extra)
holds_wider h held now strings extra Of just grew among all = record {
  all = λ s c. elim (Contains-append_cases strings extra s c) as (λ _. Holds h now s) [ inl old ↦ grew.kept (h s) s (just.all s old) | inr new ↦ all s new ];
  only = λ name s e. elim (grew.new name s e) as (λ _. (name ≡ h s) × Contains (strings ++ extra) s) [
    | inl old ↦ let o = just.only name s old in (o.0, Contains-append_left strings extra s o.1)
    | inr new ↦ (new.0, among s new.1)
  ];
}

-- a clash of what was named is one among all of them
pub clash_among : (h : List ℕ → List ℕ) (held : Held) (strings all : List (List ℕ)) (Of : List ℕ → Type 0) (fault : NameFault) → HoldsJust h held strings → ((s : List ℕ) → Contains strings s → Contains all s) → ((s : List ℕ) → Of s → Contains all s)
    → IsClashAfter h held Of fault → IsClashOf h all fault
clash_among h held strings all Of Memory just before among after = tt
clash_among h held strings all Of (Clash old new) just before among after =
    let clash = after.2 in
    let at = elim (after.1.new (h new) old clash.0) as (λ _. (h new ≡ h old) × Contains all old) [
      | inl early ↦ let o = just.only (h new) old early in (o.0, before old o.1)
      | inr more ↦ (more.0, among old more.1)
    ] in
    record { different = clash.1; same = sym at.0; old_named = at.1; new_named = among new clash.2 }

-- a clash after strings of one kind, of strings of another, is one of strings of a kind that has both
pub clash_then : (h : List ℕ → List ℕ) (old mid : Held) (First Of Wide : List ℕ → Type 0) (fault : NameFault) → Grew h old First mid → ((s : List ℕ) → First s → Wide s) → ((s : List ℕ) → Of s → Wide s)
    → IsClashAfter h mid Of fault → IsClashAfter h old Wide fault
clash_then h old mid First Of Wide fault grew first among after =
    (after.0, grew_then h old mid after.0 First Of Wide first among grew after.1, clash_wider h after.0 Of Wide fault among after.2)
