-- What follows where exactly some strings are held.
use Rattle.std.proofs.Common.{◌≡◌, inl, inr, ℕ, ◌+◌, ◌<◌, Bool, true, false, ◌&&◌, ◌||◌, not, List, [], ◌∷◌, ◌++◌, length, take, drop, get_or, Contains, Some, refl, ap, sym, ◌∙◌, subst, arith, append-nil, take-append-drop}
use Rattle.std.specs.FinMap as map
use Rattle.std.specs.List.{list_any, flat_map}
use Rattle.std.proofs.lemmas.Grind.{common_steps, flat_map-append}
use Rattle.std.specs.Str.{bytes_eq}
use Rattle.std.proofs.lemmas.List.Elements.{Contains-append_left, Contains-append_right, Contains-append_cases, Contains-push, Contains-push_cases, at_from_Contains}
use Rattle.std.proofs.lemmas.Slice.Eq.{bytes_eq-Decides}
use Rattle.block_names.specs.Held.{Held}
use Rattle.block_names.specs.Growth.{Holds, Grew, IsClashIn}
use Rattle.block_names.specs.declared.fault.NameFault.{NameFault}
use Rattle.block_names.specs.declared.fault.NameFault.TheVariants.{Clash, Memory}
use Rattle.block_names.proofs.Grown.{grew_none, grew_then, now_held}
use Rattle.text_model.specs.Clashes.{clashes, has_clash, NoClash, IsClash}
use Rattle.script_requests.specs.Holding.{HoldsAll, HoldsJust, IsClashOf}

-- ---- elements of lists

pub contains_none : {X : Type 0} (x : X) → Contains [] x → ⊥
contains_none x c = let at = at_from_Contains [] x c in omega (arith, at.1)

pub contains_one : {X : Type 0} (x y : X) → Contains (x ∷ []) y → y ≡ x
contains_one x y c = elim (Contains-push_cases [] x y c) as (λ _. y ≡ x) [ inl none ↦ absurd (contains_none y none) | inr same ↦ sym same ]

pub contains_first : {X : Type 0} (x : X) (xs : List X) → Contains (x ∷ xs) x
contains_first x xs = Contains-append_left (x ∷ []) xs x (Contains-push [] x)

pub contains_later : {X : Type 0} (x y : X) (xs : List X) → Contains xs y → Contains (x ∷ xs) y
contains_later x y xs c = Contains-append_right (x ∷ []) xs y c

any_true : {X : Type 0} (p : X → Bool) (xs : List X) (x : X) → Contains xs x → p x ≡ true → list_any p xs ≡ true
any_true p [] x c t = absurd (contains_none x c)
any_true p (y ∷ ys) x c t =
    elim (Contains-append_cases (y ∷ []) ys x c) as (λ _. (p y || list_any p ys) ≡ true) [
      | inl here ↦ or_first (p y) (list_any p ys) (ap p (sym (contains_one y x here)) ∙ t)
      | inr there ↦ or_second (p y) (list_any p ys) (any_true p ys x there t)
    ]
  where
    or_first : (a b : Bool) → a ≡ true → (a || b) ≡ true
    or_first true b e = refl
    or_first false b e = absurd (cc)

    or_second : (a b : Bool) → b ≡ true → (a || b) ≡ true
    or_second true b e = refl
    or_second false b e = e

any_found : {X : Type 0} (p : X → Bool) (xs : List X) → list_any p xs ≡ true → (x : X) × Contains xs x × (p x ≡ true)
any_found p [] e = absurd (cc)
any_found {X = X} p (y ∷ ys) e = here (p y) refl e (λ f. any_found p ys f)
  where
    here : (b : Bool) → p y ≡ b → (b || list_any p ys) ≡ true → (list_any p ys ≡ true → (x : X) × Contains ys x × (p x ≡ true)) → (x : X) × Contains (y ∷ ys) x × (p x ≡ true)
    here true t e more = (y, contains_first y ys, t)
    here false t e more = let found = more e in (found.0, contains_later y found.0 ys found.1, found.2)

-- ---- clashes

and_both : (a b : Bool) → (a && b) ≡ true → (a ≡ true) × (b ≡ true)
and_both true true e = (refl, refl)
and_both true false e = absurd (cc)
and_both false b e = absurd (cc)

not_true : (b : Bool) → not b ≡ true → b ≡ false
not_true true e = absurd (cc)
not_true false e = refl

differ : (b : Bool) → b ≡ true → b ≡ false → ⊥
differ true t f = cc
differ false t f = cc

-- strings without a clash have none that the test finds
pub none_found : (h : List ℕ → List ℕ) (strings : List (List ℕ)) → NoClash h strings → has_clash h strings ≡ false
none_found h strings none = by (has_clash h strings) refl
  where
    by : (b : Bool) → has_clash h strings ≡ b → b ≡ false
    by false e = refl
    by true e =
        let a = any_found (λ a. list_any (clashes h a) strings) strings e in
        let b = any_found (clashes h a.0) strings a.2 in
        let both = and_both (bytes_eq (h a.0) (h b.0)) (not (bytes_eq a.0 b.0)) b.2 in
        let same = none a.0 b.0 a.1 b.1 ((bytes_eq-Decides (h a.0) (h b.0)).0 both.0) in
        absurd (differ (bytes_eq a.0 b.0) ((bytes_eq-Decides a.0 b.0).1 same) (not_true (bytes_eq a.0 b.0) both.1))

-- a clash is found by the test
pub clash_found : (h : List ℕ → List ℕ) (strings : List (List ℕ)) (old new : List ℕ) → IsClash h strings old new → has_clash h strings ≡ true
clash_found h strings old new c =
    any_true (λ a. list_any (clashes h a) strings) strings old c.old_named (any_true (clashes h old) strings new c.new_named (both (bytes_eq (h old) (h new)) (bytes_eq old new) refl refl))
  where
    both : (a b : Bool) → bytes_eq (h old) (h new) ≡ a → bytes_eq old new ≡ b → (a && not b) ≡ true
    both true false e f = refl
    both true true e f = absurd (c.different ((bytes_eq-Decides old new).0 f))
    both false b e f = absurd (differ (bytes_eq (h old) (h new)) ((bytes_eq-Decides (h old) (h new)).1 c.same) e)

-- ---- what is held

-- strings that are all held do not clash
pub held_clear : (h : List ℕ → List ℕ) (held : Held) (strings : List (List ℕ)) → HoldsAll h held strings → NoClash h strings
held_clear h held strings all a b ca cb same =
    let at_a : map.get held (h a) ≡ Some a = all a ca in
    let at_b : map.get held (h a) ≡ Some b = ap (map.get held) same ∙ all b cb in
    let one : Some a ≡ Some b = sym at_a ∙ at_b in
    cc

-- strings more
pub holds_more : (h : List ℕ → List ℕ) (held now : Held) (strings extra : List (List ℕ)) → HoldsJust h held strings → Grew h held (Contains extra) now → HoldsAll h now extra → HoldsJust h now (strings ++ extra)
holds_more h held now strings extra just grew all = record {
  all = λ s c. elim (Contains-append_cases strings extra s c) as (λ _. Holds h now s) [ inl old ↦ grew.kept (h s) s (just.all s old) | inr new ↦ all s new ];
  only = λ name s e. elim (grew.new name s e) as (λ _. (name ≡ h s) × Contains (strings ++ extra) s) [
    | inl old ↦ let o = just.only name s old in (o.0, Contains-append_left strings extra s o.1)
    | inr new ↦ (new.0, Contains-append_right strings extra s new.1)
  ];
}

-- a clash of strings more is one among them all
pub clash_of : (h : List ℕ → List ℕ) (held now : Held) (strings extra : List (List ℕ)) (fault : NameFault) → HoldsJust h held strings → Grew h held (Contains extra) now → IsClashIn h now (Contains extra) fault
    → IsClashOf h (strings ++ extra) fault
clash_of h held now strings extra Memory just grew clash = tt
clash_of h held now strings extra (Clash old new) just grew clash =
    let at = elim (grew.new (h new) old clash.0) as (λ _. (h new ≡ h old) × Contains (strings ++ extra) old) [
      | inl before ↦ let o = just.only (h new) old before in (o.0, Contains-append_left strings extra old o.1)
      | inr more ↦ (more.0, Contains-append_right strings extra old more.1)
    ] in
    record { different = clash.1; same = sym at.0; old_named = at.1; new_named = Contains-append_right strings extra new clash.2 }

-- the same strings, in another order
pub holds_same : (h : List ℕ → List ℕ) (held : Held) (strings others : List (List ℕ)) → ((s : List ℕ) → Contains strings s → Contains others s) → ((s : List ℕ) → Contains others s → Contains strings s)
    → HoldsJust h held strings → HoldsJust h held others
holds_same h held strings others to from just = record {
  all = λ s c. just.all s (from s c);
  only = λ name s e. let o = just.only name s e in (o.0, to s o.1);
}

-- a clash among some strings is one among more
pub clash_more : (h : List ℕ → List ℕ) (strings others : List (List ℕ)) (fault : NameFault) → ((s : List ℕ) → Contains strings s → Contains others s) → IsClashOf h strings fault → IsClashOf h others fault
clash_more h strings others Memory to c = tt
clash_more h strings others (Clash old new) to c = record { different = c.different; same = c.same; old_named = to old c.old_named; new_named = to new c.new_named }

-- two lots of strings, one named after the other
pub all_both : (h : List ℕ → List ℕ) (mid now : Held) (xs ys : List (List ℕ)) (Of : List ℕ → Type 0) → HoldsAll h mid xs → Grew h mid Of now → HoldsAll h now ys → HoldsAll h now (xs ++ ys)
all_both h mid now xs ys Of left grew right s c =
    elim (Contains-append_cases xs ys s c) as (λ _. Holds h now s) [ inl l ↦ grew.kept (h s) s (left s l) | inr r ↦ right s r ]

pub all_none : (h : List ℕ → List ℕ) (held : Held) → HoldsAll h held []
all_none h held s c = absurd (contains_none s c)

pub all_one : (h : List ℕ → List ℕ) (held : Held) (string : List ℕ) → Holds h held string → HoldsAll h held (string ∷ [])
all_one h held string here s c = subst (Holds h held) (sym (contains_one string s c)) here

-- a string that was named is held
pub all_named : (h : List ℕ → List ℕ) (old now : Held) (bytes string : List ℕ) → bytes ≡ string → now ≡ map.insert old (h bytes) bytes → HoldsAll h now (string ∷ [])
all_named h old now bytes string same e = all_one h now string (subst (Holds h now) same (subst (λ m. Holds h m bytes) (sym e) (now_held h old bytes)))

-- ---- strings of many parts, one part named after the other

pub take_one_more : {X : Type 0} (xs : List X) (i : ℕ) (x : X) → i < length xs → x ≡ get_or xs i x → take (i + 1) xs ≡ take i xs ++ x ∷ []
take_one_more xs i x here is = grind (arith, common_steps)

pub parts_more : {X : Type 0} (f : X → List (List ℕ)) (xs : List X) (i : ℕ) (x : X) → i < length xs → x ≡ get_or xs i x → flat_map f (take (i + 1) xs) ≡ flat_map f (take i xs) ++ f x
parts_more f xs i x here is =
    ap (flat_map f) (take_one_more xs i x here is) ∙ (flat_map-append f (take i xs) (x ∷ []) ∙ ap (λ rest. flat_map f (take i xs) ++ rest) (append-nil (f x)))

pub parts_within : {X : Type 0} (f : X → List (List ℕ)) (xs : List X) (i : ℕ) (s : List ℕ) → Contains (flat_map f (take i xs)) s → Contains (flat_map f xs) s
parts_within f xs i s c =
    subst (λ all. Contains all s) (sym (flat_map-append f (take i xs) (drop i xs)) ∙ ap (flat_map f) (take-append-drop i xs)) (Contains-append_left (flat_map f (take i xs)) (flat_map f (drop i xs)) s c)

pub part_within : {X : Type 0} (f : X → List (List ℕ)) (xs : List X) (i : ℕ) (x : X) → i < length xs → x ≡ get_or xs i x → (s : List ℕ) → Contains (f x) s → Contains (flat_map f xs) s
part_within f xs i x here is s c =
    parts_within f xs (i + 1) s (subst (λ all. Contains all s) (sym (parts_more f xs i x here is)) (Contains-append_right (flat_map f (take i xs)) (f x) s c))

-- what was named after some parts
pub record Names {X : Type 0} (h : List ℕ → List ℕ) (f : X → List (List ℕ)) (xs : List X) (old now : Held) : Type 0 where
  pub holds : HoldsAll h now (flat_map f xs)
  pub grew : Grew h old (Contains (flat_map f xs)) now

pub names_none : {X : Type 0} (h : List ℕ → List ℕ) (f : X → List (List ℕ)) (held : Held) → Names h f [] held held
names_none h f held = record { holds = all_none h held; grew = grew_none h held (Contains []) }

pub names_more : {X : Type 0} (h : List ℕ → List ℕ) (f : X → List (List ℕ)) (xs : List X) (i : ℕ) (x : X) (old mid now : Held) → i < length xs → x ≡ get_or xs i x → Names h f (take i xs) old mid → HoldsAll h now (f x)
    → Grew h mid (Contains (f x)) now → Names h f (take (i + 1) xs) old now
names_more h f xs i x old mid now here is before all grew =
    let more = parts_more f xs i x here is in
    record {
      holds = subst (HoldsAll h now) (sym more) (all_both h mid now (flat_map f (take i xs)) (f x) (Contains (f x)) before.holds grew all);
      grew = subst (λ ss. Grew h old (Contains ss) now) (sym more)
          (grew_then h old mid now (Contains (flat_map f (take i xs))) (Contains (f x)) (Contains (flat_map f (take i xs) ++ f x))
          (λ s c. Contains-append_left (flat_map f (take i xs)) (f x) s c) (λ s c. Contains-append_right (flat_map f (take i xs)) (f x) s c) before.grew grew);
    }

-- what was named where a part ended in a fault
pub grew_within : {X : Type 0} (h : List ℕ → List ℕ) (f : X → List (List ℕ)) (xs : List X) (i : ℕ) (x : X) (old mid now : Held) → i < length xs → x ≡ get_or xs i x → Names h f (take i xs) old mid
    → Grew h mid (Contains (f x)) now → Grew h old (Contains (flat_map f xs)) now
grew_within h f xs i x old mid now here is before grew =
    grew_then h old mid now (Contains (flat_map f (take i xs))) (Contains (f x)) (Contains (flat_map f xs)) (parts_within f xs i) (part_within f xs i x here is) before.grew grew

pub grew_so_far : {X : Type 0} (h : List ℕ → List ℕ) (f : X → List (List ℕ)) (xs : List X) (i : ℕ) (old now : Held) → Names h f (take i xs) old now → Grew h old (Contains (flat_map f xs)) now
grew_so_far h f xs i old now before = grew_then h old now now (Contains (flat_map f (take i xs))) (Contains []) (Contains (flat_map f xs)) (parts_within f xs i) (λ s c. absurd (contains_none s c)) before.grew (grew_none h now (Contains []))
