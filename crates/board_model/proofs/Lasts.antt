-- The last entry of a label.
use Rattle.std.proofs.Common.{◌≡◌, ◌≢◌, ◌↔◌, ◌⊎◌, ℕ, Bool, true, false, cond, List, [], ◌∷◌, ◌++◌, Option, Some, None, filter, refl, ap, sym, ◌∙◌, subst, inl, inr, ⊎_elim}
use Rattle.std.specs.List.{last_or}
use Rattle.std.proofs.lemmas.List.Elements.{filter-append, All-nil, All-cons, All-head, All-tail}
use Rattle.std.proofs.lemmas.Slice.Eq.{bytes_eq-Decides}
use Rattle.board_model.specs.Boards.{Entry, is_of, last_of}
use Rattle.board_model.specs.Laws.{HasNone, IsLast}

-- an entry has another label
abbrev Apart : List ℕ → Entry → Type 0
Apart label e = e.label ≢ label

-- what is last in a list that goes on is last in what it goes on with
pub last_or-append : {A : Type 0} (o : Option A) (xs ys : List A) → last_or o (xs ++ ys) ≡ last_or (last_or o xs) ys
last_or-append o [] ys = refl
last_or-append o (x ∷ xs) ys = last_or-append (Some x) xs ys

one_last : (entry : Entry) (b : Bool) (o : Option Entry) → last_or o (cond b (entry ∷ []) []) ≡ cond b (Some entry) o
one_last entry true o = refl
one_last entry false o = refl

-- what is last with one entry more
pub last_more : (label : List ℕ) (list : List Entry) (entry : Entry) → last_of label (list ++ entry ∷ []) ≡ cond (is_of label entry) (Some entry) (last_of label list)
last_more label list entry =
    ap (last_or None) (filter-append (is_of label) list (entry ∷ []))
    ∙ last_or-append None (filter (is_of label) list) (filter (is_of label) (entry ∷ []))
    ∙ one_last entry (is_of label entry) (last_of label list)

-- an entry whose label is another one is not of the label
is_not : (label : List ℕ) (e : Entry) → Apart label e → is_of label e ≡ false
is_not label e apart = elim (is_of label e) as (λ b. is_of label e ≡ b → b ≡ false) [
  | true ↦ λ t. absurd (apart ((bytes_eq-Decides e.label label).0 t))
  | false ↦ λ t. refl
] refl

apart_of : (label : List ℕ) (e : Entry) → is_of label e ≡ false → Apart label e
apart_of label e f same = absurd (cc (f, (bytes_eq-Decides e.label label).1 same))

-- what is last of a list with an entry in front, by whether that one is of the label
front : (label : List ℕ) (x : Entry) (list : List Entry) (o : Option Entry) (b : Bool) → is_of label x ≡ b → last_or o (filter (is_of label) (x ∷ list)) ≡ last_or (cond b (Some x) o) (filter (is_of label) list)
front label x list o true t = ap (λ b. last_or o (cond b (x ∷ filter (is_of label) list) (filter (is_of label) list))) t
front label x list o false t = ap (λ b. last_or o (cond b (x ∷ filter (is_of label) list) (filter (is_of label) list))) t

-- where no entry has the label, what was last is
none_kept : (label : List ℕ) (list : List Entry) (o : Option Entry) → HasNone label list → last_or o (filter (is_of label) list) ≡ o
none_kept label [] o none = refl
none_kept label (e ∷ list) o none =
    front label e list o false (is_not label e (All-head (Apart label) e list none)) ∙ none_kept label list o (All-tail (Apart label) e list none)

-- an entry of the list behind which none has the label, or what was last before, and then none has it
abbrev Found : List ℕ → List Entry → Option Entry → Entry → Type 0
Found label list o entry = IsLast label list entry ⊎ ((o ≡ Some entry) × HasNone label list)

later : (label : List ℕ) (x : Entry) (list : List Entry) (entry : Entry) → IsLast label list entry → IsLast label (x ∷ list) entry
later label x list entry l = (x ∷ l.0, l.1, ap (λ l. x ∷ l) l.2, l.3, l.4)

first : (label : List ℕ) (x : Entry) (list : List Entry) (entry : Entry) → x.label ≡ label → Some x ≡ Some entry → HasNone label list → IsLast label (x ∷ list) entry
first label x list entry is e none =
    let same : x ≡ entry = cc e in
    ([], list, ap (λ y. y ∷ list) same, subst (λ (y : Entry). y.label ≡ label) same is, none)

found : (label : List ℕ) (list : List Entry) (o : Option Entry) (entry : Entry) → last_or o (filter (is_of label) list) ≡ Some entry → Found label list o entry
found label [] o entry e = inr (e, All-nil (Apart label))
found label (x ∷ list) o entry e = elim (is_of label x) as (λ b. is_of label x ≡ b → Found label (x ∷ list) o entry) [
  | true ↦ λ t. ⊎_elim (λ l. inl (later label x list entry l))
      (λ (r : (Some x ≡ Some entry) × HasNone label list). inl (first label x list entry ((bytes_eq-Decides x.label label).0 t) r.0 r.1))
      (found label list (Some x) entry (sym (front label x list o true t) ∙ e))
  | false ↦ λ t. ⊎_elim (λ l. inl (later label x list entry l))
      (λ (r : (o ≡ Some entry) × HasNone label list). inr (r.0, All-cons (Apart label) x list (apart_of label x t) r.1))
      (found label list o entry (sym (front label x list o false t) ∙ e))
] refl

-- an entry behind which none has the label is last
given : (label : List ℕ) (list : List Entry) (entry : Entry) → IsLast label list entry → last_of label list ≡ Some entry
given label list entry is =
    ap (last_of label) is.2
    ∙ ap (last_or None) (filter-append (is_of label) is.0 (entry ∷ is.1))
    ∙ last_or-append None (filter (is_of label) is.0) (filter (is_of label) (entry ∷ is.1))
    ∙ front label entry is.1 (last_of label is.0) true ((bytes_eq-Decides entry.label label).1 is.3)
    ∙ none_kept label is.1 (Some entry) is.4

pub last_is : (label : List ℕ) (list : List Entry) (entry : Entry) → (last_of label list ≡ Some entry) ↔ IsLast label list entry
last_is label list entry = (
  (λ e. ⊎_elim (λ (l : IsLast label list entry). l) (λ (r : (None ≡ Some entry) × HasNone label list). absurd (cc (r.0))) (found label list None entry e)),
  given label list entry,
)

-- something is last behind an entry
some_last : (y : Entry) (ys : List Entry) → last_or (Some y) ys ≡ None → ⊥
some_last y [] n = absurd (cc n)
some_last y (z ∷ zs) n = some_last z zs n

-- where nothing is last, no entry has the label
none_last : (label : List ℕ) (list : List Entry) (o : Option Entry) → last_or o (filter (is_of label) list) ≡ None → HasNone label list
none_last label [] o e = All-nil (Apart label)
none_last label (x ∷ list) o e = elim (is_of label x) as (λ b. is_of label x ≡ b → HasNone label (x ∷ list)) [
  | true ↦ λ t. absurd (some_last x (filter (is_of label) list) (sym (front label x list o true t) ∙ e))
  | false ↦ λ t. All-cons (Apart label) x list (apart_of label x t) (none_last label list o (sym (front label x list o false t) ∙ e))
] refl

pub none_is : (label : List ℕ) (list : List Entry) → (last_of label list ≡ None) ↔ HasNone label list
none_is label list = (none_last label list None, none_kept label list None)
