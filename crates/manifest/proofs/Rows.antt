-- A list that a loop reads, one item after the other.
use Rattle.std.proofs.Common.{◌≡◌, ℕ, ◌+◌, ◌<◌, ◌≤◌, Bool, true, IsTrue, List, [], ◌∷◌, ◌++◌, length, refl, ap, sym, subst, ◌∙◌, append_assoc, append-nil, length-append, arith}
use Rattle.std.specs.List.{flat_map, list_all}
use Rattle.std.proofs.lemmas.List.Folds.{list_all-append}
use Rattle.manifest.proofs.Parts.{and_parts, both}

all_more : {X : Type 0} (is : X → Bool) (xs : List X) (x : X) → IsTrue (list_all is xs) → IsTrue (is x) → IsTrue (list_all is (xs ++ x ∷ []))
all_more is xs x all one = list_all-append is xs (x ∷ []) ∙ both (list_all is xs) (list_all is (x ∷ [])) all (both (is x) true one refl)

spelled_more : {X : Type 0} (spell : X → List ℕ) (xs : List X) (x : X) (rest : List ℕ) → flat_map spell (xs ++ x ∷ []) ++ rest ≡ flat_map spell xs ++ (spell x ++ rest)
spelled_more spell [] x rest = append_assoc (spell x) [] rest
spelled_more spell (y ∷ ys) x rest = append_assoc (spell y) (flat_map spell (ys ++ x ∷ [])) rest ∙ ap (λ t. spell y ++ t) (spelled_more spell ys x rest) ∙ sym (append_assoc (spell y) (flat_map spell ys) (spell x ++ rest))

-- index items of count were read from old, and now is left
pub record IsReading {X : Type 0} (spell : X → List ℕ) (is : X → Bool) (count index : ℕ) (old now : List ℕ) (out : List X) : Type 0 where
  pub done : length out ≡ index
  pub front : old ≡ flat_map spell out ++ now
  pub all : IsTrue (list_all is out)
  pub again : (xs : List X) (rest : List ℕ) → length xs ≡ count → IsTrue (list_all is xs) → old ≡ flat_map spell xs ++ rest
      → (ys : List X) × (xs ≡ out ++ ys) × IsTrue (list_all is ys) × (now ≡ flat_map spell ys ++ rest)

module _ {X : Type 0} (spell : X → List ℕ) (is : X → Bool) where
  pub nothing_read : (count : ℕ) (old : List ℕ) → IsReading spell is count 0 old old []
  nothing_read count old = record { done = refl; front = refl; all = refl; again = λ xs rest len all e. (xs, refl, all, e) }

  -- one item more
  pub one_read : (count index : ℕ) (old now left : List ℕ) (out pushed : List X) (x : X) → index < count → IsReading spell is count index old now out
      → now ≡ spell x ++ left → IsTrue (is x) → ((y : X) (rest : List ℕ) → IsTrue (is y) → now ≡ spell y ++ rest → (x ≡ y) × (left ≡ rest)) → pushed ≡ out ++ x ∷ []
      → IsReading spell is count (index + 1) old left pushed
  one_read count index old now left out pushed x below r found one again more = subst (IsReading spell is count (index + 1) old left) (sym more) record {
    done = omega (arith, length-append out (x ∷ []), r.done);
    front = r.front ∙ ap (λ t. flat_map spell out ++ t) found ∙ sym (spelled_more spell out x left);
    all = all_more is out x r.all one;
    again = λ xs rest len all e. let o = r.again xs rest len all e in tail xs rest len o.0 o.1 o.2 o.3;
  } where
    tail : (xs : List X) (rest : List ℕ) → length xs ≡ count → (ys : List X) → xs ≡ out ++ ys → IsTrue (list_all is ys) → now ≡ flat_map spell ys ++ rest
        → (zs : List X) × (xs ≡ (out ++ x ∷ []) ++ zs) × IsTrue (list_all is zs) × (left ≡ flat_map spell zs ++ rest)
    tail xs rest len [] e all here = absurd (omega (arith, len, ap length e, length-append out [], r.done))
    tail xs rest len (y ∷ ys) e all here =
        let parts = and_parts (is y) (list_all is ys) all in
        let next = again y (flat_map spell ys ++ rest) parts.0 (here ∙ append_assoc (spell y) (flat_map spell ys) rest) in
        (ys, e ∙ ap (λ z. out ++ z ∷ ys) (sym next.0) ∙ sym (append_assoc out (x ∷ []) ys), parts.1, next.1)

  -- where no item is in front, no such list is spelled; Q is what then follows
  pub none_read : (Q : Type 0) (count index : ℕ) (old now : List ℕ) (out : List X) → index < count → IsReading spell is count index old now out
      → ((y : X) (rest : List ℕ) → IsTrue (is y) → now ≡ spell y ++ rest → Q)
      → (xs : List X) (rest : List ℕ) → length xs ≡ count → IsTrue (list_all is xs) → old ≡ flat_map spell xs ++ rest → Q
  none_read Q count index old now out below r again xs rest len all e = let o = r.again xs rest len all e in stop o.0 o.1 o.2 o.3 where
    stop : (ys : List X) → xs ≡ out ++ ys → IsTrue (list_all is ys) → now ≡ flat_map spell ys ++ rest → Q
    stop [] e all here = absurd (omega (arith, len, ap length e, length-append out [], r.done))
    stop (z ∷ zs) e all here = again z (flat_map spell zs ++ rest) (and_parts (is z) (list_all is zs) all).0 (here ∙ append_assoc (spell z) (flat_map spell zs) rest)

  -- all items were read
  pub all_read : (count index : ℕ) (old now : List ℕ) (out : List X) → count ≤ index → IsReading spell is count index old now out
      → (xs : List X) (rest : List ℕ) → length xs ≡ count → IsTrue (list_all is xs) → old ≡ flat_map spell xs ++ rest → (out ≡ xs) × (now ≡ rest)
  all_read count index old now out past r xs rest len all e = let o = r.again xs rest len all e in whole o.0 o.1 o.3 where
    whole : (ys : List X) → xs ≡ out ++ ys → now ≡ flat_map spell ys ++ rest → (out ≡ xs) × (now ≡ rest)
    whole [] e here = (sym (e ∙ append-nil out), here)
    whole (y ∷ ys) e here = absurd (omega (arith, len, ap length e, length-append out (y ∷ ys), r.done))
