-- The clients and numbers of requests.
use Rattle.std.proofs.Common.{◌≡◌, ◌==◌, ◌&&◌, ◌||◌, ℕ, Bool, true, false, cond, List, [], ◌∷◌, refl, ap, sym, ◌∙◌, inl, inr}
use Rattle.std.proofs.lemmas.Bool.{cases_eq, eq-eqb, ne_eqb}
use Rattle.std.specs.List.{list_any}
use Rattle.std.specs.BTreeMap.{is_at}
use Rattle.std.specs.declared.cmp.Ordering.{Ordering}
use Rattle.pond_base.specs.declared.numbers.ClientId.{ClientId}
use Rattle.object_fold.specs.Executed.{is_seen, SeesOneMore}

abbrev Pair : Type 0
Pair = ClientId × ℕ

eq_turned : (a b : ℕ) → (a == b) ≡ (b == a)
eq_turned a b = elim (cases_eq a b) [
  | inl same ↦ eq-eqb a b same ∙ sym (eq-eqb b a (sym same))
  | inr other ↦ ne_eqb a b other ∙ sym (ne_eqb b a (λ same. other (sym same)))
]

any_same : (f g : Pair → Bool) → ((p : Pair) → f p ≡ g p) → (ps : List Pair) → list_any f ps ≡ list_any g ps
any_same f g same [] = refl
any_same f g same (p ∷ ps) = ap (λ b. b || list_any f ps) (same p) ∙ ap (λ b. g p || b) (any_same f g same ps)

or_first : (a b : Bool) → cond a true b ≡ (a || b)
or_first true b = refl
or_first false b = refl

-- a pair that is put among others is seen, and the others are as before
pub put_pair : (compare : Pair → Pair → Ordering) (old new : List Pair) (client : ClientId) (number : ℕ)
    → ((p q : Pair) → is_at (compare p) q ≡ (p.0.0 == q.0.0 && p.1 == q.1))
    → ((q : Pair) → list_any (is_at (compare q)) new ≡ cond (is_at (compare (client, number)) q) true (list_any (is_at (compare q)) old))
    → SeesOneMore old new client number
put_pair compare old new client number ties put other =
    let seen = any_same (is_at (compare (other.client, other.number))) (λ (p : Pair). other.client.0 == p.0.0 && other.number == p.1) (ties (other.client, other.number)) in
    sym (seen new) ∙ put (other.client, other.number)
    ∙ ap (cond (is_at (compare (client, number)) (other.client, other.number)) true) (seen old)
    ∙ ap (λ b. cond b true (is_seen old other)) (ties (client, number) (other.client, other.number)
    ∙ ap (λ b. b && number == other.number) (eq_turned client.0 other.client.0) ∙ ap (λ b. other.client.0 == client.0 && b) (eq_turned number other.number))
    ∙ or_first (other.client.0 == client.0 && other.number == number) (is_seen old other)
