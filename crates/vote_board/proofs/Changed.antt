-- What an exchange makes of a view.
use Rattle.std.proofs.Common.{◌≡◌, ℕ, ◌≤◌, Bool, true, false, cond, ◌==◌, List, [], ◌∷◌, ◌++◌, append_assoc, append-nil, sym, ap, ◌∙◌, subst, arith}
use Rattle.vote_words_model.specs.declared.View.{View}
use Rattle.vote_words_model.specs.declared.Terms.{Terms}
use Rattle.vote_words_model.specs.Places.{prepare_words, commit_words}
use Rattle.vote_words_model.specs.Views.{has_pair, knows, IsSound, IsPrepared, count_known, loaded, stood, exchanged}
use Rattle.vote_words_model.proofs.Counting.{count_by-le-count_by}
use Rattle.vote_words_model.proofs.Knowing.{has_pair-append_left, has_pair-append_right}
use Rattle.vote_words_model.proofs.Deciding.{decides_one}
use Rattle.vote_board.specs.Changes.{Remembers, DecideAlike}

pub Remembers-trans : (u v w : View) → Remembers u v → Remembers v w → Remembers u w
Remembers-trans u v w a b = (a.0 ++ b.0, b.1 ∙ ap (λ known. known ++ b.0) a.1 ∙ append_assoc u.known a.0 b.0)

-- a load adds a pair or none
pub loaded_remembers : (v w : View) (word found : ℕ) → w ≡ loaded v word found → Remembers v w
loaded_remembers v w word found e = at (found == 0) (ap (λ (u : View). u.known) e)
  where
    at : (b : Bool) → w.known ≡ cond b v.known (v.known ++ (word, found) ∷ []) → Remembers v w
    at true h = ([], h ∙ sym (append-nil v.known))
    at false h = ((word, found) ∷ [], h)

-- what either of two views knows is known where they are joined
pub count_known-left : (v w u : View) → u.known ≡ v.known ++ w.known → (words : List ℕ) (x : ℕ) → count_known v words x ≤ count_known u words x
count_known-left v w u e words x =
    count_by-le-count_by (λ i. knows v i x) (λ i. knows u i x) (λ i k. subst (λ (known : List (ℕ × ℕ)). has_pair known i x ≡ true) (sym e) (has_pair-append_left v.known w.known i x k)) words

count_known-right : (v w u : View) → u.known ≡ v.known ++ w.known → (words : List ℕ) (x : ℕ) → count_known w words x ≤ count_known u words x
count_known-right v w u e words x =
    count_by-le-count_by (λ i. knows w i x) (λ i. knows u i x) (λ i k. subst (λ (known : List (ℕ × ℕ)). has_pair known i x ≡ true) (sym e) (has_pair-append_right v.known w.known i x k)) words

-- two views that are joined soundly have decided one value for a slot
pub joined_alike : (t : Terms) (v w u : View) → u.known ≡ v.known ++ w.known → IsSound u → DecideAlike t v w
joined_alike t v w u e sound slot x y dx dy =
    let left = count_known-left v w u e (commit_words t slot) x in
    let right = count_known-right v w u e (commit_words t slot) y in
    decides_one t u sound slot x y (omega arith) (omega arith)

-- what was prepared stays so
pub prepared_later : (t : Terms) (v w : View) (slot x : ℕ) → Remembers v w → IsPrepared t v slot x → IsPrepared t w slot x
prepared_later t v w slot x more prepared =
    let known = count_by-le-count_by (λ i. knows v i x) (λ i. knows w i x) (λ i k. subst (λ (pairs : List (ℕ × ℕ)). has_pair pairs i x ≡ true) (sym more.1) (has_pair-append_left v.known more.0 i x k)) (prepare_words t slot) in
    omega arith

-- an exchange adds a pair
pub exchanged_remembers : (v w : View) (word value found : ℕ) → w ≡ exchanged v word value found → Remembers v w
exchanged_remembers v w word value found e = ((word, stood value found) ∷ [], ap (λ (u : View). u.known) e)
