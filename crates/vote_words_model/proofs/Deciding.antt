-- Two quorums of one kind of word of a slot have one value.
use Rattle.std.proofs.Common.{◌≡◌, ◌≢◌, ℕ, ◌+◌, ◌*◌, ◌≤◌, ◌==◌, List, sym, ◌∙◌}
use Rattle.std.specs.Prelude.{slice_index}
use Rattle.std.specs.List.{range_with_len}
use Rattle.std.proofs.lemmas.Bool.{eqb-true}
use Rattle.std.proofs.lemmas.List.Elements.{All-weaker}
use Rattle.vote_words_model.specs.declared.Terms.{Terms}
use Rattle.vote_words_model.specs.declared.View.{View}
use Rattle.vote_words_model.specs.Places.{prepare_word, commit_word}
use Rattle.vote_words_model.specs.Views.{knows, IsSound, IsPrepared, IsDecided}
use Rattle.vote_words_model.specs.Steps.{Stands, count_standing}
use Rattle.vote_words_model.specs.Laws.{CommitsAgree, ViewsAreSound, DecidesOne}
use Rattle.vote_words_model.proofs.Counting.{two_quorums}
use Rattle.vote_words_model.proofs.Knowing.{IsSound-standing}

-- a sound view has decided one value
pub decides_one : DecidesOne
decides_one t v sound slot x y dx dy =
    let r = two_quorums t.f (commit_word t slot 0) (λ i. knows v i x) (λ i. knows v i y) dx dy in
    (sound r.0 x y r.1 r.2).1

-- what is decided is not 0
pub decided_full : (t : Terms) (v : View) → IsSound v → (slot x : ℕ) → IsDecided t v slot x → x ≢ 0
decided_full t v sound slot x d =
    let r = two_quorums t.f (commit_word t slot 0) (λ i. knows v i x) (λ i. knows v i x) d d in
    (sound r.0 x x r.1 r.2).0

-- nor is what is prepared
pub prepared_full : (t : Terms) (v : View) → IsSound v → (slot x : ℕ) → IsPrepared t v slot x → x ≢ 0
prepared_full t v sound slot x d =
    let r = two_quorums t.f (prepare_word t slot 0) (λ i. knows v i x) (λ i. knows v i x) d d in
    (sound r.0 x x r.1 r.2).0

-- two values that stand in a quorum of words side by side are one
pub stands_one : (f from : ℕ) (words : List ℕ) (x y : ℕ) → 2 * f + 1 ≤ count_standing words (range_with_len from (3 * f + 1)) x → 2 * f + 1 ≤ count_standing words (range_with_len from (3 * f + 1)) y → x ≡ y
stands_one f from words x y a b =
    let r = two_quorums f from (λ i. slice_index words i == x) (λ i. slice_index words i == y) a b in
    sym (eqb-true (slice_index words r.0) x r.1) ∙ eqb-true (slice_index words r.0) y r.2

pub commits_agree : CommitsAgree
commits_agree t b slot i j kept at_i at_j full_i full_j =
    stands_one t.f (prepare_word t slot 0) b.words (slice_index b.words (commit_word t slot i)) (slice_index b.words (commit_word t slot j)) (kept.backed slot i at_i full_i) (kept.backed slot j at_j full_j)

pub views_are_sound : ViewsAreSound
views_are_sound t b kept = All-weaker (λ v. Stands b.words v.known) IsSound (λ v h. IsSound-standing b.words v h) b.views kept.known
