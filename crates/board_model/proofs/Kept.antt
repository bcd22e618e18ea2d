-- What keeps the rule.
use Rattle.std.proofs.Common.{◌≡◌, ℕ, zero, suc, ◌≤◌, List, [], ◌∷◌, ◌++◌, length, Option, Some, None, All, slice_get, set, refl, sym, ◌∙◌, subst, inl, inr, ◌⊎◌, arith}
use Rattle.std.proofs.lemmas.List.Elements.{All-head, All-tail, All-set, All-push, All-weaker}
use mathlib.Core.Logic.{dite}
use native.Mathlib.Decide.{dec_le}
use Rattle.board_model.specs.Rule.{Published, GoesOn, IsSeen, Keeps, Sees}
use Rattle.board_model.proofs.Prefixes.{prefix_self, prefix_trans, prefix_shorter}

pub goes_self : (p : Published) → GoesOn p p
goes_self p = (refl, prefix_self p.list)

pub goes_trans : (later middle earlier : Published) → GoesOn later middle → GoesOn middle earlier → GoesOn later earlier
goes_trans later middle earlier a b = (a.0 ∙ b.0, prefix_trans earlier.list middle.list later.list b.1 a.1)

-- a list that goes on from another goes on from what was seen of that one
pub seen_on : (later earlier : Published) → GoesOn later earlier → (seen : Option Published) → IsSeen earlier seen → IsSeen later seen
seen_on later earlier more None h = h
seen_on later earlier more (Some seen) h = goes_trans later earlier seen more h

-- what holds of each item holds of the one at a place
pub there : {X : Type 0} (P : X → Type 0) (xs : List X) (i : ℕ) (x : X) → All P xs → slice_get xs i ≡ Some x → P x
there P [] i x all e = absurd (cc e)
there P (y ∷ ys) zero x all e = let same : y ≡ x = cc e in subst P same (All-head P y ys all)
there P (y ∷ ys) (suc i) x all e = there P ys i x (All-tail P y ys all) e

-- the published list goes on, and whoever looks sees it
pub looks_keep : (before after : Published) (all : List (Option Published)) (at : ℕ) → Keeps before all → GoesOn after before → Keeps after (set all at (Some after))
looks_keep before after all at kept more =
    All-set (IsSeen after) all at (Some after) (goes_self after) (All-weaker (IsSeen before) (IsSeen after) (seen_on after before more) all kept)

pub sees : (seen : Option Published) (before after : Published) → IsSeen before seen → GoesOn after before → Sees seen before after (Some after)
sees seen before after h more = record { grown = more; later = seen_on after before more seen h; found = refl }

pub comes : (published : Published) (all : List (Option Published)) (seen : Option Published) → IsSeen published seen → Keeps published all → Keeps published (all ++ seen ∷ [])
comes published all seen h kept = All-push (IsSeen published) all seen kept h

pub takes : (published : Published) (all : List (Option Published)) (to : ℕ) (seen : Option Published) → IsSeen published seen → Keeps published all → Keeps published (set all to seen)
takes published all to seen h kept = All-set (IsSeen published) all to seen h kept

shorter_first : (published one other : Published) → GoesOn published one → GoesOn published other → length one.list ≤ length other.list → GoesOn other one
shorter_first published one other a b le = (sym b.0 ∙ a.0, prefix_shorter one.list other.list published.list a.1 b.1 le)

-- of two lists from which one goes on, one goes on from the other
pub one_list : (published one other : Published) → GoesOn published one → GoesOn published other → GoesOn one other ⊎ GoesOn other one
one_list published one other a b =
    dite (dec_le (length one.list) (length other.list)) (λ le. inr (shorter_first published one other a b le)) (λ more. inl (shorter_first published other one b a (omega arith)))
