-- What is taken in from the place above a replica.
use Rattle.std.proofs.Common.{◌≡◌, ◌<◌, ◌+◌, ◌*◌, ℕ, List, [], ◌∷◌, ◌++◌, Option, Some, None, true, false, length, drop, slice_get, if◌then◌else◌, refl, ap, sym, subst, ◌∙◌, append_assoc, arith}
use Rattle.std.proofs.lemmas.List.{length-map}
use Rattle.replica_model.specs.Replicas.{Replica, IsForest, IsPlaceOf, parents_of, chain, above}
use Rattle.replica_model.specs.Offers.{Answers, Offer, given, after_names, taken_in, own_or, offered_up, offered, fetched}
use Rattle.replica_model.specs.declared.places.Place.{Place}
use Rattle.replica_model.specs.declared.places.Place.TheVariants.{Member, Replica as At}
use Rattle.replica_model.proofs.Chaining.{goes_up, chain_begins}
use Rattle.pond_base.specs.declared.numbers.MemberId.{MemberId}

pub count_of : (replicas : List Replica) → length (parents_of replicas) ≡ length replicas
count_of replicas = length-map replicas (λ (it : Replica). it.parent)

-- the parent of a replica is a member or one of the replicas
pub parent_is_there : (replicas : List Replica) (r : ℕ) (parent : Place) → IsForest (parents_of replicas) → r < length replicas → slice_get (parents_of replicas) r ≡ Some parent → IsPlaceOf replicas parent
parent_is_there replicas r (Member member) forest l at = tt
parent_is_there replicas r (At p) forest l at = let below : p < r = forest r p at in omega (arith, below, l)

-- and a replica has a lower number
pub parent_is_lower : (replicas : List Replica) (r p : ℕ) (parent : Place) → IsForest (parents_of replicas) → slice_get (parents_of replicas) r ≡ Some parent → parent ≡ At p → p < r
parent_is_lower replicas r p parent forest at is = forest r p (at ∙ ap Some is)

module _ (h : List ℕ → List ℕ) (answers : Answers) (name : List ℕ) (replicas : List Replica) (r : ℕ) where
  abbrev taking_in : Offer → Offer
  taking_in came = after_names came.named (taken_in h name r came.string came.replicas)

  -- a place that is cut gives nothing
  from_cut : (places : List Place) (parent : Place) (rest : List Place) → places ≡ parent ∷ rest → answers.cut parent ≡ true → given None replicas ≡ fetched h answers places r name replicas
  unfolding fetched
  from_cut places parent rest begins cut =
      subst (λ (ps : List Place). given None replicas ≡ fetched h answers ps r name replicas) (sym begins)
      (sym (ap (λ b. taking_in (if b then given None replicas else offered_up h answers name (parent ∷ rest) replicas)) cut))

  -- from any other its offer is taken in
  from_open : (places : List Place) (parent : Place) (rest : List Place) → places ≡ parent ∷ rest → answers.cut parent ≡ false → taking_in (offered_up h answers name places replicas) ≡ fetched h answers places r name replicas
  unfolding fetched
  from_open places parent rest begins uncut =
      subst (λ (ps : List Place). taking_in (offered_up h answers name ps replicas) ≡ fetched h answers ps r name replicas) (sym begins)
      (sym (ap (λ b. taking_in (if b then given None replicas else offered_up h answers name (parent ∷ rest) replicas)) uncut))

  module _ (parent : Place) (forest : IsForest (parents_of replicas)) (l : r < length replicas) (at : slice_get (parents_of replicas) r ≡ Some parent) where
    goes_on : above replicas r ≡ chain (parents_of replicas) parent
    goes_on = ap (drop 1) (goes_up (parents_of replicas) r parent forest at)

    begins_there : above replicas r ≡ parent ∷ drop 1 (chain (parents_of replicas) parent)
    begins_there = goes_on ∙ chain_begins (parents_of replicas) parent (let n = count_of replicas in omega (arith, n, l))

    pub fetched_cut : answers.cut parent ≡ true → given None replicas ≡ fetched h answers (above replicas r) r name replicas
    fetched_cut = from_cut (above replicas r) parent (drop 1 (chain (parents_of replicas) parent)) begins_there

    -- the offer of the parent is taken in
    pub fetched_open : answers.cut parent ≡ false → taking_in (offered_up h answers name (chain (parents_of replicas) parent) replicas) ≡ fetched h answers (above replicas r) r name replicas
    fetched_open uncut =
        ap (λ (ps : List Place). taking_in (offered_up h answers name ps replicas)) (sym goes_on)
        ∙ from_open (above replicas r) parent (drop 1 (chain (parents_of replicas) parent)) begins_there uncut

    -- what came, and the replicas after it
    pub fetched_is : (came : Option (List ℕ)) (now : List Replica) → answers.cut parent ≡ false
        → came ≡ (offered_up h answers name (chain (parents_of replicas) parent) replicas).string → now ≡ (offered_up h answers name (chain (parents_of replicas) parent) replicas).replicas
        → after_names (offered_up h answers name (chain (parents_of replicas) parent) replicas).named (taken_in h name r came now) ≡ fetched h answers (above replicas r) r name replicas
    fetched_is came now uncut s n =
        (λ i. after_names (offered_up h answers name (chain (parents_of replicas) parent) replicas).named (taken_in h name r (s i) (n i)))
        ∙ fetched_open uncut

  -- a replica offers what it has itself, or else what it takes in
  pub offered_is : r < length replicas → offered h answers replicas r name ≡ own_or replicas name r (fetched h answers (above replicas r) r name replicas)
  unfolding offered_up fetched
  offered_is l =
      ap (λ (ps : List Place). offered_up h answers name ps replicas) (chain_begins (parents_of replicas) (At r) (let n = count_of replicas in omega (arith, n, l)))

-- a member gives its string
pub member_gives : (h : List ℕ → List ℕ) (answers : Answers) (name : List ℕ) (replicas : List Replica) (place : Place) (member : MemberId) → place ≡ Member member
    → given (answers.string member name) replicas ≡ offered_up h answers name (chain (parents_of replicas) place) replicas
unfolding chain offered_up
member_gives h answers name replicas place member is = sym (ap (λ (p : Place). offered_up h answers name (chain (parents_of replicas) p) replicas) is)

-- a fetch comes before the offer of the same replica, and what its parent offers before that
abbrev pub height : Place → ℕ
height (Member member) = 0
height (At r) = 3 * r + 3

-- a chain ends with a member
pub chain_ends : (parents : List Place) (place : Place) → ((r : ℕ) → place ≡ At r → ⊥) → chain parents place ≡ place ∷ []
unfolding chain
chain_ends parents (Member member) none = refl
chain_ends parents (At r) none = absurd (none r refl)

-- the places so far and one more, and the chain from its parent on
pub chain_further : (parents : List Place) (r : ℕ) (parent place : Place) (places more whole : List Place) → IsForest parents → slice_get parents r ≡ Some parent → place ≡ At r → more ≡ places ++ At r ∷ []
    → places ++ chain parents place ≡ whole → more ++ chain parents parent ≡ whole
chain_further parents r parent place places more whole forest at is pushed so_far =
    ap (λ (ps : List Place). ps ++ chain parents parent) pushed
    ∙ append_assoc places (At r ∷ []) (chain parents parent)
    ∙ ap (λ (ps : List Place). places ++ ps) (sym (ap (chain parents) is ∙ goes_up parents r parent forest at))
    ∙ so_far
