-- What a push comes to.
use Rattle.std.proofs.Common.{◌≡◌, ◌≤◌, ◌<◌, ◌||◌, ℕ, Bool, true, false, List, Some, nat_le, slice_get, if◌then◌else◌, refl, ap, sym, ◌∙◌}
use Rattle.std.proofs.lemmas.Bool.{le-leb, lt-leb}
use Rattle.replica_model.specs.Replicas.{Replica, parents_of}
use Rattle.replica_model.specs.Offers.{Answers}
use Rattle.replica_model.specs.Pushes.{Pushed, last_at, taking, refused, taken_if_newer, pushed}
use Rattle.replica_model.specs.declared.places.Place.{Place}
use Rattle.replica_model.specs.declared.places.Place.TheVariants.{Replica as At}
use Rattle.replica_model.specs.declared.places.Last.{Last}
use Rattle.replica_model.specs.declared.places.Push.TheVariants.{Behind, Cut}

second_true : (a b : Bool) → b ≡ true → (a || b) ≡ true
second_true true b e = refl
second_true false b e = e

module _ (h : List ℕ → List ℕ) (answers : Answers) (replicas : List Replica) (r : ℕ) (label : List ℕ) (parent : Place) (at : slice_get (parents_of replicas) r ≡ Some parent) where
  abbrev otherwise : Pushed
  otherwise = taken_if_newer h answers replicas r label (last_at answers replicas (At r) label) (last_at answers replicas parent label)

  by_cut : (b : Bool) → (answers.cut (At r) || answers.cut parent) ≡ b → (if b then refused Cut replicas else otherwise) ≡ pushed h answers replicas r label
  unfolding pushed
  by_cut b e = rw (at, pushed) (sym (ap (λ c. if c then refused Cut replicas else otherwise) e))

  pub pushed_cut : answers.cut (At r) ≡ true → refused Cut replicas ≡ pushed h answers replicas r label
  pushed_cut e = by_cut true (ap (λ b. b || answers.cut parent) e)

  pub pushed_parent_cut : answers.cut parent ≡ true → refused Cut replicas ≡ pushed h answers replicas r label
  pushed_parent_cut e = by_cut true (second_true (answers.cut (At r)) (answers.cut parent) e)

  by_version : (mine theirs : Last) (b : Bool) → answers.cut (At r) ≡ false → answers.cut parent ≡ false → mine ≡ last_at answers replicas (At r) label → theirs ≡ last_at answers replicas parent label
      → nat_le theirs.version.0 mine.version.0 ≡ b → (if b then refused (Behind mine.version theirs.version) replicas else taking h answers replicas r label theirs) ≡ pushed h answers replicas r label
  by_version mine theirs b own up m t e =
      sym (ap (λ c. if c then refused (Behind mine.version theirs.version) replicas else taking h answers replicas r label theirs) e)
      ∙ (λ i. taken_if_newer h answers replicas r label (m i) (t i))
      ∙ by_cut false (ap (λ b. b || answers.cut parent) own ∙ up)

  pub pushed_behind : (mine theirs : Last) → answers.cut (At r) ≡ false → answers.cut parent ≡ false → mine ≡ last_at answers replicas (At r) label → theirs ≡ last_at answers replicas parent label
      → theirs.version.0 ≤ mine.version.0 → refused (Behind mine.version theirs.version) replicas ≡ pushed h answers replicas r label
  pushed_behind mine theirs own up m t l = by_version mine theirs true own up m t (le-leb theirs.version.0 mine.version.0 l)

  pub pushed_newer : (mine theirs : Last) → answers.cut (At r) ≡ false → answers.cut parent ≡ false → mine ≡ last_at answers replicas (At r) label → theirs ≡ last_at answers replicas parent label
      → mine.version.0 < theirs.version.0 → taking h answers replicas r label theirs ≡ pushed h answers replicas r label
  pushed_newer mine theirs own up m t l = by_version mine theirs false own up m t (lt-leb theirs.version.0 mine.version.0 l)
