-- What the beliefs of a client are, after some events.
use Rattle.std.specs.Prelude.{◌≡◌, ℕ, ◌-◌, List, length, slice_get, Some, Contains}
use Rattle.ring_model.specs.Messages.{Ring, Client as client}
use Rattle.ring_model.specs.Belief.{believed, replied, beating, sealing, heart_of}
use Rattle.ring_model.specs.World.{Event, world, chosen}
use Rattle.ring_model.specs.Laws.{IsPrefix, last_made}

-- each believed heart is that of a version which a prefix of the committed list makes
abbrev pub HeartsBelong : Ring → List Event → ℕ → Type 0
HeartsBelong g events c = (o : List ℕ) (v : ℕ) (n : List ℕ) → believed g (beating o v) ((world g events).got (client c)) ≡ Some n
    → (xs : List (List ℕ)) × IsPrefix xs (chosen g (world g events)) × (g.heart xs ≡ Some (record { object = o; version = v; name = n }))

-- each believed outcome of a request is that at a slot of the committed list which holds the client's request of that number
abbrev pub RepliesBelong : Ring → List Event → ℕ → Type 0
RepliesBelong g events c = (n : ℕ) (v : List ℕ) → believed g (replied n) ((world g events).got (client c)) ≡ Some v
    → (xs : List (List ℕ)) × (r : List ℕ) × IsPrefix xs (chosen g (world g events)) × (slice_get xs (length xs - 1) ≡ Some r) × (g.owner r ≡ c) × (g.number r ≡ n) × (g.outcome xs ≡ v)

-- each believed seal is that of a version which the committed list makes
abbrev pub SealsBelong : Ring → List Event → ℕ → Type 0
SealsBelong g events c = (o : List ℕ) (v : ℕ) (n : List ℕ) → believed g (sealing o v) ((world g events).got (client c)) ≡ Some n
    → (k : ℕ) × (slice_get (g.seals (chosen g (world g events))) k ≡ Some (record { object = o; version = v; name = n }))

-- of each of its requests the client believes the outcome at a slot of the committed list that holds it
abbrev pub AreAnswered : Ring → List Event → ℕ → Type 0
AreAnswered g events c = (r : List ℕ) → Contains (world g events).submits r → g.owner r ≡ c
    → (xs : List (List ℕ)) × IsPrefix xs (chosen g (world g events)) × (slice_get xs (length xs - 1) ≡ Some r) × (believed g (replied (g.number r)) ((world g events).got (client c)) ≡ Some (g.outcome xs))

-- the client's heart of each object is the last version that the committed list makes of it
abbrev pub AreTold : Ring → List Event → ℕ → Type 0
AreTold g events c = (o : List ℕ) → heart_of g o ((world g events).got (client c)) ≡ last_made g o (chosen g (world g events)) (length (chosen g (world g events)))
