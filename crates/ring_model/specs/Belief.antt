-- What a client believes.
use Rattle.std.specs.Prelude.{ℕ, ◌+◌, cond, ◌==◌, ◌&&◌, nat_le, nat_lt, List, [], ◌∷◌, Option, Some, None, bytes_eq, is_some}
use Rattle.std.specs.Option.{option_or, option_map}
use Rattle.ring_model.specs.Messages.{Message, Reply, Heart, Sealed, Letter, Mark, Ring}
use Rattle.ring_model.specs.History.{voters, passing}

-- the outcome that a message gives to the request of number n
abbrev pub replied : ℕ → Message → Option (List ℕ)
replied n (Reply k outcome) = cond (k == n) (Some outcome) None
replied n _ = None

-- the name that a message gives to the root of version v of an object
abbrev pub beating : List ℕ → ℕ → Message → Option (List ℕ)
beating object v (Heart o w name) = cond (bytes_eq o object && w == v) (Some name) None
beating object v _ = None

-- the name that a message gives to the manifest of version v of an object
abbrev pub sealing : List ℕ → ℕ → Message → Option (List ℕ)
sealing object v (Sealed o w name) = cond (bytes_eq o object && w == v) (Some name) None
sealing object v _ = None

-- A client believes the value that f+1 members have as their first word, the one that had so many first.
abbrev pub believed : Ring → (Message → Option (List ℕ)) → List Letter → Option (List ℕ)
believed g say [] = None
believed g say (l ∷ older) = option_or (believed g say older) (passing (λ v. nat_le (g.f + 1) (voters g say v (l ∷ older))) (say l.message))

-- the version of the object whose heart the message is
abbrev pub beats_for : List ℕ → Message → Option ℕ
beats_for object (Heart o w name) = cond (bytes_eq o object) (Some w) None
beats_for object _ = None

-- the greater of two versions, where there are any
abbrev pub greater : Option ℕ → Option ℕ → Option ℕ
greater None w = w
greater (Some v) None = Some v
greater (Some v) (Some w) = cond (nat_lt v w) (Some w) (Some v)

-- the greatest version among those that the letters speak of whose heart is believed by all letters
abbrev pub newest : Ring → List ℕ → List Letter → List Letter → Option ℕ
newest g object all [] = None
newest g object all (l ∷ ls) = greater (newest g object all ls) (passing (λ v. is_some (believed g (beating object v) all)) (beats_for object l.message))

-- a version with the name that is believed of its root
abbrev pub named : Ring → List ℕ → List Letter → Option ℕ → Option Mark
named g object got None = None
named g object got (Some v) = option_map (λ n. record { object = object; version = v; name = n }) (believed g (beating object v) got)

-- A client's heart of an object is the believed heart of the greatest version.
abbrev pub heart_of : Ring → List ℕ → List Letter → Option Mark
heart_of g object got = named g object got (newest g object got got)
