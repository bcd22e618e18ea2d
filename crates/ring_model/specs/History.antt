-- First words and how many members share one. A history is a list whose newest entry stands first.
use Rattle.std.specs.Prelude.{ℕ, zero, suc, ◌+◌, Bool, false, cond, List, [], ◌∷◌, Option, Some, None, count_by, bytes_eq}
use Rattle.std.specs.Option.{option_or}
use Rattle.ring_model.specs.Messages.{Party, Member, Message, Letter, Ring, members, same_party}

-- the first thing said along a history
abbrev pub first_said : {X Y : Type 0} → (X → Option Y) → List X → Option Y
first_said say [] = None
first_said say (x ∷ older) = option_or (first_said say older) (say x)

-- what a letter says, if it is from this party
abbrev pub said_by : {Y : Type 0} → Party → (Message → Option Y) → Letter → Option Y
said_by p say l = cond (same_party l.from p) (say l.message) None

-- the first word of a party
abbrev pub first_word : {Y : Type 0} → Party → (Message → Option Y) → List Letter → Option Y
first_word p say got = first_said (said_by p say) got

-- whether there is a word, and it is this name
abbrev pub is_name : List ℕ → Option (List ℕ) → Bool
is_name d None = false
is_name d (Some e) = bytes_eq e d

-- how many members have this as their first word
abbrev pub voters : Ring → (Message → Option (List ℕ)) → List ℕ → List Letter → ℕ
voters g say d got = count_by (λ j. is_name d (first_word (Member j) say got)) (members g)

-- what is there, if it passes
abbrev pub passing : {Y : Type 0} → (Y → Bool) → Option Y → Option Y
passing p None = None
passing p (Some y) = cond (p y) (Some y) None

-- a list that begins with what is there, or ends where nothing is
abbrev pub go_on : {Y : Type 0} → Option Y → List Y → List Y
go_on None rest = []
go_on (Some y) rest = y ∷ rest

-- what the places from s on have, up to the first that has nothing, at most n of them
abbrev pub run_of : {Y : Type 0} → (ℕ → Option Y) → ℕ → ℕ → List Y
run_of has zero s = []
run_of has (suc n) s = go_on (has s) (run_of has n (s + 1))
