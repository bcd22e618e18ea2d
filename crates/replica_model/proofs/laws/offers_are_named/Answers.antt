use Rattle.std.proofs.Common.{◌≡◌, List, ℕ}
use Rattle.replica_model.proofs.Keeping.{IsRight, offered_right, holds_wider}
use Rattle.replica_model.proofs.laws.offers_are_named.Goals as goal

IsAny : List ℕ → Type 0
IsAny bytes = Unit {0}

pub returns : goal.returns
unfolding IsAny
returns c = λ h answers replicas r it name bytes all at lie e.
    (offered_right h IsAny answers replicas r it name bytes (holds_wider (λ n b. h b ≡ n) (IsRight h IsAny answers) replicas (λ n b e. (e, tt)) all) at lie (λ s c. tt) e).0
