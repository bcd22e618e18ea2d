use Rattle.std.proofs.Common.{refl}
use Rattle.fold_model.proofs.ring_folds.Goals as goal

pub returns : goal.returns
returns c = λ faults clients are_faulty h block archiving. record { outcomes = λ strings. refl; hearts = λ strings. refl; named = λ strings. refl }
