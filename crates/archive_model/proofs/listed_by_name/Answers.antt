use Rattle.archive_model.proofs.Fitting.{found_by_name}
use Rattle.archive_model.proofs.listed_by_name.Goals as goal

pub returns : goal.returns
returns c = λ h code version object strings name. found_by_name h code strings name
