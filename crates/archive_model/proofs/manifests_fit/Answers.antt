use Rattle.archive_model.proofs.Fitting.{manifest_fits}
use Rattle.archive_model.proofs.manifests_fit.Goals as goal

pub returns : goal.returns
returns c = manifest_fits
