use Rattle.archive_model.proofs.Sizes.{manifest_is_read}
use Rattle.archive_model.proofs.manifests_are_read.Goals as goal

pub returns : goal.returns
returns c = manifest_is_read
