use Rattle.std.proofs.Common.{take}
use Rattle.sha1.specs.Sha1.{Holds}
use Rattle.block_names.specs.Digest.{folded}
use Rattle.block_names.proofs.fold_hash.folded_digest.Given as goal

abbrev pub invariant-loop-byte : goal.invariant-loop-byte
invariant-loop-byte l = Holds l.hasher (folded (take l.byte-index l.bytes))
