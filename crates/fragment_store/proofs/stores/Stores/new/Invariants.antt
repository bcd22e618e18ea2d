use Rattle.std.proofs.Common.{◌≡◌, [], replicate}
use Rattle.fragment_store.proofs.stores.Stores.new.Given as goal

abbrev pub invariant-loop-index : goal.invariant-loop-index
invariant-loop-index l = l.stores.items ≡ replicate l._index []
