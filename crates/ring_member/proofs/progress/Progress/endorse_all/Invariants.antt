use Rattle.std.proofs.Common.{◌≡◌, ◌++◌, map, flat_map, take}
use Rattle.std.specs.List.{AllByRecursion}
use Rattle.ring_message.specs.Grammar.{MessageFits}
use Rattle.message_model.specs.Meaning.{said}
use Rattle.ring_member.specs.Views.{view_of}
use Rattle.ring_member.specs.Told.{prepare_heard, commit_heard}
use Rattle.ring_member.proofs.progress.Progress.endorse_all.Given as goal

abbrev pub invariant-loop-seq : goal.invariant-loop-seq
invariant-loop-seq l = record {
  prepares : map said l.prepares.items ≡ map said l.fn.prepares.items ++ flat_map (prepare_heard (view_of l.self) l.request l.name) (take l.seq-index l.seqs);
  commits : map said l.commits.items ≡ map said l.fn.commits.items ++ flat_map (commit_heard l.self.f (view_of l.self) l.request l.name) (take l.seq-index l.seqs);
  prepares_fit : AllByRecursion MessageFits l.fn.prepares.items → AllByRecursion MessageFits l.prepares.items;
  commits_fit : AllByRecursion MessageFits l.fn.commits.items → AllByRecursion MessageFits l.commits.items;
}
