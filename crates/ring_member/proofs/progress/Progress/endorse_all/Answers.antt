use Rattle.std.proofs.Common.{◌<◌, length, map, arith}
use Rattle.message_model.specs.Meaning.{said}
use Rattle.ring_member.specs.Views.{view_of}
use Rattle.ring_member.specs.Told.{prepare_heard, commit_heard}
use Rattle.ring_member.proofs.Rising.{items_step}
use Rattle.std.proofs.Common.{refl, get_or}
use Rattle.ring_member.proofs.progress.Progress.endorse_all.Goals as goal

pub loop-seq-preserved : goal.loop-seq-preserved
loop-seq-preserved c =
    let a = c.args in
    let i = c.loop-seq.seq-index in
    let low : i < length a.seqs.now = omega arith in
    let F = prepare_heard (view_of a.self.now) a.request.now a.name in
    let G = commit_heard a.self.now.f (view_of a.self.now) a.request.now a.name in
    record {
      prepares = items_step F (map said a.prepares.now.items) (map said c.loop-seq.prepares.items) (map said c.endorse.new.prepares.items) (F (get_or a.seqs.now i 0)) a.seqs.now i low c.loop-seq.invariant.prepares c.in_ok-endorse.ensures.prepares refl;
      commits = items_step G (map said a.commits.now.items) (map said c.loop-seq.commits.items) (map said c.endorse.new.commits.items) (G (get_or a.seqs.now i 0)) a.seqs.now i low c.loop-seq.invariant.commits c.in_ok-endorse.ensures.commits refl;
      prepares_fit = λ all. c.in_ok-endorse.ensures.prepares_fit (c.loop-seq.invariant.prepares_fit all);
      commits_fit = λ all. c.in_ok-endorse.ensures.commits_fit (c.loop-seq.invariant.commits_fit all);
    }
