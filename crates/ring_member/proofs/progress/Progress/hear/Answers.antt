use Rattle.std.proofs.Common.{refl, ap, sym, ◌∙◌, Some, cond, nat_cmp}
use Rattle.std.specs.Map.{lookup}
use Rattle.std.specs.BTreeMap.{is_at}
use Rattle.std.specs.Cmp.{unsigned_ties}
use Rattle.std.specs.Cmp.Lexicographic.{slice_cmp, lists_ties}
use Rattle.ring_member.proofs.progress.Progress.hear.Goals as goal

pub returns-clause-hears : goal.returns-clause-hears
returns-clause-hears c = record {
  votes_are = refl;
  slots = λ s. refl;
  names = λ r. c.in_ok-insert.ensures.updates.0 r
      ∙ ap (λ b. cond b (Some c.args.name) (lookup (is_at (slice_cmp nat_cmp r)) c.args.self.now.names.entries)) (sym (lists_ties nat_cmp unsigned_ties c.args.request r));
  done_is = refl;
}
