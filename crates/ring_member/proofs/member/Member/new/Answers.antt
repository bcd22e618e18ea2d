use Rattle.std.proofs.Common.{refl, ap, nat_cmp}
use Rattle.std.specs.Map.{lookup}
use Rattle.std.specs.BTreeMap.{is_at}
use Rattle.std.specs.Cmp.Lexicographic.{slice_cmp}
use Rattle.ring_member.proofs.Fresh.{fresh_stands}
use Rattle.ring_member.proofs.member.Member.new.Goals as goal

pub returns : goal.returns
returns c = λ g faults limit. record {
  is = refl;
  progress_stands = fresh_stands g c.args.f _ faults c.requires limit c.new.ensures.floor c.new.ensures.votes
      (λ s. ap (lookup (is_at (nat_cmp s))) c.new-2.ensures.empty) (λ r. ap (lookup (is_at (slice_cmp nat_cmp r))) c.new-3.ensures.empty) c.new-4.ensures;
  orders_stand = λ z. c.new-5.ensures.stands g limit;
}
