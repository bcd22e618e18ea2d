use Rattle.std.proofs.Common.{◌≡◌, ◌==◌, drop}
use Rattle.std.specs.List.{list_any}
use Rattle.pond_base.specs.declared.numbers.MemberId.{MemberId}
use Rattle.script_checks.proofs.known.Known.faulty.Given as goal

abbrev pub invariant-loop-member : goal.invariant-loop-member
invariant-loop-member l = list_any (λ (m : MemberId). m.0 == l.number) (drop l.member-index l.self.faulty) ≡ list_any (λ (m : MemberId). m.0 == l.number) l.self.faulty
