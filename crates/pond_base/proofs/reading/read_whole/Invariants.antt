use Rattle.std.proofs.Common.{◌≡◌, ◌≤◌, length}
use Rattle.std.specs.Io.KnownBytes.{Consumes}
use Rattle.pond_base.proofs.reading.read_whole.Given as goal

-- each turn so far gave a byte
abbrev pub invariant-loop-turn : goal.invariant-loop-turn
invariant-loop-turn g l = record {
  given : Consumes (g.S.Source.left l.initial.source) (g.S.Source.left l.source) l.bytes.items;
  turns : l._turn ≤ length l.bytes.items;
  small : length l.bytes.items ≤ l.most;
  kept : g.S.Source.faults l.source ≡ g.S.Source.faults l.initial.source;
}
