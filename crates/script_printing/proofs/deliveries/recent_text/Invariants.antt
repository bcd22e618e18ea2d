use Rattle.std.proofs.Common.{◌≡◌, length, map, string_bytes}
use Rattle.std.specs.List.{flat_map}
use Rattle.std.specs.Map.Iter.{deref}
use Rattle.script_printing.specs.Deliveries.{told_line}
use Rattle.script_printing.proofs.Told.{with_lines}
use Rattle.script_printing.proofs.deliveries.recent_text.Given as goal

abbrev pub invariant-loop-delivery : goal.invariant-loop-delivery
invariant-loop-delivery l = string_bytes l.text ≡ with_lines (length l.recent.items) (flat_map told_line (map deref l.yielded))
