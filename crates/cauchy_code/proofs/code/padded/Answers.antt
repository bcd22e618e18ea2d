use Rattle.std.proofs.Common.{◌∙◌, ◌++◌, ap}
use Rattle.cauchy_code.proofs.Fours.{padded_at}
use Rattle.cauchy_code.proofs.code.padded.Goals as goal

pub returns-clause-bytes : goal.returns-clause-bytes
returns-clause-bytes c =
    padded_at c.args.block.now c.extend_from_slice.new.self.items c.resize.new.self.items c.args.size _
    (c.in_ok-extend_from_slice.ensures.items ∙ ap (λ xs. xs ++ c.args.block.now) c.in_ok-bytes.ensures.items) c.requires c.in_ok-resize.ensures.items
