use Rattle.std.proofs.Common.{ap}
use Rattle.block_names.proofs.Map.{is_held}
use Rattle.block_names.proofs.book.Book.holds.Goals as goal

pub returns-clause-held : goal.returns-clause-held
returns-clause-held g c = is_held _ c.self.inside.strings.entries c.args.name _ (ap (λ book. book.held) c.self.view_is) c.contains_key.ensures
