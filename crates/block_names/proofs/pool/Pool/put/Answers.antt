use Rattle.block_names.proofs.Map.{first_stays, first_goes_in}
use Rattle.block_names.proofs.pool.Pool.put.Goals as goal

pub returns-then-contains_key-clause-put : goal.returns-then-contains_key-clause-put
returns-then-contains_key-clause-put c = first_stays _ c.self.inside.strings.entries c.args.name c.args.bytes _ c.self.view_is c.contains_key.ensures c.if-contains_key.true

pub returns-clause-put : goal.returns-clause-put
returns-clause-put c = first_goes_in _ c.self.inside.strings.entries _ c.args.name c.args.bytes _ c.self.view_is c.contains_key.ensures c.if-contains_key.false c.in_ok-insert.ensures.updates.0
