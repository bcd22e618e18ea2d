use Rattle.code_speed.proofs.Parts.{many_of, indexes_of}
use Rattle.code_speed.proofs.rows.rebuild.Goals as goal

pub rebuild-requires : goal.rebuild-requires
rebuild-requires c = record {
  many = many_of c.args.from c.args.code.now.m c.args.parts.now c.requires.indexes;
  indexes = indexes_of c.args.from c.args.code.now.m c.args.code.now.n c.args.parts.now c.requires.there c.requires.indexes;
  long = c.requires.long;
}
