use Rattle.std.proofs.Common.{◌≡◌}
use Rattle.bip_defs.specs.Matrix.{cols}
use Rattle.sp_ids.specs.Entries.{places}
use Rattle.sp_ids.specs.declared.triples.Field.TheVariants.{Pattern}
use Rattle.edit_session.specs.Columns.{first_places}
use Rattle.edit_session.proofs.patterns.triples_of.Given as goal

abbrev pub invariant-loop-col : goal.invariant-loop-col
invariant-loop-col l = record {
  rows : l.triples.rows ≡ l.columns.matrix.rows;
  cols : l.triples.cols ≡ cols l.columns.matrix;
  field : l.triples.field ≡ Pattern;
  places : places l.triples ≡ first_places l.columns.matrix l.col;
}
