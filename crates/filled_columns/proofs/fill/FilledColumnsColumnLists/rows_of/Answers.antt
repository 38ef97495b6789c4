use Rattle.std.proofs.Common.{◌∷◌, refl, arith}
use Rattle.bip_defs.specs.Matching.{cols_of}
use Rattle.bip_defs.proofs.Sets.{rising_distinct}
use Rattle.filled_columns.proofs.FilledMatrices.{rows_none, rows_one, within}
use Rattle.filled_columns.proofs.fill.FilledColumnsColumnLists.rows_of.Goals as goal

pub rows_of-list-requires : goal.rows_of-list-requires
rows_of-list-requires g c = within (g.C.ColumnLists.matrix c.args.self.columns) c.args.self.matching.now.pairs c.args.col c.requires

pub row_of-requires : goal.row_of-requires
row_of-requires g c = rw (c.args.self.same_cols) (within (g.C.ColumnLists.matrix c.args.self.columns) c.args.self.matching.now.pairs c.args.col c.requires)

pub invariant_of-result : goal.invariant_of-result
invariant_of-result g c = record {
  one = omega arith;
  room = rw (c.rows_of-list.ensures) (c.args.self.room c.args.col (within (g.C.ColumnLists.matrix c.args.self.columns) c.args.self.matching.now.pairs c.args.col c.requires));
}

pub returns-in-Some : goal.returns-in-Some
returns-in-Some g c =
    let pairs = c.args.self.matching.now.pairs in
    let is = c.is_matching.ensures in
    rw (c.rows_of-list.ensures, c.row.view_is, rows_one pairs c.in-Some.row c.args.col (rising_distinct (cols_of pairs) is.cols_rise) c.in-Some.ensures.found) (refl {a = c.in-Some.row ∷ g.C.ColumnLists.listed c.args.self.columns c.args.col})

pub invariant_of-result-2 : goal.invariant_of-result-2
invariant_of-result-2 g c = record {
  one = omega arith;
  room = rw (c.rows_of-list.ensures) (c.args.self.room c.args.col (within (g.C.ColumnLists.matrix c.args.self.columns) c.args.self.matching.now.pairs c.args.col c.requires));
}

pub returns : goal.returns
returns g c = rw (c.rows_of-list.ensures, rows_none c.args.self.matching.now.pairs c.args.col c.in_default.ensures.none) refl
