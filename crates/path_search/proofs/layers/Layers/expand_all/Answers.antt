use Rattle.bip_defs.specs.Matrix.{IsEntry}
use Rattle.bip_defs.proofs.Sets.{entry_col}
use Rattle.bip_defs.proofs.Slices.{number_read}
use Rattle.path_search.proofs.layers.Layers.expand_all.Goals as goal

pub expand-requires-clause-row : goal.expand-requires-clause-row
expand-requires-clause-row g c =
    let e : IsEntry (g.S.Side.matrix c.args.side.now) c.number.result c.args.col = c.rows_of-far-items.ensures.rows.sound _ (number_read g.F.Id.number _ c.rows_of-far-items.result.now _ _ c.loop-far-test.true c.far-item.is c.number.ensures) in
    rw c.requires.matching.rows e.0

pub expand-requires-clause-cols : goal.expand-requires-clause-cols
expand-requires-clause-cols g c = λ d pair. rw c.requires.matching.cols (entry_col (g.S.Side.matrix c.args.side.now) c.number.result d (c.requires.matching.matching.entries c.number.result d pair))
