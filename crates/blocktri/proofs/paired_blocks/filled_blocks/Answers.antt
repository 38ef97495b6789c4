use Rattle.std.proofs.lemmas.Result.{IfOk-weaker}
use Rattle.blocktri.proofs.PairedLemmas.{filled_told, full_perfect}
use Rattle.blocktri.proofs.paired_blocks.filled_blocks.Goals as goal

pub blocks_of_perfect-requires : goal.blocks_of_perfect-requires
blocks_of_perfect-requires g c = rw (c.in-Some.ensures.fits.0, c.in-Some.ensures.fits.1) (full_perfect (g.C.ColumnLists.matrix c.args.columns) c.args.full.now c.requires (c.filled_matrix_is_full.ensures.maximum (g.C.ColumnLists.matrix c.args.columns) c.args.full.now c.requires))

pub returns-in-Some : goal.returns-in-Some
returns-in-Some g c =
    let a = g.C.ColumnLists.matrix c.args.columns in
    let m = c.args.full.now in
    IfOk-weaker c.blocks_of_perfect.result _ _ (λ bs d. filled_told a m bs c.requires (c.filled_matrix_is_full.ensures.maximum a m c.requires) (rw (c.in-Some.ensures.fits.0, c.in-Some.ensures.fits.1) at d)) c.blocks_of_perfect.ensures
