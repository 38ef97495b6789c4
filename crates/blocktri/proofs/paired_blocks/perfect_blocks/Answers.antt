use Rattle.std.proofs.lemmas.Result.{IfOk-weaker}
use Rattle.blocktri.proofs.PairedLemmas.{perfect_told}
use Rattle.blocktri.proofs.paired_blocks.perfect_blocks.Goals as goal

pub returns : goal.returns
returns g c =
    let a = g.C.ColumnLists.matrix c.args.columns in
    let m = c.args.matching.now in
    let same = c.filled_with_entries.ensures a m.pairs c.requires.rising c.requires.perfect.maximum.matching.matching.entries in
    IfOk-weaker c.blocks_of_perfect.result _ _ (λ bs d. perfect_told a m bs same c.requires.perfect d) c.blocks_of_perfect.ensures
