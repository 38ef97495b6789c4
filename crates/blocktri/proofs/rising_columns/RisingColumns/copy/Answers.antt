use Rattle.std.proofs.Common.{arith}
use Rattle.blocktri.proofs.LookLemmas.{start_inside}
use Rattle.blocktri.proofs.rising_columns.RisingColumns.copy.Goals as goal

pub copied_starts-requires : goal.copied_starts-requires
copied_starts-requires g c = λ k lt.
    let within = start_inside (g.N.NumberList.numbers c.args.starts) (g.N.NumberList.numbers c.args.ids) c.requires.columns.starts_are k lt in
    let few = c.requires.columns.few_ids in
    omega (arith, within, few)

pub copied_ids-requires : goal.copied_ids-requires
copied_ids-requires g c = λ k lt.
    let within = c.requires.columns.inside k lt in
    let few = c.requires.columns.few_rows in
    omega (arith, within, few)
