use Rattle.std.proofs.Common.{arith, subst}
use Rattle.sp_pattern.specs.WeightErrors.{IsWeightError}
use Rattle.sp_pattern.specs.Weights.{IsFirstPast}
use Rattle.blocktri.proofs.WeightedLemmas.{rows_entry, rows_past}
use Rattle.blocktri.proofs.weighted.Weighted.weights_by_rows.Goals as goal

pub first_id-requires-clause-row : goal.first_id-requires-clause-row
first_id-requires-clause-row g c =
    let l = c.args.self.now.lists in
    let past : IsFirstPast c.in-Ok.triples c.args.pattern.now c.in-SumLimit.row c.in-SumLimit.col = subst (IsWeightError c.in-Ok.triples c.args.pattern.now) c.in-SumLimit.is c.in-Err.ensures.refused in
    let lt = (rows_entry l c.args.pattern.now c.in-SumLimit.row c.in-SumLimit.col (λ s d. (c.columns_give_their_places.ensures.entries l.others l.starts l.ids s d c.requires.compressed).0) c.requires.by_rows c.requires.matrix past.entry).0 in
    omega (arith, lt)

pub first_id-requires-clause-given : goal.first_id-requires-clause-given
first_id-requires-clause-given g c =
    let l = c.args.self.now.lists in
    let past : IsFirstPast c.in-Ok.triples c.args.pattern.now c.in-SumLimit.row c.in-SumLimit.col = subst (IsWeightError c.in-Ok.triples c.args.pattern.now) c.in-SumLimit.is c.in-Err.ensures.refused in
    (rows_entry l c.args.pattern.now c.in-SumLimit.row c.in-SumLimit.col (λ s d. (c.columns_give_their_places.ensures.entries l.others l.starts l.ids s d c.requires.compressed).0) c.requires.by_rows c.requires.matrix past.entry).1

pub returns-in-SumLimit-clause-refused : goal.returns-in-SumLimit-clause-refused
returns-in-SumLimit-clause-refused g c =
    let past : IsFirstPast c.in-Ok.triples c.args.pattern.now c.in-SumLimit.row c.in-SumLimit.col = subst (IsWeightError c.in-Ok.triples c.args.pattern.now) c.in-SumLimit.is c.in-Err.ensures.refused in
    (tt, c.requires.compressed, rows_past c.args.self.now c.in-Ok.triples c.args.pattern.now c.in-SumLimit.row c.in-SumLimit.col c.first_id.result c.requires.by_rows c.in-Ok.ensures c.requires.matrix past c.first_id.ensures)
