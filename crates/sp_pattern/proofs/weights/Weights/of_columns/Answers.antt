use Rattle.sp_pattern.specs.ValuedColumns.{entries_given}
use Rattle.sp_pattern.specs.Weights.{IsFirstPast}
use Rattle.sp_pattern.proofs.ValuedLemmas.{past_given, past_told}
use Rattle.sp_pattern.proofs.weights.Weights.of_columns.Goals as goal

pub returns-in-Ok-of_sums-clause-weights : goal.returns-in-Ok-of_sums-clause-weights
returns-in-Ok-of_sums-clause-weights g c =
    c.in-Ok-of_sums.ensures.weights (entries_given c.args.pattern.now.rows (g.N.NumberList.numbers c.args.starts) (g.N.NumberList.numbers c.args.ids) c.args.values.now) (rw c.as_slice.ensures.value c.in-Ok.ensures)

pub first_id-requires-clause-there : goal.first_id-requires-clause-there
first_id-requires-clause-there g c =
    let t = entries_given c.args.pattern.now.rows (g.N.NumberList.numbers c.args.starts) (g.N.NumberList.numbers c.args.ids) c.args.values.now in
    let past : IsFirstPast t c.args.pattern.now c.in-SumLimit.row c.in-SumLimit.col = rw c.in-SumLimit.is at (c.in-Err.ensures.refused t (rw c.as_slice.ensures.value c.in-Ok.ensures)) in
    (past_given _ _ _ _ _ _ (record { columns = c.requires.columns; matrix_is = c.requires.matrix; long = c.requires.values }) past).0

pub first_id-requires-clause-within : goal.first_id-requires-clause-within
first_id-requires-clause-within g c =
    let t = entries_given c.args.pattern.now.rows (g.N.NumberList.numbers c.args.starts) (g.N.NumberList.numbers c.args.ids) c.args.values.now in
    let past : IsFirstPast t c.args.pattern.now c.in-SumLimit.row c.in-SumLimit.col = rw c.in-SumLimit.is at (c.in-Err.ensures.refused t (rw c.as_slice.ensures.value c.in-Ok.ensures)) in
    (past_given _ _ _ _ _ _ (record { columns = c.requires.columns; matrix_is = c.requires.matrix; long = c.requires.values }) past).1

pub first_id-requires-clause-given : goal.first_id-requires-clause-given
first_id-requires-clause-given g c =
    let t = entries_given c.args.pattern.now.rows (g.N.NumberList.numbers c.args.starts) (g.N.NumberList.numbers c.args.ids) c.args.values.now in
    let past : IsFirstPast t c.args.pattern.now c.in-SumLimit.row c.in-SumLimit.col = rw c.in-SumLimit.is at (c.in-Err.ensures.refused t (rw c.as_slice.ensures.value c.in-Ok.ensures)) in
    (past_given _ _ _ _ _ _ (record { columns = c.requires.columns; matrix_is = c.requires.matrix; long = c.requires.values }) past).2

pub returns-in-SumLimit-clause-refused : goal.returns-in-SumLimit-clause-refused
returns-in-SumLimit-clause-refused g c =
    let t = entries_given c.args.pattern.now.rows (g.N.NumberList.numbers c.args.starts) (g.N.NumberList.numbers c.args.ids) c.args.values.now in
    let past : IsFirstPast t c.args.pattern.now c.in-SumLimit.row c.in-SumLimit.col = rw c.in-SumLimit.is at (c.in-Err.ensures.refused t (rw c.as_slice.ensures.value c.in-Ok.ensures)) in
    past_told _ _ _ _ _ _ _ (record { columns = c.requires.columns; matrix_is = c.requires.matrix; long = c.requires.values }) past c.first_id.ensures
