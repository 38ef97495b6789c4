use Rattle.std.proofs.Common.{subst, IfErr, IfOk}
use Rattle.bip_defs.specs.Lists.{Lists, StandsAt}
use Rattle.bip_defs.specs.Matrix.{IsEntry}
use Rattle.edit_session.specs.Columns.{IsGap}
use Rattle.edit_session.proofs.ColumnLemmas.{entry_found, gap_found, stands_found}
use Rattle.edit_session.proofs.columns.Columns.find.Goals as goal

pub returns-clause-gap : goal.returns-clause-gap
returns-clause-gap c = subst (λ xs. IfErr c.binary_search.result (IsGap xs c.args.row)) c.rows_of.ensures.column (gap_found c.rows_of.result.now c.args.row c.binary_search.result c.rows_of.ensures.rows.rising c.binary_search.ensures.position)

pub returns-clause-entry : goal.returns-clause-entry
returns-clause-entry c =
    let rising = c.rows_of.ensures.rows.rising in
    entry_found c.args.self.now.matrix c.args.row c.args.col c.binary_search.result
    (subst (Lists (λ r. IsEntry c.args.self.now.matrix r c.args.col)) c.rows_of.ensures.column c.rows_of.ensures.rows)
    (subst (λ xs. IfOk c.binary_search.result (StandsAt xs c.args.row)) c.rows_of.ensures.column (stands_found c.rows_of.result.now c.args.row c.binary_search.result rising c.binary_search.ensures.position))
    (subst (λ xs. IfErr c.binary_search.result (IsGap xs c.args.row)) c.rows_of.ensures.column (gap_found c.rows_of.result.now c.args.row c.binary_search.result rising c.binary_search.ensures.position))
