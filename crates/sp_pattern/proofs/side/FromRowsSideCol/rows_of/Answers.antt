use Rattle.std.proofs.Common.{◌∙◌, ap, sym, subst, arith}
use Rattle.std.proofs.lemmas.List.{map-id}
use Rattle.bip_defs.specs.Lists.{Lists}
use Rattle.bip_defs.specs.Matrix.{IsEntry, row_list, transpose}
use Rattle.bip_defs.proofs.Sets.{lists_same}
use Rattle.bip_defs.proofs.Transposed.{transpose_cols, transpose_column, transpose_is}
use Rattle.sp_pattern.proofs.side.FromRowsSideCol.rows_of.Goals as goal

pub cols_of-requires : goal.cols_of-requires
cols_of-requires c = omega (arith, transpose_cols c.args.self.now.pattern.now, c.requires, c.col.view_is)

pub returns-clause-rows : goal.returns-clause-rows
returns-clause-rows c =
    let t = transpose_is c.args.self.now.pattern.now in
    subst (Lists (λ r. IsEntry (transpose c.args.self.now.pattern.now) r c.args.col)) (sym (map-id c.cols_of.result.now))
    (lists_same (λ d. IsEntry c.args.self.now.pattern.now c.args.col d) (λ r. IsEntry (transpose c.args.self.now.pattern.now) r c.args.col) c.cols_of.result.now (λ x e. t.over c.args.col x e) (λ x e. t.back c.args.col x e) (subst (λ r. Lists (λ d. IsEntry c.args.self.now.pattern.now r d) c.cols_of.result.now) c.col.view_is c.cols_of.ensures.cols))

pub returns-clause-column : goal.returns-clause-column
returns-clause-column c = map-id c.cols_of.result.now ∙ c.cols_of.ensures.row_list ∙ ap (row_list c.args.self.now.pattern.now) c.col.view_is ∙ sym (transpose_column c.args.self.now.pattern.now c.args.col (omega (arith, transpose_cols c.args.self.now.pattern.now, c.requires)))
