use Rattle.std.proofs.Common.{◌∙◌, sym, subst}
use Rattle.std.proofs.lemmas.List.{map-id}
use Rattle.bip_defs.specs.Lists.{Lists}
use Rattle.bip_defs.specs.Matrix.{IsEntry}
use Rattle.sp_pattern.proofs.side.AnySideRow.rows_of.Goals as goal

pub returns-clause-rows : goal.returns-clause-rows
returns-clause-rows g c = subst (Lists (λ r. IsEntry (g.N.Neighbours.matrix c.args.self.now) r c.args.col)) (sym (map-id c.rows_of.result.now)) c.rows_of.ensures.rows

pub returns-clause-column : goal.returns-clause-column
returns-clause-column g c = map-id c.rows_of.result.now ∙ c.rows_of.ensures.column
