use Rattle.std.proofs.Common.{arith, sym, ◌∙◌}
use Rattle.bip_defs.specs.Matrix.{touches}
use Rattle.btf_text.proofs.NeighbourRows.{row_off, row_on}
use Rattle.btf_text.proofs.Puts.{bytes_as, bytes_none}
use Rattle.btf_text.proofs.hall.put_where_touched.Goals as goal

pub returns-then-not-has_entry_in : goal.returns-then-not-has_entry_in
returns-then-not-has_entry_in g c = bytes_as (row_off (touches (g.M.RowLookup.matrix c.args.matrix.now) c.args.hall.now) c.args.row (sym c.has_entry_in.ensures ∙ c.if-not-has_entry_in.true)) (bytes_none _)

pub returns : goal.returns
returns g c =
    bytes_as (row_on (touches (g.M.RowLookup.matrix c.args.matrix.now) c.args.hall.now) c.args.row _ (sym c.has_entry_in.ensures ∙ c.if-not-has_entry_in.false) (omega (arith, c.from.ensures, c.row.view_is))) c.put_number.ensures
