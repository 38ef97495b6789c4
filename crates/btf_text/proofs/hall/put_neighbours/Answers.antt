use Rattle.std.proofs.Common.{◌≡◌, ℕ, filter, append-nil, sym, ap, arith}
use Rattle.bip_defs.specs.Matrix.{neighbours, touches, upto}
use Rattle.bip_graph.specs.Texts.{counted, line}
use Rattle.btf_text.proofs.Lines.{line_ends}
use Rattle.btf_text.proofs.NeighbourRows.{rows_go_on}
use Rattle.btf_text.proofs.Puts.{bytes_as, bytes_then, line_of}
use Rattle.btf_text.proofs.hall.put_neighbours.Goals as goal

pub loop-row-init : goal.loop-row-init
loop-row-init g c = bytes_as (sym (append-nil _)) c.put_piece.ensures

pub loop-row-preserved : goal.loop-row-preserved
loop-row-preserved g c = bytes_as (rows_go_on (touches (g.M.RowLookup.matrix c.args.matrix.now) c.args.hall.now) c.args.word.now _) (bytes_then c.loop-row.invariant c.put_where_touched.ensures)

pub returns : goal.returns
returns g c =
    let a = g.M.RowLookup.matrix c.args.matrix.now in
    let w = c.args.hall.now in
    let all : c.loop-row.row ≡ a.rows = omega (arith, c.loop-row-test.false, c.loop-row.auto.row-end, c.rows-row-end.ensures) in
    line_of (line c.args.word.now (counted (neighbours a w)))
    (bytes_as (line_ends c.args.word.now _ _ (ap (λ (n : ℕ). counted (filter (touches a w) (upto n))) all)) (bytes_then c.loop-row.invariant c.put_piece-2.ensures))
