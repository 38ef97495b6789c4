use Rattle.std.proofs.Common.{◌≡◌, ◌∙◌, arith, length-set}
use Rattle.bip_defs.proofs.Sets.{entry_col}
use Rattle.bip_defs.proofs.Slices.{read_among}
use Rattle.blocktri.proofs.DiagonalLemmas.{pairs_rows}
use Rattle.blocktri.proofs.SetLemmas.{by_col, set_each_at}
use Rattle.blocktri.proofs.write_diagonal.write_pairs.Goals as goal

pub bounds-row_of_column-col-inside : goal.bounds-row_of_column-col-inside
bounds-row_of_column-col-inside c =
    let (a, full, wide, few) = c.requires in
    let p = c.index-pairs-k.result in
    let lt = entry_col a p.0 p.1 (full.matching.entries p.0 p.1 (read_among p c.args.pairs.now c.loop-k.k c.loop-k-test.true c.index-pairs-k.is)) in
    let is : c.col.inside.0 ≡ p.1 = c.col.view_is in
    let long = c.loop-k.invariant.long in
    omega (arith, lt, is, long, wide)

pub loop-k-preserved : goal.loop-k-preserved
loop-k-preserved c =
    let (a, full, wide, few) = c.requires in
    let p = c.index-pairs-k.result in
    let lt = entry_col a p.0 p.1 (full.matching.entries p.0 p.1 (read_among p c.args.pairs.now c.loop-k.k c.loop-k-test.true c.index-pairs-k.is)) in
    let is : c.col.inside.0 ≡ p.1 = c.col.view_is in
    let long = c.loop-k.invariant.long in
    record {
      long = length-set c.loop-k.row_of_column c.col.inside.0 c.row.inside.0 ∙ long;
      set = set_each_at 0 (λ q. q.1) (λ q. q.0) c.args.pairs.now c.loop-k.k p c.loop-k.row_of_column c.col.inside.0 c.row.inside.0 (by_col (λ q. q.0) c.args.pairs.now full.matching.cols_differ) c.loop-k-test.true c.index-pairs-k.is (omega (arith, lt, is, long, wide))
          c.loop-k.invariant.set c.col.view_is c.row.view_is;
    }

pub returns-clause-rows : goal.returns-clause-rows
returns-clause-rows c =
    let (a, full, wide, few) = c.requires in
    let end = c.loop-k-test.false in
    pairs_rows a c.args.pairs.now c.loop-k.k c.args.row_of_column.now c.loop-k.row_of_column full wide few c.loop-k.invariant.long (omega (arith, end)) c.loop-k.invariant.set
