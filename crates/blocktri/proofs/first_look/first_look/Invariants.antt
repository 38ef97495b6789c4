use Rattle.std.proofs.Common.{◌≡◌, ◌-◌, ◌<◌, ◌≤◌, ℕ, length}
use Rattle.bip_defs.specs.Lists.{Among}
use Rattle.bip_defs.specs.Matching.{cols_of}
use Rattle.bip_defs.specs.Matrix.{AreEntries, IsEntry}
use Rattle.bip_graph.specs.Matching.{IsPairing}
use Rattle.sp_pattern.specs.Columns.{matrix_of}
use Rattle.blocktri.proofs.first_look.first_look.Given as goal

abbrev pub invariant-loop-col : goal.invariant-loop-col
invariant-loop-col g l = record {
  rows : l.matching.rows ≡ l.rows;
  cols : l.matching.cols ≡ length (g.N.NumberList.numbers l.starts) - 1;
  pairing : IsPairing l.matching;
  entries : AreEntries (matrix_of l.rows (g.N.NumberList.numbers l.starts) (g.N.NumberList.numbers l.ids)) l.matching.pairs;
  before : (c : ℕ) → Among c (cols_of l.matching.pairs) → c < l.col;
  few : l.missed ≤ l.col;
  covered : l.missed ≡ 0 → (r c : ℕ) → c < l.col → IsEntry (matrix_of l.rows (g.N.NumberList.numbers l.starts) (g.N.NumberList.numbers l.ids)) r c → Among c (cols_of l.matching.pairs);
}
