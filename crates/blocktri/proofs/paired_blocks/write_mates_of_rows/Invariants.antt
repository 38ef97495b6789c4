use Rattle.std.proofs.Common.{◌≡◌, ◌<◌, ℕ, length, get_or}
use Rattle.bip_defs.specs.Lists.{Among}
use Rattle.blocktri.proofs.paired_blocks.write_mates_of_rows.Given as goal

abbrev pub invariant-loop-k : goal.invariant-loop-k
invariant-loop-k l = record {
  long : length l.column_order ≡ length l.fn.column_order;
  mates : (k : ℕ) → k < l.k → Among (get_or l.rows k 0, get_or l.column_order k 0) l.full.pairs;
}
