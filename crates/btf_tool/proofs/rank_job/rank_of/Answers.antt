use Rattle.std.proofs.Common.{sym}
use Rattle.btf_tool.proofs.rank_job.rank_of.Goals as goal

pub returns : goal.returns
returns c = record {
  is_rank = (c.in_ok-matching.matching.pairs, c.in_ok-matching.ensures.maximum.maximum, sym c.size-rank.ensures.size);
  are_rows = c.in_ok-rows.ensures.rows;
  are_cols = c.in_ok-rows.ensures.cols;
}
