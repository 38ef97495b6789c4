use Rattle.btf_tool.proofs.RankLemmas.{marked_rows}
use Rattle.btf_tool.proofs.rank_job.part_by_rows.Goals as goal

pub returns-clause-rows : goal.returns-clause-rows
returns-clause-rows c = marked_rows _ _ _ c.requires.marks c.in_ok-rows.ensures
