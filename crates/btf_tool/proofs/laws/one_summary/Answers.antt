use Rattle.btf_tool.proofs.Summaries.{same_load, same_summary}
use Rattle.btf_tool.proofs.laws.one_summary.Goals as goal

pub returns : goal.returns
returns c = record { matrix = same_summary; load = same_load }
