use Rattle.bip_graph.proofs.Reports.{same_report}
use Rattle.bip_graph.proofs.laws.one_report.Goals as goal

pub returns : goal.returns
returns c a v order s t p q = same_report a v order s t p q
