use Rattle.bip_graph.proofs.Reports.{same_least_report}
use Rattle.bip_graph.proofs.laws.one_report_with_least_pairs.Goals as goal

pub returns : goal.returns
returns c a v order pairs s t p q = same_least_report a v order pairs s t p q
