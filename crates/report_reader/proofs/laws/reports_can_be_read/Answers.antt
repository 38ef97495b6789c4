use Rattle.report_reader.proofs.Limits.{can_be_read}
use Rattle.report_reader.proofs.laws.reports_can_be_read.Goals as goal

pub returns : goal.returns
returns c = can_be_read
