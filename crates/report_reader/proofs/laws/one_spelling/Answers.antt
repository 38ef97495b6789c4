use Rattle.report_reader.proofs.Reports.{spells_one}
use Rattle.report_reader.proofs.laws.one_spelling.Goals as goal

pub returns : goal.returns
returns c = spells_one
