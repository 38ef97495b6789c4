use Rattle.batch_core.proofs.BatchTexts.{one_text}
use Rattle.batch_core.proofs.laws.one_batch_text.Goals as goal

pub returns : goal.returns
returns c = one_text c.one_report.ensures
