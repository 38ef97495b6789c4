use Rattle.mm_defs.proofs.AnswerLemmas.{bad_line_known}
use Rattle.mm_defs.proofs.laws.bad_line_is_reported.Goals as goal

pub returns : goal.returns
returns c = bad_line_known
