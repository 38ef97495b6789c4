use Rattle.mm_defs.proofs.AnswerLemmas.{too_long_answer}
use Rattle.mm_defs.proofs.laws.too_long_is_reported.Goals as goal

pub returns : goal.returns
returns c = too_long_answer
