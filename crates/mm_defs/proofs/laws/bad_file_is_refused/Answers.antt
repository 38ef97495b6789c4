use Rattle.mm_defs.proofs.AnswerLemmas.{bad_file_answer}
use Rattle.mm_defs.proofs.laws.bad_file_is_refused.Goals as goal

pub returns : goal.returns
returns c = bad_file_answer
