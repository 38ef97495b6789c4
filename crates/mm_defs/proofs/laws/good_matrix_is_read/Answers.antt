use Rattle.mm_defs.proofs.AnswerLemmas.{good_matrix_answer}
use Rattle.mm_defs.proofs.laws.good_matrix_is_read.Goals as goal

pub returns : goal.returns
returns c = good_matrix_answer
