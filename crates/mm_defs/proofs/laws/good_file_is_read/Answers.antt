use Rattle.mm_defs.proofs.AnswerLemmas.{good_file_answer, good_file_entries}
use Rattle.mm_defs.proofs.laws.good_file_is_read.Goals as goal

pub returns : goal.returns
returns c = record { answer = good_file_answer; entries = good_file_entries }
