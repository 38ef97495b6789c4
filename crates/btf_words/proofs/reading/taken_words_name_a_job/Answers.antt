use Rattle.btf_words.proofs.TakenLemmas.{taken_names}
use Rattle.btf_words.proofs.reading.taken_words_name_a_job.Goals as goal

pub returns : goal.returns
returns c = taken_names
