use Rattle.btf_words.proofs.EngineNames.{read_alike}
use Rattle.btf_words.proofs.reading.names_lie_anywhere.Goals as goal

pub returns : goal.returns
returns c = read_alike
