use Rattle.std.proofs.Common.{rules}
use Rattle.btf_text.proofs.Puts.{written}
use Rattle.btf_text.proofs.pairs.write_pairs.Goals as goal

pub returns : goal.returns
returns g c = written _ c.start-text.ensures c.put_list_of_pairs.ensures c.finish.ensures (search rules)
