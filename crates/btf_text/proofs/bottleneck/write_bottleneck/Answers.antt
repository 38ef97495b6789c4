use Rattle.std.proofs.Common.{rules}
use Rattle.btf_text.proofs.Puts.{written}
use Rattle.btf_text.proofs.bottleneck.write_bottleneck.Goals as goal

pub returns : goal.returns
returns g c = written _ c.start-text.ensures c.put_answer.ensures c.finish.ensures (search rules)
