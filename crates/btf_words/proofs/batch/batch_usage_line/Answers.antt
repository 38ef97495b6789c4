use Rattle.std.proofs.Common.{rules}
use Rattle.btf_words.specs.UsageLine.{batch_usage_line}
use Rattle.btf_words.proofs.batch.batch_usage_line.Goals as goal

pub returns : goal.returns
unfolding batch_usage_line
returns c = search rules
