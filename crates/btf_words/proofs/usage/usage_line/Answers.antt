use Rattle.std.proofs.Common.{rules}
use Rattle.btf_words.specs.UsageLine.{usage_line}
use Rattle.btf_words.proofs.usage.usage_line.Goals as goal

pub returns : goal.returns
unfolding usage_line
returns c = search rules
