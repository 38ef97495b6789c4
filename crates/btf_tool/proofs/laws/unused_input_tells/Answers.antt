use Rattle.btf_tool.proofs.Completeness.{untouched_tells}
use Rattle.btf_tool.proofs.laws.unused_input_tells.Goals as goal

pub returns : goal.returns
returns c = untouched_tells
