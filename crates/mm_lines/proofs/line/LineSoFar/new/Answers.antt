use Rattle.mm_lines.proofs.LineSteps.{nothing}
use Rattle.mm_lines.proofs.line.LineSoFar.new.Goals as goal

pub returns : goal.returns
returns c = nothing
