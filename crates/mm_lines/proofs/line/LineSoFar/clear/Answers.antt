use Rattle.mm_lines.proofs.LineSteps.{nothing}
use Rattle.mm_lines.proofs.line.LineSoFar.clear.Goals as goal

pub returns : goal.returns
returns c line l = nothing
