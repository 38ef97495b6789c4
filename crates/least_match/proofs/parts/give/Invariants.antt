use Rattle.std.proofs.Common.{take}
use Rattle.least_match.specs.Outcomes.{IsGiven}
use Rattle.least_match.proofs.parts.give.Given as goal

abbrev pub invariant-loop-col : goal.invariant-loop-col
invariant-loop-col l = IsGiven l.initial.parts l.part (take l.col-index l.cols) l.parts
