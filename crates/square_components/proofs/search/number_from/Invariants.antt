use Rattle.square_components.specs.Steps.{Assigns}
use Rattle.square_components.proofs.search.number_from.Given as goal

abbrev pub invariant-loop-at : goal.invariant-loop-at
invariant-loop-at l = Assigns l.stack l.start l.at l.number l.initial.state l.state
