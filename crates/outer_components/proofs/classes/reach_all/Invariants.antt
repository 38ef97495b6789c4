use Rattle.outer_components.specs.Classes.{AreReached, Spreads}
use Rattle.outer_components.proofs.classes.reach_all.Given as goal

abbrev pub invariant-loop-at : goal.invariant-loop-at
invariant-loop-at l = Spreads l.number l.fn.numbers l.numbers l.fn.stack.items l.stack.items
    × AreReached l.contacts l.ends l.at l.fn.numbers l.numbers
