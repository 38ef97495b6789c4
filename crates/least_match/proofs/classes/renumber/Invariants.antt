use Rattle.std.proofs.Common.{take}
use Rattle.bip_defs.specs.Queues.{heads}
use Rattle.least_match.specs.Classes.{IsSplit}
use Rattle.least_match.proofs.classes.renumber.Given as goal

abbrev pub invariant-loop-place : goal.invariant-loop-place
invariant-loop-place l = IsSplit l.initial.numbers l.number (take l.place (heads l.tree.queue)) l.numbers
