use Rattle.std.proofs.Common.{◌-◌, length}
use Rattle.mm_reader.specs.Plain.{IsDigits}
use Rattle.mm_reader.proofs.places.digits.Given as goal

abbrev pub invariant-loop-at : goal.invariant-loop-at
invariant-loop-at l = IsDigits l.bytes l.from l.at l.value

abbrev pub decreases-loop-at : goal.decreases-loop-at
decreases-loop-at l = length l.bytes - l.at
