use Rattle.std.proofs.Common.{◌≡◌}
use Rattle.batch_core.specs.Shares.{empty_slots}
use Rattle.batch_core.proofs.answers.Answers.new.Given as goal

abbrev pub invariant-loop : goal.invariant-loop
invariant-loop l = l.slots.items ≡ empty_slots l.counter
