use Rattle.std.proofs.Common.{◌≡◌}
use Rattle.analysis_tests.proofs.int_sets.gives_members_by_size.Given as goal

abbrev pub invariant-loop-member : goal.invariant-loop-member
invariant-loop-member g l = l.set.bound ≡ 200000

abbrev pub invariant-loop-least : goal.invariant-loop-least
invariant-loop-least g l = l.set.bound ≡ 200000
