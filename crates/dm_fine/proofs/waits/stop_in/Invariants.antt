use Rattle.std.proofs.Common.{ℕ, ◌<◌, ◌≤◌, slice_index}
use Rattle.dm_fine.specs.Waits.{IsQuiet}
use Rattle.dm_fine.proofs.waits.stop_in.Given as goal

abbrev pub invariant-loop-at : goal.invariant-loop-at
invariant-loop-at g l = (i : ℕ) → l.from ≤ i → i < l.at → IsQuiet l.of_rows l.own (slice_index (g.R.NumberList.numbers l.list) i)
