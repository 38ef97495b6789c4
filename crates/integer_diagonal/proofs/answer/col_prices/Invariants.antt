use Rattle.std.proofs.Common.{◌≡◌, ◌+◌, ◌-ℤ◌, map, pos, take}
use Rattle.integer_diagonal.proofs.answer.col_prices.Given as goal

abbrev pub invariant-loop-i : goal.invariant-loop-i
invariant-loop-i g l = l.v.items ≡ map (λ o. pos (l.top + l.top) -ℤ pos o) (take l.i l.duals.items)
