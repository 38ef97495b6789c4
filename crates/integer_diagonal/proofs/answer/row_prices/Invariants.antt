use Rattle.std.proofs.Common.{◌≡◌, ◌-ℤ◌, map, pos, take}
use Rattle.integer_diagonal.proofs.answer.row_prices.Given as goal

abbrev pub invariant-loop-i : goal.invariant-loop-i
invariant-loop-i g l = l.u.items ≡ map (λ p. pos p -ℤ pos l.top) (take l.i l.prices.items)
