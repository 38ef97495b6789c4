-- The order of a heap from which the nearest row comes first.
use Rattle.std.specs.Prelude.{ℕ, List, map}
use Rattle.std.specs.declared.cmp.Reverse.{Reverse}
use Rattle.std.specs.declared.cmp.Ordering.{Ordering}
use Rattle.std.specs.Ordering.{nat_cmp, ordering_then}

abbrev pub by_nearness : Reverse (ℕ × ℕ) → Reverse (ℕ × ℕ) → Ordering
by_nearness x y = ordering_then (nat_cmp y.0.0 x.0.0) (nat_cmp y.0.1 x.0.1)

-- the distance and the row
abbrev pub unwrapped : Reverse (ℕ × ℕ) → ℕ × ℕ
unwrapped x = x.0

-- rows at one distance
abbrev pub at_level : ℕ → List ℕ → List (ℕ × ℕ)
at_level level rows = map (λ r. (level, r)) rows
