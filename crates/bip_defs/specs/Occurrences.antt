-- How often a number occurs: in a list of entries, and among the numbers below a count.
use Rattle.std.specs.Prelude.{ℕ, zero, suc, ◌+◌, ◌==◌, if◌then◌else◌, List, [], ◌∷◌}

-- how often a number is listed, as the first of a pair
abbrev pub times : ℕ → List (ℕ × ℕ) → ℕ
times i [] = 0
times i (p ∷ ps) = (if p.0 == i then 1 else 0) + times i ps

-- 1 where n is below the count, and else 0
abbrev pub below : ℕ → ℕ → ℕ
below n zero = 0
below zero (suc count) = 1
below (suc n) (suc count) = below n count
