-- Lists of one thing.
use Rattle.std.proofs.Common.{◌≡◌, ℕ, ◌<◌, arith, get_or, replicate}
use Rattle.std.proofs.Math.Decide.{dec_lt}
use Rattle.std.proofs.lemmas.List.{get_or-replicate, get_or_past, length-replicate}

pub repeated : {X : Type 0} (n i : ℕ) (x : X) → get_or (replicate n x) i x ≡ x
repeated {X} n i x = by (dec_lt i n)
  where
    by : Dec (i < n) → get_or (replicate n x) i x ≡ x
    by (yes lt) = get_or-replicate n i x x lt
    by (no ge) = let long = length-replicate {A = X} n x in get_or_past (replicate n x) i x (omega (arith, long))
