-- Perfect matchings that are best.
use Rattle.std.proofs.Common.{◌≡◌, ◌⊎◌, ◌∙◌, ℕ, ◌<◌, ◌≤◌, List, length, ap, subst, inl, inr, arith}
use Rattle.bip_defs.specs.Bottleneck.{IsBest, IsFull, IsLeastWeight, above}
use Rattle.bip_defs.specs.Lists.{IsRising, Lists}
use Rattle.bip_defs.specs.Matching.{IsMatching, cols_of}
use Rattle.bip_defs.specs.Matrix.{Matrix, Place, cols, neighbours}
use Rattle.bip_defs.specs.Parts.{IsHorizontalCol}
use Rattle.bip_defs.specs.Witness.{IsWitness}
use Rattle.bip_defs.proofs.Full.{matching_few}
use Rattle.bip_defs.proofs.BottleneckLemmas.{above_cols}
use Rattle.bottleneck.proofs.HeavierLemmas.{heavier_pairs}
use Rattle.bottleneck.proofs.PairLemmas.{least_greater}

-- the witness of a maximum matching that is not perfect
pub best_shown : (a b : Matrix) (weight : ℕ → ℕ → ℕ) (pairs m : List Place) (least : ℕ) (hall : List ℕ) → a.rows ≡ cols a → IsFull a pairs → IsRising (cols_of pairs) → IsLeastWeight weight pairs least → b ≡ above a weight least
    → (cols a ≡ 0) ⊎ (length m < cols a) → IsWitness b m hall → IsBest a weight pairs least hall
best_shown a b weight pairs m least hall square full rising least_is is short w = record {
  square = square;
  full = full;
  rising = rising;
  least_is = least_is;
  horizontal = subst (λ (z : Matrix). Lists (IsHorizontalCol z) hall) is w.horizontal;
  fewer = λ some. subst (λ (z : Matrix). length (neighbours z hall) < length hall) is (fewer some short);
}
  where
    fewer : 0 < cols a → (cols a ≡ 0) ⊎ (length m < cols a) → length (neighbours b hall) < length hall
    fewer some (inl none) = absurd (omega (arith, some, none))
    fewer some (inr lt) = let d = w.hall_set.deficiency in let same = ap cols is ∙ above_cols a weight least in omega (arith, lt, d, same)

-- a matching of so many pairs has one for each column
pub not_short : (a : Matrix) (m : List Place) → IsMatching a m → cols a ≤ length m → length m ≡ cols a
not_short a m k long = let few = matching_few a m k in omega (arith, few, long)

-- pairs above a weight, of which there are some, have a greater least weight
pub progress : (a b : Matrix) (weight : ℕ → ℕ → ℕ) (least new : ℕ) (next : List Place) → b ≡ above a weight least → IsMatching b next → 0 < length next → IsLeastWeight weight next new → least < new
progress a b weight least new next is k some l = least_greater weight next least new l some (heavier_pairs a b weight least next is k)
