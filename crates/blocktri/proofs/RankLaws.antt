-- Where there is no perfect matching, by the rank.
use Rattle.std.proofs.Common.{◌≡◌, ◌↔◌, ℕ, ◌<◌, List, arith, inl, inr}
use Rattle.std.proofs.Math.Decide.{dec_lt, ℕ_discrete}
use Rattle.bip_defs.specs.Bottleneck.{IsFull}
use Rattle.bip_defs.specs.Matching.{IsRank}
use Rattle.bip_defs.specs.Matrix.{Matrix, Place, cols}
use Rattle.bip_defs.proofs.BottleneckLemmas.{full_length}
use Rattle.bip_defs.proofs.Full.{matching_few}
use Rattle.bip_defs.proofs.FullMatchings.{long_full}
use Rattle.blocktri.specs.PerfectMatchings.{HasNoPerfectMatching, IsBelowFullRank}
use Rattle.blocktri.proofs.PerfectLemmas.{full_rows}
use Rattle.blocktri.proofs.LookLemmas.{few_rows}

pub no_perfect_below : (a : Matrix) (rank : ℕ) → IsRank a rank → HasNoPerfectMatching a ↔ IsBelowFullRank a rank
no_perfect_below a rank (m, max, size) = (λ none. by none (ℕ_discrete a.rows (cols a)) (dec_lt rank a.rows), λ below o full. back o full below)
  where
    by : HasNoPerfectMatching a → Dec (a.rows ≡ cols a) → Dec (rank < a.rows) → IsBelowFullRank a rank
    by none (no differ) less = inl differ
    by none (yes square) (yes below) = inr below
    by none (yes square) (no enough) = absurd (none m (long_full a m square max.matching (omega (arith, enough, size, square))))

    back : (o : List Place) → IsFull a o → IsBelowFullRank a rank → ⊥
    back o full (inl differ) = differ (omega (arith, full_rows a o full, full_length a o full, few_rows a o full.matching, matching_few a o full.matching))
    back o full (inr below) = omega (arith, below, size, full_rows a o full, max.longest o full.matching)
