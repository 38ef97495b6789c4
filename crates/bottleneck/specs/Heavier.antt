-- The entries above a weight, with a maximum matching of them.
use Rattle.std.specs.Prelude.{◌≡◌, ◌<◌, ◌≤◌, ℕ, List, length}
use Rattle.bip_defs.specs.Bottleneck.{above}
use Rattle.bip_defs.specs.Lists.{Among}
use Rattle.bip_defs.specs.Matrix.{Place, cols}
use Rattle.bip_graph.specs.Matching.{IsMaximumOf}
use Rattle.sp_pattern.specs.Weights.{Weighing, weight_at}
use Rattle.bottleneck.specs.declared.heavier.Heavier.{Heavier}

-- they are those of the weighed matrix above the weight, and the matching is a maximum one of them
pub record IsHeavier (w : Weighing) (h : Heavier) : Type 0 where
  pub entries : h.entries ≡ above w.matrix (weight_at w) h.above
  pub maximum : IsMaximumOf h.entries h.maximum

-- the same, of which the matching leaves columns unmatched
pub record IsShort (w : Weighing) (h : Heavier) : Type 0 where
  pub heavier : IsHeavier w h
  pub short : length h.maximum.pairs < cols w.matrix

-- each of the pairs weighs at least so much
abbrev pub WeighAtLeast : (ℕ → ℕ → ℕ) → List Place → ℕ → Type 0
WeighAtLeast weight pairs bound = (r c : ℕ) → Among (r, c) pairs → bound ≤ weight r c
