-- Prices of rows that are raised from below until they are fair.
use Rattle.std.specs.Int.RustNames.{unsigned_abs}
use Rattle.std.specs.Prelude.{◌≡◌, ℕ, ℤ, pos, ◌+ℤ◌, ◌-ℤ◌, ◌≤ℤ◌, ◌<◌, ◌≤◌, Bool, IsTrue, List, length, slice_index, slice_index_or, sum_by}
use Rattle.bip_defs.specs.Bottleneck.{IsFull}
use Rattle.bip_defs.specs.Lists.{Among}
use Rattle.bip_defs.specs.Matrix.{IsEntry, Place}
use Rattle.blocktri.specs.Diagonals.{AreNarrow}
use Rattle.integer_diagonal.specs.Prices.{AreFair, price}
use Rattle.sp_pattern.specs.Weights.{Weighing, weight_at, weight_limit}

-- a diagonal for which prices are looked for, in a matrix whose weights are within the limit
pub record IsDiagonal (w : Weighing) (m : List Place) : Type 0 where
  pub full : IsFull w.matrix m
  pub small : (r c : ℕ) → IsEntry w.matrix r c → weight_at w r c ≤ weight_limit

-- none of its fair prices all fit 64 bits
abbrev pub HasNoNarrow : Weighing → List Place → Type 0
HasNoNarrow w m = (u v : List ℤ) → AreFair w m u v → AreNarrow u → AreNarrow v → ⊥

-- no price is greater than the greatest of 64 bits
abbrev pub AreAtMost : List ℤ → Type 0
AreAtMost u = (r : ℕ) → price u r ≤ℤ pos weight_limit

-- how far the prices of rows are below that
abbrev pub gap : List ℤ → ℕ
gap u = sum_by (λ z. unsigned_abs (pos weight_limit -ℤ z)) u

-- the least that a row's price may be by an entry of a column, from what the column asks for
abbrev pub asked : List ℕ → ℤ → ℕ → ℤ
asked weights base i = base +ℤ pos (slice_index weights i)

-- the rows of the first k entries have at least the prices that are asked for
abbrev pub AreMet : List ℕ → List ℕ → ℤ → ℕ → List ℤ → Type 0
AreMet rows weights base k u =
    (i : ℕ) → i < k → asked weights base i ≤ℤ price u (slice_index rows i)

-- the first k entries have raised prices no higher than they ask for
pub record AreRaised (rows weights : List ℕ) (base : ℤ) (k : ℕ) (old new : List ℤ) : Type 0 where
  pub long : length new ≡ length old
  pub up : (r : ℕ) → price old r ≤ℤ price new r
  pub least : (x : List ℤ) → ((r : ℕ) → r < length old → price old r ≤ℤ price x r)
      → AreMet rows weights base k x → (r : ℕ) → r < length old → price new r ≤ℤ price x r
  pub within : AreAtMost new

-- the entries of a column have raised prices no higher than they ask for, or there was nothing to
-- raise
pub record HasRaised (rows weights : List ℕ) (base : ℤ) (old new : List ℤ)
    (raised : Bool) : Type 0 where
  pub prices : AreRaised rows weights base (length rows) old new
  pub nearer : IsTrue raised → gap new < gap old
  pub same : ¬ IsTrue raised → new ≡ old
  pub met : ¬ IsTrue raised → AreMet rows weights base (length rows) old

-- the prices of rows are no greater than in any fair prices of 64 bits, and such that the prices
-- of columns that go with them fit
pub record AreLow (w : Weighing) (m : List Place) (u : List ℤ) : Type 0 where
  pub long : length u ≡ w.matrix.rows
  pub within : AreAtMost u
  pub columns : (r c : ℕ) → Among (r, c) m
      → pos (weight_at w r c) ≤ℤ (price u r +ℤ pos weight_limit)
  pub least : (x y : List ℤ) → AreFair w m x y → AreNarrow x → AreNarrow y → (r : ℕ)
      → r < w.matrix.rows → price u r ≤ℤ price x r

-- the pair that stands there on the list
abbrev pub place_at : List Place → ℕ → Place
place_at m i = slice_index_or m i (0, 0)

-- no entry of the first k pairs' columns asks for more
abbrev pub AreEnough : Weighing → List Place → ℕ → List ℤ → Type 0
AreEnough w m k u = (i r : ℕ) → i < k → IsEntry w.matrix r (place_at m i).1
    → (price u (place_at m i).0 +ℤ pos (weight_at w r (place_at m i).1))
    ≤ℤ (price u r +ℤ pos (weight_at w (place_at m i).0 (place_at m i).1))

-- the prices of columns that go with the prices of rows
abbrev pub AreColumnPrices : Weighing → List Place → List ℤ → List ℤ → Type 0
AreColumnPrices w m u v = (r c : ℕ) → Among (r, c) m
    → price v c ≡ (pos (weight_at w r c) -ℤ price u r)
