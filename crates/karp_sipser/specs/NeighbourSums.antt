-- Sums of unmatched neighbours, one for each unmatched column of a matrix. Those of the rows are the sums of the transpose.
use Rattle.std.specs.Prelude.{◌≡◌, ◌≢◌, ℕ, suc, ◌+◌, ◌-◌, ◌*◌, ◌%◌, ◌^◌, ◌<◌, ◌≤◌, List, false, length, slice_index, sum_by}
use Rattle.bip_defs.specs.Lists.{Among, Lists}
use Rattle.bip_defs.specs.Matching.{cols_of}
use Rattle.bip_defs.specs.Matrix.{cols, column, Matrix, Place}
use Rattle.bip_defs.specs.Start.{ColOfOne, IsFree, IsLeast, IsOnly}
use Rattle.bip_graph.specs.Matching.{Pairing}
use Rattle.karp_sipser.specs.declared.neighbour_sums.NeighbourSums.{NeighbourSums}

-- what is left of a sum without a number, modulo 2^32
abbrev pub wrapping_sub : ℕ → ℕ → ℕ
wrapping_sub sum x = (sum + (2 ^ 32 - x)) % 2 ^ 32

-- the sum of some numbers, with a unit for each
abbrev pub total : ℕ → List ℕ → ℕ
total unit xs = sum_by (λ x. unit + x) xs

-- the numbers that have P have this sum modulo 2^32, with a unit for each
pub record IsSum (unit : ℕ) (P : ℕ → Type 0) (sum : ℕ) : Type 0 where
  pub having : List ℕ
  pub lists : Lists P having
  pub sum_is : total unit having % 2 ^ 32 ≡ sum

-- a sum like that of one number below the unit
abbrev pub LooksLikeOne : ℕ → ℕ → Type 0
LooksLikeOne unit sum = wrapping_sub sum unit < unit

-- what a word leaves without a unit and the mate's number is like the sum of one number, this one
abbrev pub IsRest : ℕ → ℕ → ℕ → ℕ → Type 0
IsRest unit word mate x = LooksLikeOne unit (wrapping_sub word ((unit + mate) % 2 ^ 32))
    × (wrapping_sub (wrapping_sub word ((unit + mate) % 2 ^ 32)) unit ≡ x)

-- so many numbers below the unit, and one more, have a sum of at most 2^32
abbrev pub IsShort : ℕ → ℕ → Type 0
IsShort unit count = suc count * (unit + unit) ≤ 2 ^ 32

-- each row of the matrix is below the unit, which fits 32 bits
pub record IsUnit (a : Matrix) (unit : ℕ) : Type 0 where
  pub positive : 0 < unit
  pub fits : unit < 2 ^ 32
  pub rows_below : a.rows ≤ unit

-- for each unmatched column the sum of the rows of its free entries, and whether some column's list is not short
pub record AreSums (a : Matrix) (m : List Place) (s : NeighbourSums) : Type 0 where
  pub of_unit : IsUnit a s.unit
  pub long : length s.words.items ≡ cols a
  pub bound : s.of_one.bound ≡ cols a
  pub sums : (c : ℕ) → c < cols a → ¬ Among c (cols_of m)
      → IsSum s.unit (λ r. IsFree a m r c) (slice_index s.words.items c)
  pub short : s.some_long ≡ false → (c : ℕ) → c < cols a → IsShort s.unit (length (column a c))

-- these sums of a matching that has the matrix's sizes
pub record AreSumsOf (a : Matrix) (m : Pairing) (s : NeighbourSums) : Type 0 where
  pub rows : m.rows ≡ a.rows
  pub cols : m.cols ≡ cols a
  pub sums : AreSums a m.pairs s

-- each column with exactly one unmatched neighbour is among these
abbrev pub HoldsOnes : Matrix → List Place → List ℕ → Type 0
HoldsOnes a m members = (c : ℕ) → ColOfOne a m c → Among c members

-- each column with exactly one unmatched neighbour, but for one column, is among these
abbrev pub HoldsOnesBut : ℕ → Matrix → List Place → List ℕ → Type 0
HoldsOnesBut x a m members = (c : ℕ) → c ≢ x → ColOfOne a m c → Among c members

-- the least column with exactly one unmatched neighbour, and this row; all others are among these
pub record IsLeastOfOne (a : Matrix) (m : List Place) (members : List ℕ) (p : Place) : Type 0 where
  pub least : IsLeast (ColOfOne a m) p.0
  pub only : IsOnly (λ r. IsFree a m r p.0) p.1
  pub ones : HoldsOnesBut p.0 a m members

-- of these columns, and no others, the sums are less by a neighbour and a unit
pub record Lowers (unit neighbour : ℕ) (ids old new : List ℕ) : Type 0 where
  pub lowered : (x : ℕ) → Among x ids
      → slice_index new x ≡ wrapping_sub (slice_index old x) ((unit + neighbour) % 2 ^ 32)
  pub kept : (x : ℕ) → ¬ Among x ids → slice_index new x ≡ slice_index old x
  pub long : length new ≡ length old

-- without the mate: of these columns, but for the matched one, the sums are less by it, and those that look like one's are among the members
pub record IsLeftOut (matched mate : ℕ) (ids : List ℕ) (old new : NeighbourSums) : Type 0 where
  pub lowered : (x : ℕ) → x ≢ matched → Among x ids → slice_index new.words.items x
      ≡ wrapping_sub (slice_index old.words.items x) ((old.unit + mate) % 2 ^ 32)
  pub ones : (x : ℕ) → Among x ids → LooksLikeOne old.unit (slice_index new.words.items x)
      → Among x new.of_one.members

-- what leaving out a matched column and its mate changes
pub record LeavesOut (matched mate : ℕ) (ids : List ℕ) (old new : NeighbourSums) : Type 0 where
  pub left_out : IsLeftOut matched mate ids old new
  pub kept : (x : ℕ) → x ≢ matched → ¬ Among x ids
      → slice_index new.words.items x ≡ slice_index old.words.items x
  pub grows : (x : ℕ) → Among x old.of_one.members → Among x new.of_one.members
  pub bound : new.of_one.bound ≡ old.of_one.bound
  pub long : length new.words.items ≡ length old.words.items
  pub unit : new.unit ≡ old.unit
  pub some_long : new.some_long ≡ old.some_long
