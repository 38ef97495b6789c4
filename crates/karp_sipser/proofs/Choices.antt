-- Which pair is taken next.
use Rattle.std.proofs.Common.{ℕ, ◌<◌, ◌≤◌, List, inl, inr}
use Rattle.std.proofs.lemmas.Bool.{cases_lt}
use Rattle.bip_defs.specs.Matching.{transposed_places}
use Rattle.bip_defs.specs.Matrix.{Matrix, Place, transpose}
use Rattle.bip_defs.specs.Start.{by_any, by_row, ColOfOne, IsChoice, IsFree, IsLeast, IsOnly}
use Rattle.karp_sipser.proofs.Free.{least_row_turned, no_row_turned, turned_free}

-- else the least row with one neighbour, as it is seen in the transpose
pub chooses_row : (a : Matrix) (m : List Place) (r c : ℕ) → ((d : ℕ) → ¬ ColOfOne a m d) → IsLeast (ColOfOne (transpose a) (transposed_places m)) r → IsOnly (λ s. IsFree (transpose a) (transposed_places m) s r) c → IsChoice a m (r, c)
chooses_row a m r c none least only = by_row r c none (least_row_turned a m r least) (turned_free a m r c only.0)

-- nothing is free before a column, where nothing is up to another one and from there on
pub none_before : (a : Matrix) (m : List Place) (from to : ℕ) → ((r c : ℕ) → c < from → ¬ IsFree a m r c) → ((r c : ℕ) → from ≤ c → c < to → ¬ IsFree a m r c) → (r c : ℕ) → c < to → ¬ IsFree a m r c
none_before a m from to below none r c lt = elim (cases_lt c from) [
  | inl low ↦ below r c low
  | inr le ↦ none r c le lt
]

pub chooses_none : (a : Matrix) (m : List Place) (from : ℕ) → ((r c : ℕ) → c < from → ¬ IsFree a m r c) → ((r c : ℕ) → from ≤ c → ¬ IsFree a m r c) → (r c : ℕ) → ¬ IsFree a m r c
chooses_none a m from below none r c = elim (cases_lt c from) [
  | inl low ↦ below r c low
  | inr le ↦ none r c le
]

-- else the least column that has a free entry, with its least such row
pub chooses_any : (a : Matrix) (m : List Place) (r c : ℕ) → ((d : ℕ) → ¬ ColOfOne a m d) → ((s : ℕ) → ¬ ColOfOne (transpose a) (transposed_places m) s)
    → ((s d : ℕ) → d < c → ¬ IsFree a m s d) → IsLeast (λ s. IsFree a m s c) r → IsChoice a m (r, c)
chooses_any a m r c no_col no_row before least = by_any r c no_col (no_row_turned a m no_row) (
  (r, least.0),
  λ d o. elim (cases_lt d c) [
    | inl low ↦ absurd (before o.0 d low o.1)
    | inr le ↦ le
  ],
)
    least
