-- Numbers that are given anew, so that components have them by their least columns.
use Rattle.std.specs.Prelude.{◌≡◌, ◌≢◌, ◌↔◌, ℕ, ◌+◌, ◌<◌, ◌≤◌, List, length, slice_index, slice_set}
use Rattle.bip_defs.specs.Components.{AreComponents}
use Rattle.bip_defs.specs.Matrix.{Matrix, Place}
use Rattle.bip_defs.specs.Parts.{IsSquareCol}
use Rattle.bip_graph.specs.Matching.{none}
use Rattle.square_components.specs.Numbers.{AreColumnNumbers, look}

-- the numbers below the count are now those below n, by the first places where they stand; others are as they were
pub record AreRenumbered (old : List ℕ) (count : ℕ) (new : List ℕ) (n : ℕ) : Type 0 where
  pub long : length new ≡ length old
  pub below : (c : ℕ) → c < length old → slice_index old c < count → slice_index new c < n
  pub same : (c d : ℕ) → c < length old → d < length old → slice_index old c < count
      → slice_index old d < count
      → (slice_index new c ≡ slice_index new d) ↔ (slice_index old c ≡ slice_index old d)
  pub outside : (c : ℕ) → c < length old → ¬ (slice_index old c < count)
      → slice_index new c ≡ slice_index old c
  pub used : (x : ℕ) → x < n
      → (c : ℕ) × (c < length old) × (slice_index old c < count) × (slice_index new c ≡ x)
  -- each lesser number stands at an earlier place
  pub earlier : (c x : ℕ) → c < length old → slice_index old c < count → x < slice_index new c
      → (d : ℕ) × (d < c) × (slice_index old d < count) × (slice_index new d ≡ x)
  pub few : n ≤ length old

-- an old number gets a new one: the one that it has, or the next
pub data Gives (old : ℕ) (anew : List ℕ) (next new : ℕ) (anew2 : List ℕ) (next2 : ℕ) : Type 0 where
  known : slice_index anew old ≢ none → new ≡ slice_index anew old → anew2 ≡ anew → next2 ≡ next
      → Gives old anew next new anew2 next2
  first : slice_index anew old ≡ none → new ≡ next → anew2 ≡ slice_set anew old next
      → next2 ≡ next + 1 → Gives old anew next new anew2 next2

-- for each column the number of its strong component, by their least columns; `finished` numbers them in the order in which
-- a search finished them
pub record AreNumberedByLeast (a : Matrix) (pairs : List Place) (numbers : List ℕ)
    (count : ℕ) : Type 0 where
  pub columns : AreColumnNumbers a pairs numbers count
  pub finished : ℕ → ℕ
  pub components : AreComponents a columns.square finished
  pub same : (c d : ℕ) → IsSquareCol a c → IsSquareCol a d
      → (look numbers c ≡ look numbers d) ↔ (finished c ≡ finished d)
  -- each lesser number stands at an earlier column
  pub earlier : (c k : ℕ) → IsSquareCol a c → k < look numbers c
      → (d : ℕ) × (d < c) × IsSquareCol a d × (look numbers d ≡ k)
