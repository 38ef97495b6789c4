-- A tree of columns, and how it is stored.
use Rattle.std.specs.Prelude.{◌≡◌, ◌≢◌, ℕ, ◌<◌, ◌≤◌, List, length, slice_index_or}
use Rattle.bip_defs.specs.Queues.{Queue, at}
use Rattle.bip_graph.specs.Matching.{none}

-- for a matrix of so many columns, those that were reached
pub record Reached : Type 0 where
  pub cols : ℕ
  pub queue : Queue

-- where the column stands in the queue, or none
abbrev pub place_in : List ℕ → ℕ → ℕ
place_in places c = slice_index_or places c none

-- the array has the place of each column of the queue
pub record IsIndexed (places : List ℕ) (q : Queue) : Type 0 where
  pub few : length places ≤ none
  pub placed : (i : ℕ) → i < length q
      → ((at q i).0 < length places) × (place_in places (at q i).0 ≡ i)
  pub back : (c : ℕ) → place_in places c ≢ none
      → (place_in places c < length q) × ((at q (place_in places c)).0 ≡ c)
