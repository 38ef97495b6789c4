-- Components that wait for one another, in lists that are linked by numbers.
use Rattle.std.specs.Prelude.{◌≡◌, ◌≢◌, ◌⊎◌, ℕ, ◌<◌, ◌≤◌, List, [], ◌∷◌, length, slice_index, slice_index_or}
use Rattle.bip_graph.specs.Matching.{none}
use Rattle.dm_fine.specs.Layout.{Layout}
use Rattle.dm_fine.specs.declared.waits.Halt.{Halt}
use Rattle.dm_fine.specs.declared.waits.Wait.{Wait}
use Rattle.id_groups.specs.Groups.{group}

-- nothing waits here, and this waits at none
abbrev pub idle : Wait
idle = record { first = none; next = none; col = 0; at = 0 }

abbrev pub wait_of : List Wait → ℕ → Wait
wait_of ws j = slice_index_or ws j idle

-- the first component that waits at this one
abbrev pub first_of : List Wait → ℕ → ℕ
first_of ws j = (wait_of ws j).first

-- the next one in the list in which this one stands
abbrev pub next_of : List Wait → ℕ → ℕ
next_of ws j = (wait_of ws j).next

-- where this one stopped
abbrev pub col_of : List Wait → ℕ → ℕ
col_of ws j = (wait_of ws j).col

abbrev pub at_of : List Wait → ℕ → ℕ
at_of ws j = (wait_of ws j).at

-- these are the components in the list that begins with p
abbrev pub Chain : List Wait → ℕ → List ℕ → Type 0
Chain ws p [] = p ≡ none
Chain ws p (x ∷ xs) = (p ≡ x) × Chain ws (next_of ws x) xs

-- the component waits at the head of the list of the one at which it stopped, and no other one moved
pub record Holds (old : List Wait) (own : ℕ) (stop : Halt) (new : List Wait) : Type 0 where
  pub long : length new ≡ length old
  pub head : first_of new stop.on ≡ own
  pub next : next_of new own ≡ first_of old stop.on
  pub col : col_of new own ≡ stop.col
  pub at : at_of new own ≡ stop.at
  pub heads : (j : ℕ) → j ≢ stop.on → first_of new j ≡ first_of old j
  pub nexts : (j : ℕ) → j ≢ own → next_of new j ≡ next_of old j
  pub col_stays : (j : ℕ) → j ≢ own → col_of new j ≡ col_of old j
  pub at_stays : (j : ℕ) → j ≢ own → at_of new j ≡ at_of old j

-- a row of component own, or one that is placed or of no component
abbrev pub IsQuiet : List ℕ → ℕ → ℕ → Type 0
IsQuiet marks own r = (slice_index marks r ≡ own) ⊎ (slice_index marks r ≡ none)

-- the rows before `at` from `from` on are quiet, and the one there is of component `on`; or all are
pub record StopsAt (marks line : List ℕ) (own from at on : ℕ) : Type 0 where
  pub quiet : (i : ℕ) → from ≤ i → i < length line → (i < at) ⊎ (on ≡ none)
      → IsQuiet marks own (slice_index line i)
  pub stops : on ≢ none → (at < length line) × (from ≤ at) × (on ≢ own)
      × (slice_index marks (slice_index line at) ≡ on)

-- the list of rows of the k-th column of component own
abbrev pub line_of : Layout → ℕ → ℕ → List ℕ
line_of t own k = t.line (slice_index (group t.cols own) k)

-- all rows before this place of the component's lists are quiet
pub record IsPassed (t : Layout) (marks : List ℕ) (own col at : ℕ) : Type 0 where
  pub before : (k i : ℕ) → k < col → i < length (line_of t own k)
      → IsQuiet marks own (slice_index (line_of t own k) i)
  pub here : (i : ℕ) → i < at → i < length (line_of t own col)
      → IsQuiet marks own (slice_index (line_of t own col) i)

-- a look stopped at the first row of another component that is not placed, or behind all rows
pub record IsStop (t : Layout) (marks : List ℕ) (own : ℕ) (stop : Halt) : Type 0 where
  pub passed : IsPassed t marks own stop.col stop.at
  pub ends : stop.on ≡ none → stop.col ≡ length (group t.cols own)
  pub within : stop.on ≢ none → (stop.col < length (group t.cols own))
      × (stop.at < length (line_of t own stop.col))
  pub other : stop.on ≢ none → (stop.on ≢ own)
      × (slice_index marks (slice_index (line_of t own stop.col) stop.at) ≡ stop.on)
