-- The state of a depth-first search for strong components, which keeps the path of components that are not finished.
use Rattle.std.specs.Prelude.{◌≡◌, ◌≢◌, ◌⊎◌, ℕ, ◌+◌, ◌<◌, ◌≤◌, List, length, slice_index, sum_by, take, nat_eq, if◌then◌else◌}
use Rattle.bip_defs.specs.Blocks.{IsPerfect}
use Rattle.bip_defs.specs.Lists.{Among, IsRising, numbers_of}
use Rattle.bip_defs.specs.Matrix.{Matrix, Place}
use Rattle.bip_defs.specs.Parts.{IsSquareRow}
use Rattle.bip_defs.specs.Walks.{Walk}
use Rattle.bip_graph.specs.Matching.{none}
use Rattle.column_lists.specs.Listed.{AreListed}
use Rattle.square_components.specs.Found.{col_in}
use Rattle.square_components.specs.Numbers.{look}

-- a matrix, the list of each column, the pairs of a matching, and those of the square part
pub record Graph : Type 0 where
  pub matrix : Matrix
  pub line : ℕ → List ℕ
  pub pairs : List Place
  pub square : List Place

-- a row of the square part
abbrev pub IsInside : Graph → ℕ → Type 0
IsInside g r = IsSquareRow g.matrix r

-- the rows to which the mate of a row leads
abbrev pub next : Graph → ℕ → List ℕ
next g r = g.line (col_in g.pairs r)

-- a walk leads from the mate of a row to that of another
abbrev pub Leads : Graph → ℕ → ℕ → Type 0
Leads g r t = Walk g.matrix g.square (col_in g.pairs r) (col_in g.pairs t)

pub record IsGraph (g : Graph) : Type 0 where
  pub perfect : IsPerfect g.matrix g.square
  pub listed : AreListed g.matrix g.line
  pub mates : (r : ℕ) → IsInside g r → Among (r, col_in g.pairs r) g.square
  pub over : (r c : ℕ) → Among (r, c) g.square → Among (r, c) g.pairs

-- the rows that are not finished in the order in which they were entered; the places at which the components so far start;
-- the places of those that are not left yet, with how many of their entries were gone over; for each row 0 if it was not met,
-- one more than its place on the path, or how far the number of its component is from none; how many components are finished;
-- and how many rows there may be
pub record PathState : Type 0 where
  pub stack : List ℕ
  pub starts : List ℕ
  pub frames : List (ℕ × ℕ)
  pub state : List ℕ
  pub count : ℕ
  pub room : ℕ

-- no component starts after j and up to i
abbrev pub Clear : List ℕ → ℕ → ℕ → Type 0
Clear starts j i = (b : ℕ) → Among b starts → j < b → i < b

-- where an entry of the row at the place i leads to: to a finished row, out of the square part, or to one of its own component
-- or a later one
pub data IsSettled (g : Graph) (stack starts state : List ℕ) (count i d : ℕ) : Type 0 where
  finished : none < look state d + count → IsSettled g stack starts state count i d
  outside : ¬ IsInside g d → IsSettled g stack starts state count i d
  stacked : (j : ℕ) → j < length stack → slice_index stack j ≡ d → Clear starts j i
      → IsSettled g stack starts state count i d

abbrev pub Settled : Graph → PathState → ℕ → ℕ → Type 0
Settled g s i d = IsSettled g s.stack s.starts s.state s.count i d

-- a row of the path, with this place
pub record IsOn (g : Graph) (s : PathState) (i r : ℕ) : Type 0 where
  pub inside : IsInside g r
  pub place : look s.state r ≡ i + 1

-- the finished rows, in so many components
pub record AreFinished (g : Graph) (state : List ℕ) (count : ℕ) : Type 0 where
  pub falling : (r d : ℕ) → IsInside g r → none < look state r + count → Among d (next g r)
      → look state r ≤ look state d
  pub used : (k : ℕ) → k < count → (r : ℕ) × IsInside g r × (look state r + k ≡ none)
  pub joined : (r t : ℕ) → IsInside g r → IsInside g t → none < look state r + count
      → look state r ≡ look state t → Leads g r t

abbrev pub one_free : ℕ → ℕ
one_free p = if nat_eq p 0 then 1 else 0

-- how many rows were not met yet
abbrev pub free : PathState → ℕ
free s = sum_by one_free s.state

-- what falls with each step
abbrev pub work : PathState → ℕ
work s = free s + free s + length s.frames

pub record IsState (g : Graph) (s : PathState) : Type 0 where
  pub long : length s.state ≡ g.matrix.rows
  pub on : (i : ℕ) → i < length s.stack → IsOn g s i (slice_index s.stack i)
  pub placed : (r : ℕ) → IsInside g r → look s.state r ≢ 0 → look s.state r + s.count ≤ none
      → (i : ℕ) × (i < length s.stack) × (slice_index s.stack i ≡ r)
  pub outside : (r : ℕ) → ¬ IsInside g r → look s.state r ≡ none
  pub walks : (i j : ℕ) → i < length s.stack → j < length s.stack → Clear s.starts j i
      → Leads g (slice_index s.stack i) (slice_index s.stack j)
  pub gone_over : (i k d : ℕ) → Among (i, k) s.frames
      → Among d (take k (next g (slice_index s.stack i))) → Settled g s i d
  pub left : (i : ℕ) → i < length s.stack → Among i (numbers_of s.frames)
      ⊎ ((d : ℕ) → Among d (next g (slice_index s.stack i)) → Settled g s i d)
  pub done : AreFinished g s.state s.count
  pub todo_in : (i : ℕ) → Among i (numbers_of s.frames) → i < length s.stack
  pub todo_rises : IsRising (numbers_of s.frames)
  pub starts_in : (b : ℕ) → Among b s.starts → b < length s.stack
  pub starts_rise : IsRising s.starts
  pub first : 0 < length s.stack → Among 0 s.starts
  pub few : s.count + length s.stack + free s ≤ s.room
  pub small : s.room ≤ none

-- a state between two steps: each component that is not finished starts at a row that is not left
pub record IsDepthFirst (a : Matrix) (line : ℕ → List ℕ) (pairs : List Place)
    (s : PathState) : Type 0 where
  pub square : List Place
  pub graph : IsGraph (record { matrix = a; line = line; pairs = pairs; square = square })
  pub state : IsState (record { matrix = a; line = line; pairs = pairs; square = square }) s
  pub opened : (b : ℕ) → Among b s.starts → Among b (numbers_of s.frames)
