-- Flat lists that starts cut into parts.
use Rattle.std.specs.List.{slice_range}
use Rattle.std.specs.Prelude.{◌≡◌, ℕ, ◌+◌, ◌-◌, ◌<◌, ◌≤◌, List, [], ◌∷◌, length, slice_index}

-- the part of a flat list from one start to the next
abbrev pub piece : {X : Type 0} → List ℕ → List X → ℕ → List X
piece starts flat i = slice_range flat (slice_index starts i) (slice_index starts (i + 1))

-- all parts, in order
abbrev pub pieces : {X : Type 0} → List ℕ → List X → List (List X)
pieces [] flat = []
pieces (a ∷ []) flat = []
pieces (a ∷ b ∷ starts) flat = slice_range flat a b ∷ pieces (b ∷ starts) flat

-- the starts begin with 0, rise, and end with the flat list's length
pub record AreStarts {X : Type 0} (starts : List ℕ) (flat : List X) : Type 0 where
  pub one : 0 < length starts
  pub first : slice_index starts 0 ≡ 0
  pub rise : (i : ℕ) → i + 1 < length starts → slice_index starts i ≤ slice_index starts (i + 1)
  pub last : slice_index starts (length starts - 1) ≡ length flat
