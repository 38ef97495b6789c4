-- Where lists stand in one array, so that none reaches into another.
use Rattle.std.specs.Prelude.{◌≡◌, ◌≢◌, ◌⊎◌, ℕ, ◌+◌, ◌<◌, ◌≤◌, List, length, slice_index_or}
use Rattle.edit_session.specs.declared.arena.Span.{Span}

abbrev pub nowhere : Span
nowhere = record { start = 0; len = 0; room = 0 }

abbrev pub span_at : List Span → ℕ → Span
span_at spans i = slice_index_or spans i nowhere

-- where the room of a list ends
abbrev pub end_of : Span → ℕ
end_of s = s.start + s.room

abbrev pub IsApart : Span → Span → Type 0
IsApart s t = (end_of s ≤ t.start) ⊎ (end_of t ≤ s.start)

-- each list has room in an array of n places, at least for what it has, and no two share a place
pub record AreSpans (spans : List Span) (n : ℕ) : Type 0 where
  pub within : (i : ℕ) → end_of (span_at spans i) ≤ n
  pub filled : (i : ℕ) → Span.len (span_at spans i) ≤ Span.room (span_at spans i)
  pub apart : (i j : ℕ) → i ≢ j → IsApart (span_at spans i) (span_at spans j)

-- the elements from a place to before another one have moved up by one, and x stands before them
pub record IsShiftedUp (from end x : ℕ) (old new : List ℕ) : Type 0 where
  pub long : length new ≡ length old
  pub put : (d : ℕ) → slice_index_or new from d ≡ x
  pub moved : (k d : ℕ) → from ≤ k → k < end → slice_index_or new (k + 1) d ≡ slice_index_or old k d
  pub others : (k d : ℕ) → (k < from) ⊎ (end < k) → slice_index_or new k d ≡ slice_index_or old k d

-- the elements behind a place, to before another one, have moved down by one
pub record IsShiftedDown (from end : ℕ) (old new : List ℕ) : Type 0 where
  pub long : length new ≡ length old
  pub moved : (k d : ℕ) → from ≤ k → k + 1 < end
      → slice_index_or new k d ≡ slice_index_or old (k + 1) d
  pub others : (k d : ℕ) → (k < from) ⊎ (end ≤ k) → slice_index_or new k d ≡ slice_index_or old k d
