-- What each step of the search changes.
use Rattle.std.specs.Prelude.{◌≡◌, ◌≢◌, ℕ, ◌+◌, ◌<◌, ◌≤◌, List, [], ◌∷◌, ◌++◌, length, slice_index, slice_set, sum_by, take}
use Rattle.bip_defs.specs.Lists.{Among, IsRising}
use Rattle.bip_graph.specs.Matching.{none}
use Rattle.square_components.specs.Numbers.{look}
use Rattle.square_components.specs.Stacks.{PathState, one_free}

-- for each of n rows 0 where it is one of these, and else none
pub record AreUnmet (n : ℕ) (square state : List ℕ) : Type 0 where
  pub long : length state ≡ n
  pub unmet : (r : ℕ) → Among r square → look state r ≡ 0
  pub others : (r : ℕ) → ¬ Among r square → look state r ≡ none
  pub free : sum_by one_free state ≡ length square

-- no row was met
pub record IsBeginning (n : ℕ) (square : List ℕ) (s : PathState) : Type 0 where
  pub stack : s.stack ≡ []
  pub starts : s.starts ≡ []
  pub frames : s.frames ≡ []
  pub unmet : AreUnmet n square s.state
  pub count : s.count ≡ 0
  pub room : s.room ≡ length square

-- there is room for one more row
pub record HasRoom (s : PathState) : Type 0 where
  pub few : s.room ≤ none
  pub stack : length s.stack < s.room
  pub starts : length s.starts < s.room

-- the row is on the path now, a component of its own
abbrev pub entering : PathState → ℕ → PathState
entering s r = record {
  stack = s.stack ++ r ∷ [];
  starts = s.starts ++ length s.stack ∷ [];
  frames = s.frames;
  state = slice_set s.state r (length s.stack + 1);
  count = s.count;
  room = s.room;
}

-- so many entries of the row at this place were gone over
abbrev pub with_top : PathState → ℕ → ℕ → PathState
with_top s p k = record s { frames = s.frames ++ (p, k) ∷ [] }

-- the components start at these places
abbrev pub merging : PathState → List ℕ → PathState
merging s starts = record s { starts = starts }

-- the rows from the place b on are finished, with these numbers
abbrev pub finishing : PathState → ℕ → List ℕ → List ℕ → PathState
finishing s b starts state = record {
  stack = take b s.stack;
  starts = starts;
  frames = s.frames;
  state = state;
  count = s.count + 1;
  room = s.room;
}

-- these are the starts below t
pub record AreBelow (t : ℕ) (old new : List ℕ) : Type 0 where
  pub kept : (b : ℕ) → Among b old → b < t → Among b new
  pub only : (b : ℕ) → Among b new → Among b old × (b < t)
  pub rising : IsRising new

-- the rows at the places from b to e have the number v now, and no others changed
pub record Assigns (stack : List ℕ) (b e v : ℕ) (old new : List ℕ) : Type 0 where
  pub long : length new ≡ length old
  pub given : (i : ℕ) → b ≤ i → i < e → look new (slice_index stack i) ≡ v
  pub others : (r : ℕ) → ((i : ℕ) → b ≤ i → i < e → slice_index stack i ≢ r)
      → look new r ≡ look old r

-- the entries from one to before another lead to rows that were met, and of the starts those that are above such a row are gone
pub data Passes (state list : List ℕ) (from : ℕ) (old : List ℕ) : ℕ → List ℕ → Type 0 where
  begin : Passes state list from old from old
  more : {at : ℕ} {new newer : List ℕ} → Passes state list from old at new → at < length list
      → look state (slice_index list at) ≢ 0
      → AreBelow (look state (slice_index list at)) new newer
      → Passes state list from old (at + 1) newer

-- the list ends here, or here stands a row that was not met
pub record StopsAt (state list : List ℕ) (at : ℕ) : Type 0 where
  pub within : at ≤ length list
  pub fresh : at < length list → look state (slice_index list at) ≡ 0

-- it is the last of the list
abbrev pub IsLast : List ℕ → ℕ → Type 0
IsLast xs x = (prefix : List ℕ) × (xs ≡ prefix ++ x ∷ [])

-- the last frame is taken off
pub record GoesBack (old : PathState) (f : ℕ × ℕ) (new : PathState) : Type 0 where
  pub frames : old.frames ≡ new.frames ++ f ∷ []
  pub same : new ≡ record old { frames = new.frames }

-- the row at this place is left, and its component is finished where the last one starts there
pub data Leaves (old : PathState) (at : ℕ) (new : PathState) : Type 0 where
  goes_back : (starts : List ℕ) (b : ℕ) → old.starts ≡ starts ++ b ∷ [] → b ≢ at → new ≡ old
      → Leaves old at new
  finishes : (starts state : List ℕ) → old.starts ≡ starts ++ at ∷ []
      → ((v : ℕ) → v + old.count ≡ none
      → Assigns old.stack at (length old.stack) v old.state state)
      → new ≡ finishing old at starts state → Leaves old at new

-- what was met stays so
abbrev pub StaysMet : List ℕ → List ℕ → Type 0
StaysMet old new = (r : ℕ) → look old r ≢ 0 → look new r ≢ 0
