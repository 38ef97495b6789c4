-- Lists with room, and how they stand in one array.
use Rattle.std.specs.List.{slice_range}
use Rattle.std.specs.Prelude.{ℕ, ◌+◌, List, [], ◌∷◌, ◌++◌, length, slice_index_or}
use Rattle.edit_session.specs.declared.arena.Span.{Span}

-- lists, and how many elements each has room for
pub record RoomyLists : Type 0 where
  pub lists : List (List ℕ)
  pub room : List ℕ

abbrev pub list_at : RoomyLists → ℕ → List ℕ
list_at a i = slice_index_or a.lists i []

-- one list more, which has room for no more
abbrev pub with_list : RoomyLists → List ℕ → RoomyLists
with_list a xs = record { lists = a.lists ++ xs ∷ []; room = a.room ++ length xs ∷ [] }

-- the rows of a list in the array
abbrev pub rows_in : List ℕ → Span → List ℕ
rows_in slots s = slice_range slots s.start (s.start + s.len)

abbrev pub room_of : Span → ℕ
room_of s = s.room
