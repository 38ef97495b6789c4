-- Matrices after edits: a place gets an entry, or loses the one that it has.
use Rattle.std.specs.Prelude.{ℕ, ◌<◌, ◌&&◌, List, [], ◌∷◌, filter, nat_eq, nat_lt, not, slice_set, if◌then◌else◌}
use Rattle.bip_defs.specs.Matrix.{Matrix, Place, cols, column}

-- a rising list with a number in its place among the others, which is there once
abbrev pub with_number : ℕ → List ℕ → List ℕ
with_number x [] = x ∷ []
with_number x (y ∷ ys) = if nat_lt x y then x ∷ y ∷ ys
    else if nat_eq x y then y ∷ ys
    else y ∷ with_number x ys

-- the other numbers of a list
abbrev pub without_number : ℕ → List ℕ → List ℕ
without_number x ys = filter (λ y. not (nat_eq y x)) ys

-- the matrix with an entry at the place
abbrev pub with_place : Matrix → Place → Matrix
with_place a p = record {
  rows = a.rows;
  columns = slice_set a.columns p.1 (with_number p.0 (column a p.1));
}

-- the matrix without an entry at the place
abbrev pub without_place : Matrix → Place → Matrix
without_place a p = record {
  rows = a.rows;
  columns = slice_set a.columns p.1 (without_number p.0 (column a p.1));
}

-- an edit sets the place's entry, where there is none, or clears it, where there is one
pub data Edit : Type 0 where
  Set : Place → Edit
  Clear : Place → Edit

abbrev pub after_edit : Matrix → Edit → Matrix
after_edit a (Set p) = with_place a p
after_edit a (Clear p) = without_place a p

-- the matrix after a list of edits, one after another
abbrev pub edited : Matrix → List Edit → Matrix
edited a [] = a
edited a (e ∷ es) = edited (after_edit a e) es

-- the places after an edit
abbrev pub places_after : List Place → Edit → List Place
places_after ps (Set p) = p ∷ ps
places_after ps (Clear p) = filter (λ (q : Place). not (nat_eq q.0 p.0 && nat_eq q.1 p.1)) ps

abbrev pub edited_places : List Place → List Edit → List Place
edited_places ps [] = ps
edited_places ps (e ∷ es) = edited_places (places_after ps e) es

-- the place of an edit
abbrev pub place_of : Edit → Place
place_of (Set p) = p
place_of (Clear p) = p

-- the edits are of places within so many rows and columns
abbrev pub AreWithin : ℕ → ℕ → List Edit → Type 0
AreWithin rows cols [] = Unit {0}
AreWithin rows cols (e ∷ es) = (((place_of e).0 < rows) × ((place_of e).1 < cols))
    × AreWithin rows cols es
