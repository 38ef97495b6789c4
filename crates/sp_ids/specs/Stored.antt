-- How the entries of a file are stored.
use Rattle.std.specs.Prelude.{ℕ, ℤ, pos, List, [], ◌∷◌, ◌≡◌, ◌≢◌, ◌<◌, length}
use Rattle.std.specs.List.{AllByRecursion}
use Rattle.sp_ids.specs.declared.triples.Field.TheVariants.{Integer}
use Rattle.sp_ids.specs.declared.triples.Triples.TheInside.{Inside}
use Rattle.sp_ids.specs.Entries.{Triple, Entries, IsInside}

-- places with their values, which are 0 where there are none
abbrev pub items_of : List (ℕ × ℕ) → List ℤ → List Triple
items_of [] vs = []
items_of (p ∷ ps) [] = record { row = p.0; col = p.1; value = pos 0 } ∷ items_of ps []
items_of (p ∷ ps) (v ∷ vs) = record { row = p.0; col = p.1; value = v } ∷ items_of ps vs

abbrev pub entries_of : Inside → Entries
entries_of t = record {
  rows = t.rows;
  cols = t.cols;
  field = t.field;
  items = items_of t.places.items t.values.items;
}

-- the places are in range, there are less than 2^32 of them, and values stand beside them where the field is integer
pub record IsStored (t : Inside) : Type 0 where
  pub few : length t.places.items < 4294967296
  pub in_range : AllByRecursion (IsInside t.rows t.cols) t.places.items
  pub with_values : t.field ≡ Integer → length t.values.items ≡ length t.places.items
  pub without_values : t.field ≢ Integer → t.values.items ≡ []
