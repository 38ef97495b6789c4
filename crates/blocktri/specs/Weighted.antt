-- Matrices that a caller has as compressed columns or as compressed rows, with a value for each id.
use Rattle.std.specs.Prelude.{◌≡◌, ℕ, ℤ, Bool, true, false, List, length, map}
use Rattle.blocktri.specs.Compressed.{AreCompressed, CompressedLists, matrix_given, pick}
use Rattle.sp_ids.specs.Entries.{Entries, Triple}
use Rattle.sp_pattern.specs.ValuedColumns.{IsFirstId, entries_given}
use Rattle.sp_pattern.specs.Weights.{AreWeightsOf, IsFirstPast, Weighing}

-- the lists, and the values
pub record WeightedLists : Type 0 where
  pub lists : CompressedLists
  pub values : List ℤ

-- there is a value for each id
abbrev pub AreValued : WeightedLists → Type 0
AreValued m = length m.values ≡ length m.lists.ids

-- an entry of a file at the column of its row and the row of its column
abbrev pub turned_triple : Triple → Triple
turned_triple t = record { row = t.col; col = t.row; value = t.value }

abbrev pub turned_entries : Entries → Entries
turned_entries t = record {
  rows = t.cols;
  cols = t.rows;
  field = t.field;
  items = map turned_triple t.items;
}

abbrev pub turn_if : Bool → Entries → Entries
turn_if true t = turned_entries t
turn_if false t = t

-- what is given, in the order of the ids: the entries of a file of the field integer with the same
-- places and values
abbrev pub entries_of : WeightedLists → Entries
entries_of m = turn_if m.lists.by_rows
    (entries_given m.lists.others m.lists.starts m.lists.ids m.values)

-- the weights are those of the matrix that is given, by the values
abbrev pub AreWeightsGiven : WeightedLists → Weighing → Type 0
AreWeightsGiven m w = AreWeightsOf (entries_of m) (matrix_given m.lists) w

-- the lists are right, and P holds of the matrix that is given with its weights
pub record HasWeights (m : WeightedLists) (P : Weighing → Type 0) : Type 0 where
  pub compressed : AreCompressed m.lists
  pub weighing : Weighing
  pub weights : AreWeightsGiven m weighing
  pub holds : P weighing

-- the id at k is the first one of a place whose sum passes the limit; of the places whose sums do
-- this is the one of least column, and in it of least row
pub record IsFirstGivenPast (m : WeightedLists) (k : ℕ) : Type 0 where
  pub row : ℕ
  pub col : ℕ
  pub past : IsFirstPast (entries_of m) (matrix_given m.lists) row col
  pub id : IsFirstId m.lists.starts m.lists.ids (pick m.lists.by_rows col row)
      (pick m.lists.by_rows row col) k
