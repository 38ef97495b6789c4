-- What a look at the columns finds.
use Rattle.std.specs.Prelude.{ℕ, ◌<◌, IfSome, List, length, slice_index}
use Rattle.bip_defs.specs.Lists.{Among}
use Rattle.bip_defs.specs.Matching.{rows_of}
use Rattle.bip_defs.specs.Matrix.{Matrix, Place}
use Rattle.bip_graph.specs.Matching.{IsMatchingOf, IsMaximumOf}
use Rattle.bip_graph.specs.OuterMarks.{AreOuterMarks}
use Rattle.blocktri.specs.declared.first_look.Look.{Look}
use Rattle.blocktri.specs.declared.first_look.Look.TheVariants.{Maximum, FromColumns, FromRows}
use Rattle.blocktri.specs.declared.maximum.ColumnSearch.{ColumnSearch}
use Rattle.blocktri.specs.declared.maximum.ColumnSearch.TheVariants.{Found, NotFound}

-- a matching, which is maximum where the look says so
abbrev pub IsLook : Matrix → Look → Type 0
IsLook a (Maximum m) = IsMaximumOf a m
IsLook a (FromColumns m unmatched) = IsMatchingOf a m
IsLook a (FromRows m unmatched) = IsMatchingOf a m

-- a maximum matching, with right marks where there are any, or a look to go on from
abbrev pub IsColumnSearch : Matrix → ColumnSearch → Type 0
IsColumnSearch a (Found m marks) = IsMaximumOf a m × IfSome marks (AreOuterMarks a)
IsColumnSearch a (NotFound look) = IfSome look (IsLook a)

-- each of these rows has a mate
abbrev pub AreMatched : List Place → List ℕ → Type 0
AreMatched m rows = (k : ℕ) → k < length rows → Among (slice_index rows k) (rows_of m)
