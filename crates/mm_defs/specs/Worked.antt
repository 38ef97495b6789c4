-- Files, and what has to be found in them. Each list is compared with what the definitions compute.
use Rattle.std.specs.Prelude.{ℕ, ℤ, pos, negsuc, true, if◌then◌else◌, ◌==◌, List, [], ◌∷◌, ◌++◌, length, replicate, codes, Option, Some, None}
use Rattle.std.specs.List.{flat_map}
use Rattle.sp_ids.specs.Entries as entries
use Rattle.sp_ids.specs.Entries.{Triple}
use Rattle.sp_ids.specs.declared.triples.Field.{Field}
use Rattle.sp_ids.specs.declared.triples.Field.TheVariants as field
use Rattle.mm_defs.specs.declared.answers.End.TheVariants.{File}
use Rattle.mm_defs.specs.declared.kinds.Kind.{Kind}
use Rattle.mm_defs.specs.declared.kinds.Kind.TheVariants as kinds
use Rattle.mm_defs.specs.Words.{lines}
use Rattle.mm_defs.specs.File.{Fault, faults, entries_of}

-- lines, each ended by LF
abbrev pub text : List (List ℕ) → List ℕ
text ls = flat_map (λ l. l ++ 10 ∷ []) ls

abbrev pub pattern_banner : List ℕ
pattern_banner = codes "%%MatrixMarket matrix coordinate pattern general"

abbrev pub integer_banner : List ℕ
integer_banner = codes "%%MatrixMarket matrix coordinate integer general"

abbrev pub symmetric_banner : List ℕ
symmetric_banner = codes "%%MatrixMarket matrix coordinate pattern symmetric"

abbrev pub skew_banner : List ℕ
skew_banner = codes "%%MatrixMarket matrix coordinate integer skew-symmetric"

abbrev pub array_banner : List ℕ
array_banner = codes "%%MatrixMarket matrix array integer general"

abbrev pub symmetric_array_banner : List ℕ
symmetric_array_banner = codes "%%MatrixMarket matrix Array integer symmetric"

abbrev pub skew_array_banner : List ℕ
skew_array_banner = codes "%%MatrixMarket matrix array INTEGER skew-symmetric"

abbrev pub pattern_file : List (List ℕ) → List ℕ
pattern_file ls = text (pattern_banner ∷ ls)

abbrev pub integer_file : List (List ℕ) → List ℕ
integer_file ls = text (integer_banner ∷ ls)

abbrev pub array_file : List (List ℕ) → List ℕ
array_file ls = text (array_banner ∷ ls)

abbrev pub symmetric_array : List (List ℕ) → List ℕ
symmetric_array ls = text (symmetric_array_banner ∷ ls)

abbrev pub skew_array : List (List ℕ) → List ℕ
skew_array ls = text (skew_array_banner ∷ ls)

-- ---- files that are refused

abbrev pub Refused : Type 0
Refused = List ℕ × Option Fault

abbrev pub at : ℕ → Kind → Option Fault
at line kind = Some (record { line = line; kind = kind })

abbrev pub bad_banners : List Refused
bad_banners =
    ([], at 1 kinds.NoBanner)
    ∷ (10 ∷ [], at 1 kinds.NoBanner)
    ∷ (31 ∷ 139 ∷ 8 ∷ [], at 1 kinds.NoBanner)
    ∷ (text (codes "%%matrixmarket matrix coordinate pattern general" ∷ []), at 1 kinds.NoBanner)
    ∷ (text (codes "%%MatrixMarkets matrix coordinate pattern general" ∷ []), at 1 kinds.NoBanner)
    ∷ (text ([] ∷ pattern_banner ∷ codes "1 1 0" ∷ []), at 1 kinds.NoBanner)
    ∷ (text (codes "%%MatrixMarket matrix coordinate pattern" ∷ []), at 1 kinds.HeaderWords)
    ∷ (
      text (codes "%%MatrixMarket matrix coordinate pattern general 1" ∷ []),
      at 1 kinds.HeaderWords,
    )
    ∷ (text (codes "%%MatrixMarket vector array real general" ∷ []), at 1 kinds.Object)
    ∷ (text (codes "%%MatrixMarket matrix dense real general" ∷ []), at 1 kinds.Format)
    ∷ (text (codes "%%MatrixMarket matrix coordinate boolean general" ∷ []), at 1 kinds.Field)
    ∷ (text (codes "%%MatrixMarket matrix coordinate pattern triangular" ∷ []), at 1 kinds.Symmetry)
    ∷ (text (codes "%%MatrixMarket matrix array real triangular" ∷ []), at 1 kinds.Symmetry)
    ∷ (text (codes "%%MatrixMarket matrix array real general" ∷ []), at 1 kinds.ArrayField)
    ∷ (text (codes "%%MatrixMarket matrix array pattern hermitian" ∷ []), at 1 kinds.ArrayField)
    ∷ (text (codes "%%MatrixMarket matrix array integer hermitian" ∷ []), at 1 kinds.Combination)
    ∷ (
      text (codes "%%MatrixMarket matrix coordinate pattern hermitian" ∷ []),
      at 1 kinds.Combination,
    )
    ∷ (
      text (codes "%%MatrixMarket matrix coordinate pattern skew-symmetric" ∷ []),
      at 1 kinds.Combination,
    )
    ∷ []

abbrev pub bad_sizes : List Refused
bad_sizes =
    (pattern_file [], at 1 kinds.NoSize)
    ∷ (pattern_file (codes "% a comment" ∷ [] ∷ []), at 3 kinds.NoSize)
    ∷ (pattern_file (codes "2 2" ∷ []), at 2 kinds.SizeWords)
    ∷ (pattern_file (codes "2 2 -1" ∷ []), at 2 kinds.SizeNumber)
    ∷ (pattern_file (codes "134217729 1 0" ∷ []), at 2 kinds.Rows)
    ∷ (pattern_file ((replicate 400 57 ++ codes " 1 0") ∷ []), at 2 kinds.Rows)
    ∷ (pattern_file (codes "1 134217729 0" ∷ []), at 2 kinds.Columns)
    ∷ (pattern_file (codes "1 1 134217729" ∷ []), at 2 kinds.Entries)
    ∷ (text (symmetric_banner ∷ codes "2 3 0" ∷ []), at 2 kinds.NotSquare)
    ∷ (array_file (codes "2 2 4" ∷ []), at 2 kinds.SizeWords)
    ∷ (array_file (codes "2 x" ∷ []), at 2 kinds.SizeNumber)
    ∷ (array_file (codes "134217729 0" ∷ []), at 2 kinds.Rows)
    ∷ (array_file (codes "0 134217729" ∷ []), at 2 kinds.Columns)
    ∷ (array_file (codes "20000 20000" ∷ []), at 2 kinds.Entries)
    ∷ (symmetric_array (codes "16384 16384" ∷ []), at 2 kinds.Entries)
    ∷ (symmetric_array (codes "16384 0" ∷ []), at 2 kinds.Entries)
    ∷ (symmetric_array (codes "16383 16384" ∷ []), at 2 kinds.NotSquare)
    ∷ (skew_array (codes "16385 16385" ∷ []), at 2 kinds.Entries)
    ∷ (skew_array (codes "16384 0" ∷ []), at 2 kinds.NotSquare)
    ∷ []

abbrev pub bad_entries : List Refused
bad_entries =
    (pattern_file (codes "1 1 1" ∷ codes "1" ∷ []), at 3 kinds.EntryWords)
    ∷ (pattern_file (codes "1 1 1" ∷ (49 ∷ 11 ∷ 49 ∷ []) ∷ []), at 3 kinds.EntryWords)
    ∷ (pattern_file (codes "1 1 1" ∷ codes "x 1" ∷ []), at 3 kinds.RowNumber)
    ∷ (pattern_file (codes "1 1 1" ∷ codes "-1 1" ∷ []), at 3 kinds.RowNumber)
    ∷ (pattern_file (codes "1 1 1" ∷ codes "1 x" ∷ []), at 3 kinds.ColumnNumber)
    ∷ (pattern_file (codes "1 1 1" ∷ codes "1 +" ∷ []), at 3 kinds.ColumnNumber)
    ∷ (pattern_file (codes "2 2 1" ∷ codes "0 1" ∷ []), at 3 kinds.RowRange)
    ∷ (pattern_file (codes "1 1 1" ∷ codes "2 1" ∷ []), at 3 kinds.RowRange)
    ∷ (
      pattern_file (codes "%c" ∷ [] ∷ codes "1 1 1" ∷ codes "% c" ∷ codes "2 1" ∷ []),
      at 6 kinds.RowRange,
    )
    ∷ (pattern_file (codes "1 1 1" ∷ codes "1 2" ∷ []), at 3 kinds.ColumnRange)
    ∷ (integer_file (codes "1 1 1" ∷ codes "1 1 5.0" ∷ []), at 3 kinds.ValueNumber)
    ∷ (integer_file (codes "1 1 1" ∷ codes "1 1 9223372036854775808" ∷ []), at 3 kinds.Value)
    ∷ (integer_file (codes "1 1 1" ∷ codes "1 1 -9223372036854775808" ∷ []), at 3 kinds.Value)
    ∷ (text (symmetric_banner ∷ codes "2 2 1" ∷ codes "1 2" ∷ []), at 3 kinds.UpperEntry)
    ∷ (text (skew_banner ∷ codes "2 2 1" ∷ codes "1 1 4" ∷ []), at 3 kinds.DiagonalEntry)
    ∷ (pattern_file (codes "1 1 1" ∷ codes "1 1" ∷ codes "1 1" ∷ []), at 4 kinds.Trailing)
    ∷ (pattern_file (codes "1 1 2" ∷ codes "1 1" ∷ []), at 3 kinds.MissingEntries)
    ∷ (pattern_file (codes "1 1 2" ∷ codes "1 1" ∷ [] ∷ codes "%" ∷ []), at 5 kinds.MissingEntries)
    ∷ []

abbrev pub bad_values : List Refused
bad_values =
    (array_file (codes "1 1" ∷ codes "1 1" ∷ []), at 3 kinds.EntryWords)
    ∷ (array_file (codes "1 1" ∷ codes "5.0" ∷ []), at 3 kinds.ValueNumber)
    ∷ (array_file (codes "1 2" ∷ codes "0" ∷ codes "-" ∷ []), at 4 kinds.ValueNumber)
    ∷ (array_file (codes "1 1" ∷ codes "9223372036854775808" ∷ []), at 3 kinds.Value)
    ∷ (array_file (codes "1 1" ∷ codes "-9223372036854775808" ∷ []), at 3 kinds.Value)
    ∷ (array_file (codes "2 2" ∷ codes "1" ∷ codes "2" ∷ codes "3" ∷ []), at 5 kinds.MissingEntries)
    ∷ (array_file (codes "1 1" ∷ codes "0" ∷ codes "0" ∷ []), at 4 kinds.Trailing)
    ∷ (symmetric_array (codes "2 2" ∷ codes "0" ∷ codes "4" ∷ []), at 4 kinds.MissingEntries)
    ∷ (
      symmetric_array (codes "2 2" ∷ codes "0" ∷ codes "4" ∷ codes "0" ∷ codes "0" ∷ []),
      at 6 kinds.Trailing,
    )
    ∷ (skew_array (codes "2 2" ∷ []), at 2 kinds.MissingEntries)
    ∷ (skew_array (codes "1 1" ∷ codes "0" ∷ []), at 3 kinds.Trailing)
    ∷ (array_file (codes "0 3" ∷ codes "% c" ∷ codes "0" ∷ []), at 4 kinds.Trailing)
    ∷ []

-- ---- files that are read

abbrev pub matrix : ℕ → ℕ → Field → List Triple → entries.Entries
matrix rows cols f items = record { rows = rows; cols = cols; field = f; items = items }

abbrev pub place : ℕ → ℕ → Triple
place row col = record { row = row; col = col; value = pos 0 }

abbrev pub valued : ℕ → ℕ → ℤ → Triple
valued row col value = record { row = row; col = col; value = value }

abbrev pub ReadFile : Type 0
ReadFile = List ℕ × Option entries.Entries

-- the entries, where the bytes are a good file
abbrev pub read : List ℕ → Option entries.Entries
read bytes =
    if length (faults File true (lines true bytes)) == 0
    then Some (entries_of (lines true bytes))
    else None

-- one entry
abbrev pub smallest_file : List ℕ
smallest_file = pattern_file (codes "1 1 1" ∷ codes "1 1" ∷ [])

-- CR LF, and no LF at the end
abbrev pub foreign_line_ends : List ℕ
foreign_line_ends = integer_banner ++ 13 ∷ 10 ∷ codes "1 1 2" ++ 13 ∷ 10 ∷ codes "1 1 5" ++ 13 ∷ 10
    ∷ codes "1 1 -5"

abbrev pub good_files : List ReadFile
good_files =
    (smallest_file, Some (matrix 1 1 field.Pattern (place 0 0 ∷ [])))
    ∷ (pattern_file (codes "0 0 0" ∷ []), Some (matrix 0 0 field.Pattern []))
    ∷ (
      pattern_file (codes "9 9 1" ∷ codes "+007 00009" ∷ []),
      Some (matrix 9 9 field.Pattern (place 6 8 ∷ [])),
    )
    ∷ (
      pattern_file (codes "1 1 1" ∷ codes "1 1" ∷ codes " % c" ∷ [] ∷ []),
      Some (matrix 1 1 field.Pattern (place 0 0 ∷ [])),
    )
    ∷ ((32 ∷ 9 ∷ text (pattern_banner ∷ codes "1 1 0" ∷ [])), Some (matrix 1 1 field.Pattern []))
    ∷ (
      text (symmetric_banner ∷ codes "2 2 1" ∷ codes "2 1" ∷ []),
      Some (matrix 2 2 field.Pattern (place 1 0 ∷ place 0 1 ∷ [])),
    )
    ∷ (
      text (codes "%%MatrixMarket MATRIX Coordinate complex hermitian" ∷ codes "2 2 2"
          ∷ codes "1 1 1 0" ∷ codes "2 1 0 1" ∷ []),
      Some (matrix 2 2 field.Complex (place 0 0 ∷ place 1 0 ∷ place 0 1 ∷ [])),
    )
    ∷ (
      foreign_line_ends,
      Some (matrix 1 1 field.Integer (record { row = 0; col = 0; value = pos 5 }
          ∷ record { row = 0; col = 0; value = negsuc 4 } ∷ [])),
    )
    ∷ (
      text (codes "%%MatrixMarket matrix coordinate real general" ∷ codes "2 2 2"
          ∷ codes "1 1 1.5e-3" ∷ codes "2 2 nan" ∷ []),
      Some (matrix 2 2 field.Real (place 0 0 ∷ place 1 1 ∷ [])),
    )
    ∷ (
      text (skew_banner ∷ codes "2 2 1" ∷ codes "2 1 -4" ∷ []),
      Some (matrix 2 2 field.Integer (record { row = 1; col = 0; value = negsuc 3 }
          ∷ record { row = 0; col = 1; value = pos 4 } ∷ [])),
    )
    ∷ (
      integer_file (codes "1 1 1" ∷ codes "1 1 -9223372036854775807" ∷ []),
      Some (matrix 1 1 field.Integer
          (record { row = 0; col = 0; value = negsuc 9223372036854775806 } ∷ [])),
    )
    ∷ []

-- a dense matrix column by column, or its lower triangle; a value 0 is no entry
abbrev pub good_arrays : List ReadFile
good_arrays = (
  array_file (codes "2 2" ∷ codes "0" ∷ codes "4" ∷ codes "5" ∷ codes "0" ∷ []),
  Some (matrix 2 2 field.Integer (valued 1 0 (pos 4) ∷ valued 0 1 (pos 5) ∷ [])),
)
    ∷ (
      symmetric_array (codes "2 2" ∷ codes "0" ∷ codes "4" ∷ codes "0" ∷ []),
      Some (matrix 2 2 field.Integer (valued 1 0 (pos 4) ∷ valued 0 1 (pos 4) ∷ [])),
    )
    ∷ (
      skew_array (codes "2 2" ∷ codes "-4" ∷ []),
      Some (matrix 2 2 field.Integer (valued 1 0 (negsuc 3) ∷ valued 0 1 (pos 4) ∷ [])),
    )
    ∷ (
      array_file (codes "2 3" ∷ codes "1" ∷ codes "+2" ∷ [] ∷ codes " 03 " ∷ codes "-0" ∷ codes "% c"
          ∷ codes "-5" ∷ codes "6" ∷ []),
      Some (matrix 2 3 field.Integer (valued 0 0 (pos 1) ∷ valued 1 0 (pos 2) ∷ valued 0 1 (pos 3)
          ∷ valued 0 2 (negsuc 4) ∷ valued 1 2 (pos 6) ∷ [])),
    )
    ∷ (
      symmetric_array (codes "3 3" ∷ codes "1" ∷ codes "2" ∷ codes "3" ∷ codes "4" ∷ codes "5"
          ∷ codes "6" ∷ []),
      Some (matrix 3 3 field.Integer (valued 0 0 (pos 1) ∷ valued 1 0 (pos 2) ∷ valued 0 1 (pos 2)
          ∷ valued 2 0 (pos 3) ∷ valued 0 2 (pos 3) ∷ valued 1 1 (pos 4) ∷ valued 2 1 (pos 5)
          ∷ valued 1 2 (pos 5) ∷ valued 2 2 (pos 6) ∷ [])),
    )
    ∷ (
      skew_array (codes "3 3" ∷ codes "1" ∷ codes "0" ∷ codes "3" ∷ []),
      Some (matrix 3 3 field.Integer (valued 1 0 (pos 1) ∷ valued 0 1 (negsuc 0) ∷ valued 2 1 (pos 3)
          ∷ valued 1 2 (negsuc 2) ∷ [])),
    )
    ∷ (array_file (codes "0 3" ∷ []), Some (matrix 0 3 field.Integer []))
    ∷ (array_file (codes "3 0" ∷ []), Some (matrix 3 0 field.Integer []))
    ∷ (skew_array (codes "1 1" ∷ []), Some (matrix 1 1 field.Integer []))
    ∷ (symmetric_array (codes "0 0" ∷ []), Some (matrix 0 0 field.Integer []))
    ∷ []

-- ---- what follows a matrix

abbrev pub Followed : Type 0
Followed = List ℕ × List ℕ

-- a comment is of the matrix before its last entry, and of what follows behind it
abbrev pub followed_files : List Followed
followed_files =
    (smallest_file ++ codes "% c", codes "% c")
    ∷ (smallest_file ++ text (codes "btf 1" ∷ []), text (codes "btf 1" ∷ []))
    ∷ (
      pattern_file (codes "1 1 1" ∷ codes "% c" ∷ [] ∷ codes "1 1" ∷ []) ++ codes "1 1",
      codes "1 1",
    )
    ∷ (pattern_file (codes "0 0 0" ∷ []) ++ codes "btf", codes "btf")
    ∷ (pattern_banner ++ 10 ∷ codes "1 1 1" ++ 10 ∷ codes "1 1", [])
    ∷ (smallest_file, [])
    ∷ (array_file (codes "1 2" ∷ codes "0" ∷ codes "7" ∷ []) ++ codes "8", codes "8")
    ∷ (skew_array (codes "1 1" ∷ []) ++ codes "btf", codes "btf")
    ∷ []

-- ---- bytes that are not all of an input

-- of a prefix of a file no line is bad that has not ended
abbrev pub prefixes : List Refused
prefixes =
    (codes "%%MatrixMarket matri", None)
    ∷ (text (codes "%%NotIt" ∷ []), at 1 kinds.NoBanner)
    ∷ (codes "%%NotIt", None)
    ∷ (pattern_file (codes "1 1 2" ∷ codes "1 1" ∷ []), None)
    ∷ (pattern_file (codes "1 1 1" ∷ codes "1 1" ∷ []) ++ codes "1 1", None)
    ∷ []
