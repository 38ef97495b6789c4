-- What the banner line and the size line say.
use Rattle.std.specs.Prelude.{ℕ, Bool, true, false, if◌then◌else◌, List, [], ◌∷◌, map, codes, Option, Some, None, unwrap_or}
use Rattle.std.specs.Char.{to_ascii_lowercase}
use Rattle.std.specs.Str.{bytes_eq}
use Rattle.sp_ids.specs.declared.triples.Field.{Field}
use Rattle.sp_ids.specs.declared.triples.Field.TheVariants.{Real, Complex, Integer, Pattern}
use Rattle.mm_defs.specs.declared.header.Format.{Format}
use Rattle.mm_defs.specs.declared.header.Format.TheVariants.{Coordinate, Array}
use Rattle.mm_defs.specs.declared.header.Header.{Header}
use Rattle.mm_defs.specs.declared.header.Size.{Size}
use Rattle.mm_defs.specs.declared.header.Symmetry.{Symmetry}
use Rattle.mm_defs.specs.declared.header.Symmetry.TheVariants.{General, Symmetric, SkewSymmetric, Hermitian}
use Rattle.mm_defs.specs.Arrays.{value_count}
use Rattle.mm_defs.specs.Words.{Word, word}
use Rattle.mm_defs.specs.Numbers.{number}

-- the word is this text, in any case
abbrev pub spells : List ℕ → Word → Bool
spells text w = bytes_eq (map to_ascii_lowercase w) text

-- what the first text of a table that the word spells stands for
abbrev pub named : {X : Type 0} → List (List ℕ × X) → Word → Option X
named [] w = None
named (row ∷ rows) w = if spells row.0 w then Some row.1 else named rows w

abbrev pub formats : List (List ℕ × Format)
formats = (codes "coordinate", Coordinate) ∷ (codes "array", Array) ∷ []

abbrev pub fields : List (List ℕ × Field)
fields = (codes "real", Real) ∷ (codes "complex", Complex) ∷ (codes "integer", Integer)
    ∷ (codes "pattern", Pattern) ∷ []

abbrev pub symmetries : List (List ℕ × Symmetry)
symmetries = (codes "general", General) ∷ (codes "symmetric", Symmetric)
    ∷ (codes "skew-symmetric", SkewSymmetric) ∷ (codes "hermitian", Hermitian) ∷ []

abbrev pub is_array : Format → Bool
is_array Coordinate = false
is_array Array = true

-- how many value words an entry line has
abbrev pub value_words : Field → ℕ
value_words Real = 1
value_words Complex = 2
value_words Integer = 1
value_words Pattern = 0

abbrev pub is_integer_field : Field → Bool
is_integer_field Real = false
is_integer_field Complex = false
is_integer_field Integer = true
is_integer_field Pattern = false

abbrev pub is_general : Symmetry → Bool
is_general General = true
is_general Symmetric = false
is_general SkewSymmetric = false
is_general Hermitian = false

abbrev pub is_skew : Symmetry → Bool
is_skew General = false
is_skew Symmetric = false
is_skew SkewSymmetric = true
is_skew Hermitian = false

-- which fields may have which symmetries
abbrev pub may_combine : Field → Symmetry → Bool
may_combine f General = true
may_combine f Symmetric = true
may_combine Real SkewSymmetric = true
may_combine Complex SkewSymmetric = true
may_combine Integer SkewSymmetric = true
may_combine Pattern SkewSymmetric = false
may_combine Complex Hermitian = true
may_combine Real Hermitian = false
may_combine Integer Hermitian = false
may_combine Pattern Hermitian = false

-- what the words of a good banner line say
abbrev pub header : List Word → Header
header ws = record {
  format = unwrap_or (named formats (word ws 2)) Coordinate;
  field = unwrap_or (named fields (word ws 3)) Pattern;
  symmetry = unwrap_or (named symmetries (word ws 4)) General;
}

-- how many words a size line has
abbrev pub size_words : Format → ℕ
size_words Coordinate = 3
size_words Array = 2

-- how many lines of the matrix follow a size line: an entry line for each that it says, or a value line for each value
abbrev pub line_count : Header → List Word → ℕ
line_count h ws =
    if is_array h.format
    then value_count h.symmetry (number (word ws 0)) (number (word ws 1))
    else number (word ws 2)

-- what the words of a good size line say
abbrev pub size : Header → List Word → Size
size h ws = record {
  rows = number (word ws 0);
  cols = number (word ws 1);
  count = line_count h ws;
}
