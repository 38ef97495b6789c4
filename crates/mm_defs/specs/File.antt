-- Which lines of a file are what, its first fault, and what a good file says.
use Rattle.std.specs.Prelude.{◌≡◌, ℕ, ℤ, pos, neg_ℤ, nat_abs, zero, suc, Bool, true, false, if◌then◌else◌, ◌==◌, ◌-◌, nat_lt, List, [], ◌∷◌, ◌++◌, length, take, drop, map, slice_get, Option}
use Rattle.std.specs.Option.{option_map, option_to_list}
use Rattle.std.specs.List.{flat_map, zip}
use Rattle.sp_ids.specs.declared.triples.Field as field
use Rattle.sp_ids.specs.Entries as entries
use Rattle.sp_ids.specs.Entries.{Triple}
use Rattle.mm_defs.specs.declared.answers.End.{End}
use Rattle.mm_defs.specs.declared.answers.End.TheVariants.{File, LastEntry}
use Rattle.mm_defs.specs.declared.header.Format.{Format}
use Rattle.mm_defs.specs.declared.header.Format.TheVariants.{Coordinate, Array}
use Rattle.mm_defs.specs.declared.header.Header.{Header}
use Rattle.mm_defs.specs.declared.header.Size.{Size}
use Rattle.mm_defs.specs.declared.header.Symmetry as symmetry
use Rattle.mm_defs.specs.declared.header.Symmetry.TheVariants.{General, Symmetric, SkewSymmetric, Hermitian}
use Rattle.mm_defs.specs.declared.kinds.Kind.{Kind}
use Rattle.mm_defs.specs.declared.kinds.Kind.TheVariants.{NoBanner, Trailing, NoSize, MissingEntries}
use Rattle.mm_defs.specs.Words.{Word, Line, word, is_lf, lines, numbered, kept}
use Rattle.mm_defs.specs.Arrays.{array_places}
use Rattle.mm_defs.specs.Numbers.{number, integer}
use Rattle.mm_defs.specs.Header.{is_integer_field, header, size}
use Rattle.mm_defs.specs.Faults.{Rule, first_kind, banner_rules, size_rules, entry_rules}

-- ---- the parts of a file, by its lines

-- line 1, where there is one
abbrev pub banner_lines : List (List ℕ) → List Line
banner_lines ls = take 1 (numbered 1 ls)

-- the later lines that are not skipped
abbrev pub later_lines : List (List ℕ) → List Line
later_lines ls = kept (drop 1 (numbered 1 ls))

abbrev pub size_lines : List (List ℕ) → List Line
size_lines ls = take 1 (later_lines ls)

abbrev pub words_of_first : List Line → List Word
words_of_first [] = []
words_of_first (l ∷ ls) = l.words

abbrev pub header_of : List (List ℕ) → Header
header_of ls = header (words_of_first (banner_lines ls))

abbrev pub size_of : List (List ℕ) → Size
size_of ls = size (header_of ls) (words_of_first (size_lines ls))

-- the entry lines, or the value lines of an array file
abbrev pub entry_lines : List (List ℕ) → List Line
entry_lines ls = take (size_of ls).count (drop 1 (later_lines ls))

abbrev pub lines_after : List (List ℕ) → List Line
lines_after ls = drop (size_of ls).count (drop 1 (later_lines ls))

-- ---- the faults, in the order of lines

pub record Fault : Type 0 where
  pub line : ℕ
  pub kind : Kind

-- the fault of a line, if a kind applies to it
abbrev pub fault_by : (List Word → List Rule) → Line → List Fault
fault_by rules l = option_to_list
    (option_map (λ kind. record { line = l.number; kind = kind }) (first_kind (rules l.words)))

-- the first kind that applies to each of these lines
abbrev pub faults_by : (List Word → List Rule) → List Line → List Fault
faults_by rules ls = flat_map (fault_by rules) ls

abbrev pub trailing : End → List Line → List Fault
trailing File ls = map (λ (l : Line). record { line = l.number; kind = Trailing }) ls
trailing LastEntry ls = []

-- where there is no line, line 1 has no banner
abbrev pub no_banner : List (List ℕ) → List Fault
no_banner [] = record { line = 1; kind = NoBanner } ∷ []
no_banner (l ∷ ls) = []

-- what is missing at the end
abbrev pub missing : List (List ℕ) → List Fault
missing ls =
    if length (size_lines ls) == 0
    then record { line = length ls; kind = NoSize } ∷ []
    else (if nat_lt (length (entry_lines ls)) (size_of ls).count then record {
      line = length ls;
      kind = MissingEntries;
    } ∷ [] else [])

-- the faults of the lines themselves
unfoldable pub line_faults : End → List (List ℕ) → List Fault
line_faults end ls =
    faults_by banner_rules (banner_lines ls)
    ++ faults_by (size_rules (header_of ls)) (size_lines ls)
    ++ faults_by (entry_rules (header_of ls) (size_of ls)) (entry_lines ls)
    ++ trailing end (lines_after ls)

-- The faults of lines; where the input ended with them, those of its end too.
abbrev pub faults : End → Bool → List (List ℕ) → List Fault
faults end true ls = no_banner ls ++ line_faults end ls ++ missing ls
faults end false ls = line_faults end ls

-- The first fault of what was given; it ended there or it did not.
unfoldable pub first_fault : End → Bool → List ℕ → Option Fault
first_fault end ended given = slice_get (faults end ended (lines ended given)) 0

-- ---- what a good file says

-- the place on the other side of the diagonal
abbrev pub mirror : symmetry.Symmetry → Triple → List Triple
mirror General t = []
mirror Symmetric t =
    if t.row == t.col
    then []
    else record { row = t.col; col = t.row; value = t.value } ∷ []
mirror SkewSymmetric t = record { row = t.col; col = t.row; value = neg_ℤ t.value } ∷ []
mirror Hermitian t =
    if t.row == t.col
    then []
    else record { row = t.col; col = t.row; value = t.value } ∷ []

-- rows and columns count from 1 in files, and from 0 here
abbrev pub triple_at : field.Field → ℕ → ℕ → Word → Triple
triple_at f i j w = record {
  row = i - 1;
  col = j - 1;
  value = if is_integer_field f then integer w else pos 0;
}

abbrev pub triple : Header → List Word → Triple
triple h ws = triple_at h.field (number (word ws 0)) (number (word ws 1)) (word ws 2)

-- the value of a place in an array file: where it is 0, the place is no entry
abbrev pub placed : ℕ × ℕ → ℤ → List Triple
placed p v =
    if nat_abs v == 0
    then []
    else record { row = p.0; col = p.1; value = v } ∷ []

-- the triples that the lines say: an entry line says its place, and the value lines go over the places of the file's
-- values in order
abbrev pub said : Format → Header → Size → List Line → List Triple
said Coordinate h s ls = map (λ (l : Line). triple h l.words) ls
said Array h s ls = flat_map (λ (x : (ℕ × ℕ) × Line). placed x.0 (integer (word x.1.words 0)))
    (zip (array_places h.symmetry s.rows s.cols) ls)

-- each of them, and behind it its mirror
abbrev pub with_mirrors : symmetry.Symmetry → List Triple → List Triple
with_mirrors y ts = flat_map (λ (t : Triple). t ∷ mirror y t) ts

abbrev pub items : Header → Size → List Line → List Triple
items h s ls = with_mirrors h.symmetry (said h.format h s ls)

unfoldable pub entries_of : List (List ℕ) → entries.Entries
entries_of ls = record {
  rows = (size_of ls).rows;
  cols = (size_of ls).cols;
  field = (header_of ls).field;
  items = items (header_of ls) (size_of ls) (entry_lines ls);
}

-- ---- what follows

-- what stands behind this many LFs
abbrev pub behind : ℕ → List ℕ → List ℕ
behind zero bytes = bytes
behind (suc n) [] = []
behind (suc n) (b ∷ bytes) = if is_lf b then behind n bytes else behind (suc n) bytes

-- the number of the last of these lines, or of line 1 where there are none
abbrev pub last_number : List Line → ℕ
last_number [] = 1
last_number (l ∷ []) = l.number
last_number (l ∷ m ∷ ls) = last_number (m ∷ ls)

-- the lines of the matrix: the size line and the entry lines or value lines
abbrev pub matrix_lines : List (List ℕ) → List Line
matrix_lines ls = size_lines ls ++ entry_lines ls

-- what follows the matrix
unfoldable pub rest_of : End → List ℕ → List ℕ
rest_of File bytes = []
rest_of LastEntry bytes = behind (last_number (matrix_lines (lines true bytes))) bytes

-- The bytes are a good file, these are its entries, and this is what follows it.
pub record Reads (bytes : List ℕ) (end : End) (t : entries.Entries) (rest : List ℕ) : Type 0 where
  pub good : faults end true (lines true bytes) ≡ []
  pub entries : t ≡ entries_of (lines true bytes)
  pub follows : rest ≡ rest_of end bytes
