-- Entry lines and value lines of the usual form.
use Rattle.std.specs.Prelude.{◌≡◌, ◌≤◌, ◌<◌, ◌+◌, ◌-◌, ◌^◌, ◌==◌, ◌&&◌, ◌||◌, not, ℕ, Bool, true, false, List, [], ◌∷◌, ◌++◌, length, take, drop, slice_index, Some}
use Rattle.std.specs.List.{list_all}
use Rattle.std.specs.Str.{all_ascii_digits}
use Rattle.std.specs.List.{slice_split}
use Rattle.sp_ids.specs.declared.triples.Field.{Field}
use Rattle.mm_defs.specs.Numbers.{value, is_number, number, is_negative}
use Rattle.mm_defs.specs.Words.{Word, is_lf, is_blank, has_bytes, word, words}
use Rattle.mm_defs.specs.Header.{value_words, is_integer_field}
use Rattle.mm_reader.specs.declared.machine.Machine.{Machine}
use Rattle.mm_reader.specs.declared.machine.Phase.TheVariants as phases
use Rattle.mm_reader.specs.declared.machine.Position.{Position}
use Rattle.mm_reader.specs.declared.machine.Preamble.{Preamble}
use Rattle.mm_lines.specs.declared.number.Integer.{Integer}
use Rattle.mm_reader.specs.declared.plain.PlainLine.{PlainLine}
use Rattle.mm_reader.specs.declared.plain.PlainValue.{PlainValue}
use Rattle.mm_lines.specs.Tokens.{capped, ReadsInteger}

-- the bytes between two places
abbrev pub between : List ℕ → ℕ → ℕ → List ℕ
between bytes from to = take (to - from) (drop from bytes)

-- the bytes between these places are of one sort
pub record IsRun (sort : ℕ → Bool) (bytes : List ℕ) (from to : ℕ) : Type 0 where
  pub in_order : from ≤ to
  pub within : to ≤ length bytes
  pub all : list_all sort (between bytes from to) ≡ true

-- the bytes between these places are digits, and this is their value
pub record IsDigits (bytes : List ℕ) (from to : ℕ) (n : ℕ) : Type 0 where
  pub in_order : from ≤ to
  pub within : to ≤ length bytes
  pub all : all_ascii_digits (between bytes from to) ≡ true
  pub value_is : n ≡ value (between bytes from to)
  pub small : n < 2 ^ 63

-- no LF
abbrev pub is_inner : ℕ → Bool
is_inner b = not (is_lf b)

-- neither a blank nor an LF
abbrev pub is_visible : ℕ → Bool
is_visible b = is_inner b && not (is_blank b)

-- a sign, or nothing
abbrev pub is_sign : List ℕ → Bool
is_sign [] = true
is_sign (b ∷ bs) = ((b == 45) || (b == 43)) && not (has_bytes bs)

-- the bytes between these places are a sign, if there are any
pub record IsSign (bytes : List ℕ) (from to : ℕ) (minus : Bool) : Type 0 where
  pub in_order : from ≤ to
  pub within : to ≤ length bytes
  pub all : is_sign (between bytes from to) ≡ true
  pub minus_is : minus ≡ is_negative (between bytes from to)

-- blanks lie between these places, and behind them a word
pub record IsNextWord (bytes : List ℕ) (from to : ℕ) : Type 0 where
  pub start : ℕ
  pub some_blanks : from < start
  pub some_bytes : start < to
  pub blanks_are : IsRun is_blank bytes from start
  pub word_is : IsRun is_visible bytes start to

-- a word lies between these places, and it is this integer
pub record IsIntegerHere (bytes : List ℕ) (from to : ℕ) (i : Integer) : Type 0 where
  pub some_bytes : from < to
  pub word_is : IsRun is_visible bytes from to
  pub reads : ReadsInteger (between bytes from to) (Some i)

-- blanks lie between these places, and behind them a word which is this integer
pub record IsNextInteger (bytes : List ℕ) (from to : ℕ) (i : Integer) : Type 0 where
  pub next : IsNextWord bytes from to
  pub reads : ReadsInteger (between bytes next.start to) (Some i)

-- nothing, or a blank in front
abbrev pub stands_apart : List ℕ → Bool
stands_apart [] = true
stands_apart (b ∷ bs) = is_blank b

-- The words between these places are the value words of an entry line. Where the field is integer, this is the value.
pub record HasValues (f : Field) (bytes : List ℕ) (from to : ℕ) (value : Integer) : Type 0 where
  pub in_order : from ≤ to
  pub within : to ≤ length bytes
  pub inner : list_all is_inner (between bytes from to) ≡ true
  pub apart : stands_apart (between bytes from to) ≡ true
  pub count : length (words (between bytes from to)) ≡ value_words f
  pub reads : is_integer_field f ≡ true
      → ReadsInteger (word (words (between bytes from to)) 0) (Some value)

-- blanks and behind them an LF lie between these places
pub record IsNextLine (bytes : List ℕ) (from to : ℕ) : Type 0 where
  pub end : ℕ
  pub blanks_are : IsRun is_blank bytes from end
  pub within : end < length bytes
  pub lf_is : slice_index bytes end ≡ 10
  pub to_is : to ≡ end + 1

-- this line stands between these places, its LF counted
pub record IsWholeLine (bytes : List ℕ) (from next : ℕ) (line : List ℕ) : Type 0 where
  pub in_order : from < next
  pub within : next ≤ length bytes
  pub line_is : take (next - from) (drop from bytes) ≡ line ++ 10 ∷ []
  pub no_lf : slice_split is_lf line ≡ line ∷ []

-- A line lies whole in these bytes, and its bytes say this.
pub record IsUsual (Says : List ℕ → Type 0) (bytes : List ℕ) (from next : ℕ) : Type 0 where
  pub line : List ℕ
  pub whole : IsWholeLine bytes from next line
  pub says : Says line

-- The line has two numbers without signs and the value words of this field. Where the field is
-- integer, the first of them is the value.
pub record SaysEntry (f : Field) (p : PlainLine) (line : List ℕ) : Type 0 where
  pub first : Word
  pub second : Word
  pub values : List Word
  pub words_are : words line ≡ first ∷ second ∷ values
  pub count : length values ≡ value_words f
  pub first_is : is_number first ≡ true
  pub second_is : is_number second ≡ true
  pub row_is : p.row ≡ capped (number first)
  pub col_is : p.col ≡ capped (number second)
  pub reads : is_integer_field f ≡ true → ReadsInteger (word values 0) (Some p.value)

-- the line is one word, this integer
pub record SaysValue (p : PlainValue) (line : List ℕ) : Type 0 where
  pub word : Word
  pub words_are : words line ≡ word ∷ []
  pub reads : ReadsInteger word (Some p.value)

-- entries are to come, and no line has begun
pub record AwaitsPlain (m : Machine) (b : Preamble) (at : Position) : Type 0 where
  pub phase_is : m.phase ≡ phases.Entries b at
  pub closed : m.begun ≡ false
