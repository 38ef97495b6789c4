-- Two numbers behind each other, and masks of digits.
use Rattle.std.specs.Prelude.{◌≡◌, ◌≢◌, ◌+◌, ◌<◌, ◌≤◌, ℕ, Bool, not, List, length, map}
use Rattle.std.specs.Char.{is_ascii_digit}
use Rattle.std.specs.Simd.Lanes.{chunk, mask_l}
use Rattle.mm_defs.specs.Words.{is_blank}
use Rattle.mm_reader.specs.Plain.{IsRun, IsDigits}

abbrev pub is_no_digit : ℕ → Bool
is_no_digit b = not (is_ascii_digit b)

-- a bit for each byte of some that begin here, set where it is not a digit; at most sixteen
pub record IsMask (bytes : List ℕ) (from mask : ℕ) : Type 0 where
  pub count : ℕ
  pub few : count ≤ 16
  pub within : from + count ≤ length bytes
  pub mask_is : mask ≡ mask_l (map is_no_digit (chunk from count bytes))

-- between one and eight digits
pub record IsShortNumber (bytes : List ℕ) (from to n : ℕ) : Type 0 where
  pub digits : IsDigits bytes from to n
  pub some : from < to
  pub few : to ≤ from + 8

-- two numbers without signs, blanks between them
pub record IsPlace (bytes : List ℕ) (from row col to : ℕ) : Type 0 where
  pub row_end : ℕ
  pub col_start : ℕ
  pub row_digits : IsDigits bytes from row_end row
  pub row_some : row_end ≢ from
  pub blanks : IsRun is_blank bytes row_end col_start
  pub apart : col_start ≢ row_end
  pub col_digits : IsDigits bytes col_start to col
  pub col_some : to ≢ col_start
