-- What is kept of a line that comes byte by byte.
use Rattle.std.specs.Prelude.{◌≡◌, ℕ, false, Option, Some, None, true, if◌then◌else◌, ◌&&◌, ◌+◌, ◌*◌, ◌-◌, min, take}
use Rattle.std.specs.Char.{is_ascii_digit}
use Rattle.std.specs.Str.{all_ascii_digits}
use Rattle.mm_defs.specs.Words.{Word, has_bytes}
use Rattle.mm_defs.specs.Numbers.{value, bare, is_negative, is_number, number, is_integer, magnitude}
use Rattle.mm_lines.specs.declared.number.Number.{Number}
use Rattle.mm_lines.specs.declared.number.Integer.{Integer}
use Rattle.mm_lines.specs.declared.line.Token.{Token}

-- the number, or the greatest one that is kept
abbrev pub capped : ℕ → ℕ
capped n = min n 18446744073709551615

-- what is kept of a word as a number
abbrev pub number_facts : Word → Number
number_facts w = record {
  minus = is_negative w;
  some = has_bytes (bare w);
  digits = all_ascii_digits (bare w);
  value = if all_ascii_digits (bare w) then capped (value (bare w)) else 0;
}

-- one more byte behind the sign
abbrev pub next_number : Number → ℕ → Number
next_number n b = record {
  minus = n.minus;
  some = true;
  digits = n.digits && is_ascii_digit b;
  value = if n.digits && is_ascii_digit b then capped (capped (n.value * 10) + (b - 48)) else 0;
}

-- what is kept of a word
abbrev pub token_of : Word → Token
token_of w = record { text = take 15 w; number = number_facts w }

-- the word is this number, as far as it fits, or no number
abbrev pub ReadsNumber : Word → Option ℕ → Type 0
ReadsNumber w None = is_number w ≡ false
ReadsNumber w (Some n) = (is_number w ≡ true) × (n ≡ capped (number w))

-- the word is this integer, as far as it fits, or no integer
abbrev pub ReadsInteger : Word → Option Integer → Type 0
ReadsInteger w None = is_integer w ≡ false
ReadsInteger w (Some v) = (is_integer w ≡ true) × (v.minus ≡ is_negative w)
    × (v.magnitude ≡ capped (magnitude w))
