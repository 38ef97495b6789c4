-- Numbers in files: digits, as many as one likes, with or without a sign.
use Rattle.std.specs.Prelude.{ℕ, ℤ, pos, neg_ℤ, Bool, false, if◌then◌else◌, ◌==◌, ◌&&◌, List, [], ◌∷◌}
use Rattle.std.specs.Str.{all_ascii_digits}
use Rattle.std.specs.Str.Parse.{digits_value}
use Rattle.mm_defs.specs.Words.{Word, has_bytes}

-- one or more decimal digits
abbrev pub are_digits : List ℕ → Bool
are_digits ds = has_bytes ds && all_ascii_digits ds

-- what the digits stand for
abbrev pub value : List ℕ → ℕ
value ds = digits_value 10 ds

-- without a plus sign before it
abbrev pub unsigned : Word → List ℕ
unsigned [] = []
unsigned (b ∷ bs) = if b == 43 then bs else b ∷ bs

-- a number: perhaps a plus sign, and one or more digits
abbrev pub is_number : Word → Bool
is_number w = are_digits (unsigned w)

abbrev pub number : Word → ℕ
number w = value (unsigned w)

abbrev pub is_negative : Word → Bool
is_negative [] = false
is_negative (b ∷ bs) = b == 45

-- without a sign before it
abbrev pub bare : Word → List ℕ
bare [] = []
bare (b ∷ bs) = if b == 45 then bs else unsigned (b ∷ bs)

-- an integer value: perhaps a sign, and one or more digits
abbrev pub is_integer : Word → Bool
is_integer w = are_digits (bare w)

abbrev pub magnitude : Word → ℕ
magnitude w = value (bare w)

abbrev pub integer : Word → ℤ
integer w = if is_negative w then neg_ℤ (pos (magnitude w)) else pos (magnitude w)
