-- Words of 64 bits in a list, read as one row of bits.
use Rattle.std.specs.Int.{bit_at}
use Rattle.std.specs.Prelude.{◌≡◌, ℕ, ◌/◌, ◌%◌, List, slice_index}

-- bit p of the row
unfoldable pub bit : List ℕ → ℕ → ℕ
bit words p = bit_at (slice_index words (p / 64)) (p % 64)

abbrev pub IsSet : List ℕ → ℕ → Type 0
IsSet words p = bit words p ≡ 1
