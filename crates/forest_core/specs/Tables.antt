-- Tables, and the lists of pairs that they have.
use Rattle.std.specs.Prelude.{◌≡◌, ◌↔◌, ℕ, ◌==◌, if◌then◌else◌, List, Option, None, Some}
use Rattle.bip_defs.specs.Lists.{Among, option_at}

-- the greatest number of 32 bits stands for none
abbrev pub read : ℕ → Option ℕ
read n = if n == 4294967295 then None else Some n

-- what a table has beside a number
abbrev pub beside : List (Option ℕ) → ℕ → Option ℕ
beside table k = option_at table k

-- beside the first of each pair stands the second, and beside no other number any
abbrev pub IsTableOf : List (ℕ × ℕ) → List (Option ℕ) → Type 0
IsTableOf pairs table = (k v : ℕ) → (beside table k ≡ Some v) ↔ Among (k, v) pairs

-- of each row the column that claimed it, and the row's root
pub record Claimed : Type 0 where
  pub holders : List (Option ℕ)
  pub roots : List (Option ℕ)

-- the holder of a row and its root, of which there are both or neither
abbrev pub holder_in : ℕ → Option ℕ
holder_in holder = read holder

abbrev pub root_in : ℕ → ℕ → Option ℕ
root_in holder root = if holder == 4294967295 then None else Some root

-- a row with a root has a holder
abbrev pub AreAlike : Claimed → Type 0
AreAlike t = (r x : ℕ) → beside t.roots r ≡ Some x → (c : ℕ) × (beside t.holders r ≡ Some c)
