-- The load matrix of a size and a seed.
use Rattle.std.specs.List.{flat_map}
use Rattle.std.specs.Prelude.{◌≡◌, ◌⊎◌, ℕ, ◌+◌, ◌*◌, ◌%◌, List, [], ◌∷◌, ◌++◌, nat_eq, if◌then◌else◌}
use Rattle.bip_defs.specs.Matrix.{Place, upto}

-- the three places of column j: the sums are those of whole numbers
abbrev pub load_column : ℕ → ℕ → ℕ → List Place
load_column size seed j =
    ((2 * j + seed) % size, j) ∷ ((3 * j + 2 * seed) % size, j)
    ∷ ((5 * j + 3 * seed) % size, j) ∷ []

-- the places of all columns, of which some may be the same
abbrev pub load_places : ℕ → ℕ → List Place
load_places size seed = flat_map (load_column size seed) (upto size)

-- x is one of three numbers
abbrev pub IsOneOf : ℕ → ℕ → ℕ → ℕ → Type 0
IsOneOf a b c x = (x ≡ a) ⊎ ((x ≡ b) ⊎ (x ≡ c))

-- one number more, where it is not the one before it
abbrev pub after_one : ℕ → ℕ → List ℕ
after_one a b = if nat_eq b a then [] else b ∷ []

-- three numbers that are in order, each once
abbrev pub distinct_of : ℕ → ℕ → ℕ → List ℕ
distinct_of a b c = a ∷ after_one a b ++ after_one b c
