-- A matrix is seen by the places of its entries alone.
use Rattle.std.specs.List.{list_any}
use Rattle.std.specs.Prelude.{◌≡◌, ◌↔◌, ℕ, zero, suc, ◌<◌, Bool, List, [], ◌∷◌, map, filter, length, sum_by, nat_eq, slice_index_or}
use Rattle.bip_defs.specs.Lists.{Among, Lists}

-- the number of rows, and for each column the rows of its entries
pub record Matrix : Type 0 where
  pub rows : ℕ
  pub columns : List (List ℕ)

abbrev pub cols : Matrix → ℕ
cols a = length a.columns

-- the rows of a column's entries
abbrev pub column : Matrix → ℕ → List ℕ
column a c = slice_index_or a.columns c []

-- a row and a column
abbrev pub Place : Type 0
Place = ℕ × ℕ

abbrev pub IsEntry : Matrix → ℕ → ℕ → Type 0
IsEntry a r c = (r < a.rows) × Among r (column a c)

abbrev pub AreEntries : Matrix → List Place → Type 0
AreEntries a ps = (r c : ℕ) → Among (r, c) ps → IsEntry a r c

-- the number of entries, where no column has a row twice
abbrev pub entry_count : Matrix → ℕ
entry_count a = sum_by length a.columns

-- the numbers below n, rising
abbrev pub upto_from : ℕ → ℕ → List ℕ
upto_from k zero = []
upto_from k (suc n) = k ∷ upto_from (suc k) n

abbrev pub upto : ℕ → List ℕ
upto n = upto_from zero n

-- the columns of a row's entries, rising
abbrev pub row_list : Matrix → ℕ → List ℕ
row_list a r = filter (λ c. list_any (nat_eq r) (column a c)) (upto (cols a))

-- rows for columns and columns for rows
abbrev pub transpose : Matrix → Matrix
transpose a = record { rows = cols a; columns = map (row_list a) (upto a.rows) }

-- whether the row has an entry in one of these columns
abbrev pub touches : Matrix → List ℕ → ℕ → Bool
touches a w r = list_any (λ c. list_any (nat_eq r) (column a c)) w

-- N(w): the rows with an entry in a column of w, rising
abbrev pub neighbours : Matrix → List ℕ → List ℕ
neighbours a w = filter (touches a w) (upto a.rows)

-- b has an entry at a column and a row exactly where a has one at that row and column
pub record IsTransposeOf (a b : Matrix) : Type 0 where
  pub rows_are : b.rows ≡ cols a
  pub cols_are : cols b ≡ a.rows
  pub over : (r c : ℕ) → IsEntry a r c → IsEntry b c r
  pub back : (r c : ℕ) → IsEntry b c r → IsEntry a r c

-- the matrix has these rows and columns, and an entry at each of the places and at no other, each column's rows rising
pub record HasPlaces (rows cols : ℕ) (places : List Place) (a : Matrix) : Type 0 where
  pub rows_are : a.rows ≡ rows
  pub cols_are : length a.columns ≡ cols
  pub entries : (r c : ℕ) → IsEntry a r c ↔ Among (r, c) places
  pub columns : (c : ℕ) → Lists (λ r. IsEntry a r c) (column a c)
