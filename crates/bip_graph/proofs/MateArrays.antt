-- Two arrays of mates that lead back to one another.
use Rattle.std.proofs.Common.{◌≡◌, ◌≢◌, ◌∙◌, ◌^◌, ℕ, ◌<◌, List, [], ◌∷◌, length, get_or, refl, sym, subst, inl, inr, ⊎_elim, arith}
use Rattle.bip_defs.specs.Lists.{Among, AreDistinct}
use Rattle.bip_defs.specs.Matching.{cols_of, rows_of}
use Rattle.bip_defs.specs.Matrix.{Place}
use Rattle.bip_defs.proofs.Sets.{number_same, col_among, row_among, row_pair, rising_distinct}
use Rattle.bip_graph.specs.Matching.{AreMates, none, pairs_of}
use Rattle.bip_graph.proofs.Arrays.{stored, read, cols_rising}

-- a number of a row or a column does not stand for no mate
pub not_none : (i : ℕ) (xs : List ℕ) → i < length xs → length xs < 2 ^ 32 → i ≢ none
not_none i xs lt few e = absurd (omega arith)

-- the other array has the column of each pair at its row
pub back : (xs ys : List ℕ) (n r c : ℕ) → AreMates xs ys n → Among (r, c) (pairs_of xs) → (r < length ys) × (get_or ys r 0 ≡ c)
back xs ys n r c m h =
    let (lt, e, some) = read xs r c h in
    let b = m.by_col c lt (λ f. some (sym e ∙ f)) in
    (subst (λ x. x < length ys) e b.0, subst (λ x. get_or ys x 0 ≡ c) e b.1)

-- a mate in the other array is a pair
pub row_stored : (xs ys : List ℕ) (n r c : ℕ) → AreMates xs ys n → r < length ys → get_or ys r 0 ≡ c → c ≢ none → Among (r, c) (pairs_of xs)
row_stored xs ys n r c m lt e some =
    let b = m.by_row r lt (λ f. some (sym e ∙ f)) in
    stored xs r c (subst (λ x. x < length xs) e b.0) (subst (λ x. get_or xs x 0 ≡ r) e b.1) (not_none r ys lt m.few_rows)

-- a row without a mate is in no pair
pub row_unread : (xs ys : List ℕ) (n r : ℕ) → AreMates xs ys n → get_or ys r 0 ≡ none → ¬ Among r (rows_of (pairs_of xs))
row_unread xs ys n r m e h =
    let (c, k) = row_pair r (pairs_of xs) h in
    let (lt, f, some) = read xs r c k in
    not_none c xs lt m.few_cols (sym (back xs ys n r c m k).1 ∙ e)

-- the mate of a row that is in no pair
pub row_missed : (xs ys : List ℕ) (n r : ℕ) → AreMates xs ys n → r < length ys → ¬ Among r (rows_of (pairs_of xs)) → get_or ys r 0 ≡ none
row_missed xs ys n r m lt nh = ⊎_elim (λ e. e) (λ ne. absurd (nh (row_among r (get_or ys r 0) (pairs_of xs) (row_stored xs ys n r (get_or ys r 0) m lt refl ne)))) (number_same (get_or ys r 0) none)

-- distinct columns have distinct rows, where each row has one column
rows_apart : (ps : List Place) → AreDistinct (cols_of ps) → ((r c d : ℕ) → Among (r, c) ps → Among (r, d) ps → c ≡ d) → AreDistinct (rows_of ps)
rows_apart [] a one = tt
rows_apart (p ∷ ps) a one = (
  λ h. let (d, k) = row_pair p.0 ps h in a.0 (subst (λ x. Among x (cols_of ps)) (sym (one p.0 p.1 d (inl refl) (inr k))) (col_among p.0 d ps k)),
  rows_apart ps a.1 (λ r c d h k. one r c d (inr h) (inr k)),
)

pub rows_differ : (xs ys : List ℕ) (n : ℕ) → AreMates xs ys n → AreDistinct (rows_of (pairs_of xs))
rows_differ xs ys n m = rows_apart (pairs_of xs) (rising_distinct (cols_of (pairs_of xs)) (cols_rising 0 xs)) (λ r c d h k. sym (back xs ys n r c m h).1 ∙ (back xs ys n r d m k).1)
