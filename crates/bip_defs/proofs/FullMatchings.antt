-- Matchings that miss no row and no column.
use Rattle.std.proofs.Common.{◌≡◌, ◌≢◌, ℕ, ◌≤◌, List, [], ◌∷◌, length, refl, sym, ap, subst, inl, inr, arith}
use Rattle.std.proofs.lemmas.List.{length-map}
use Rattle.bip_defs.specs.Bottleneck.{IsFull, IsSingular}
use Rattle.bip_defs.specs.Lists.{Among, AreDistinct, Lists}
use Rattle.bip_defs.specs.Matching.{IsMatching, IsMaximum, cols_of, rows_of}
use Rattle.bip_defs.specs.Matrix.{Matrix, Place, cols, upto}
use Rattle.bip_defs.specs.Parts.{IsHorizontalCol}
use Rattle.bip_defs.proofs.Full.{has_all_cols, has_all_rows, matching_few}
use Rattle.bip_defs.proofs.Sets.{col_among, one_col, rising_distinct, row_pair, upto_length, upto_rising}

-- a matching of a square matrix with as many pairs as columns is full
pub long_full : (a : Matrix) (m : List Place) → a.rows ≡ cols a → IsMatching a m → cols a ≤ length m → IsFull a m
long_full a m square k long = record { matching = k; all_rows = has_all_rows a m k (omega (arith, long, square)); all_cols = has_all_cols a m k long }

-- some pairs of a matching, with distinct columns, have distinct rows
part_rows_differ : (m n : List Place) → AreDistinct (rows_of m) → AreDistinct (cols_of n) → ((r c : ℕ) → Among (r, c) n → Among (r, c) m) → AreDistinct (rows_of n)
part_rows_differ m [] rows columns part = tt
part_rows_differ m (p ∷ n) rows columns part = (off, part_rows_differ m n rows columns.1 (λ r c h. part r c (inr h)))
  where
    off : ¬ Among p.0 (rows_of n)
    off h =
        let (c, g) = row_pair p.0 n h in
        let same : c ≡ p.1 = one_col m rows p.0 c p.1 (part p.0 c (inr g)) (part p.0 p.1 (inl refl)) in
        columns.0 (subst (λ d. Among d (cols_of n)) same (col_among p.0 c n g))

-- pairs of a matching that are listed for all columns are full
pub part_full : (a : Matrix) (m n : List Place) → a.rows ≡ cols a → IsMatching a m → cols_of n ≡ upto (cols a) → ((r c : ℕ) → Among (r, c) n → Among (r, c) m) → IsFull a n
part_full a m n square k all part = long_full a n square matching (let same = length-map n (λ (p : Place). p.1) in let long = upto_length 0 (cols a) in let both = ap (λ (z : List ℕ). length z) all in omega (arith, same, long, both))
  where
    differ : AreDistinct (cols_of n)
    differ = subst (λ (z : List ℕ). AreDistinct z) (sym all) (rising_distinct (upto (cols a)) (upto_rising 0 (cols a)))

    matching : IsMatching a n
    matching = record { entries = λ r c h. k.entries r c (part r c h); rows_differ = part_rows_differ m n k.rows_differ differ part; cols_differ = differ }

-- a maximum matching that is too short to be full
pub short_singular : (a : Matrix) (m : List Place) (hall : List ℕ) (rank : ℕ) → a.rows ≡ cols a → IsMaximum a m → rank ≡ length m → length m ≢ cols a → Lists (IsHorizontalCol a) hall → IsSingular a rank hall
short_singular a m hall rank square most e short horizontal = record {
  square = square;
  is_rank = (m, most, sym e);
  below = let few = matching_few a m most.matching in omega (arith, few, short, e);
  horizontal = horizontal;
}

-- Listing the pairs column by column.
