-- A maximum matching pairs the rows of a block with its columns, and no proper part of its columns has rows of its own.
use Rattle.std.proofs.Common.{◌≡◌, ℕ, ◌<◌, ◌≤◌, suc, List, [], ◌∷◌, length, refl, sym, subst, inl, inr, ⊎_elim, arith, le_antisymm}
use Rattle.std.proofs.Math.Decide.{dec_lt}
use Rattle.bip_defs.specs.Blocks.{Block, Chain, ColAt, IsAllowed, IsBlock, IsPerfect, RowAt, Vertex, by_col, by_row, itself}
use Rattle.bip_defs.specs.Decomposition.{Decomposition, IsDecompositionOf}
use Rattle.bip_defs.specs.Lists.{Among, Lists}
use Rattle.bip_defs.specs.Matching.{IsMaximum}
use Rattle.bip_defs.specs.Matrix.{Matrix, Place}
use Rattle.bip_defs.specs.Triangular.{IsProperPart, IsRowOver, PairUp}
use Rattle.bip_defs.proofs.Sets.{col_pair, few_distinct, number_among, one_col, one_row, pigeonhole, rising_distinct, row_among, row_pair}
use Rattle.bip_defs.proofs.Square.{in_rows, in_rows_back, square_pairs_perfect}
use Rattle.bip_defs.proofs.Together.{block_col_square, block_row_square}
use Rattle.bip_defs.proofs.Uniqueness.{chain_back, chain_join}

-- Pairs.

perfect_pairs : (a : Matrix) (m : List Place) (b : Block) → IsPerfect a m → IsBlock a b → PairUp m b
perfect_pairs a m b perfect x = record {
  rows = λ r h. let (c, p) = row_pair r m (perfect.covers_row r (block_row_square a b r x h)) in (c, p, x.1.cols.complete c (by_row (x.1.rows.sound r h) (m, perfect, p)));
  cols = λ c h. let (r, p) = col_pair c m (perfect.covers_col c (block_col_square a b c x h)) in (r, p, x.1.rows.complete r (by_col (x.1.cols.sound c h) (m, perfect, p)));
}

-- the pairs of a maximum matching in the square part
square_pairs : (a : Matrix) (d : Decomposition) (m : List Place) → IsDecompositionOf a d → IsMaximum a m → IsPerfect a (in_rows d.parts.square_rows m)
square_pairs a d m is max = square_pairs_perfect a m d.parts.square_rows max is.parts.square_rows

pub maximum_pairs : (a : Matrix) (d : Decomposition) (m : List Place) (b : Block) → IsDecompositionOf a d → IsMaximum a m → Among b d.blocks → PairUp m b
maximum_pairs a d m b is max on =
    let pairs = perfect_pairs a (in_rows d.parts.square_rows m) b (square_pairs a d m is max) (is.blocks.sound b on) in
    record {
      rows = λ r h. let (c, p, k) = pairs.rows r h in (c, (in_rows_back d.parts.square_rows m r c p).0, k);
      cols = λ c h. let (r, p, k) = pairs.cols c h in (r, (in_rows_back d.parts.square_rows m r c p).0, k);
    }

pub block_square : (a : Matrix) (d : Decomposition) (b : Block) → IsDecompositionOf a d → Among b d.blocks → length b.rows ≡ length b.cols
block_square a d b is on = le_antisymm
    (pigeonhole (λ (r c : ℕ). Among (r, c) m) (λ r s c p q. one_row m max.matching.cols_differ r s c p q) b.rows b.cols (rising_distinct b.rows block.1.rows.rising) (λ r h. let (c, p, k) = pairs.rows r h in (c, k, p)))
    (pigeonhole (λ (c r : ℕ). Among (r, c) m) (λ c e r p q. one_col m max.matching.rows_differ r c e p q) b.cols b.rows (rising_distinct b.cols block.1.cols.rising) (λ c h. let (r, p, k) = pairs.cols c h in (r, k, p)))
  where
    m : List Place
    m = is.rank.0

    max : IsMaximum a m
    max = is.rank.1

    block : IsBlock a b
    block = is.blocks.sound b on

    pairs : PairUp m b
    pairs = maximum_pairs a d m b is max on

-- Some of a block's columns, with as few rows of the block as they are at most.

module _ (a : Matrix) (m : List Place) (b : Block) (w rs : List ℕ) (perfect : IsPerfect a m) (block : IsBlock a b) (part : IsProperPart b w) (over : Lists (IsRowOver a b w) rs) (few : length rs ≤ length w) where
  -- the mates of these rows are these columns
  row_mate : (r d : ℕ) → Among r rs → Among (r, d) m → Among d w
  row_mate r d on p = ⊎_elim (λ h. h) (λ out. absurd (omega (arith, few, more out))) (number_among d w)
    where
      mate : (c : ℕ) → Among c (d ∷ w) → (s : ℕ) × Among s rs × Among (s, c) m
      mate c (inl e) = (r, on, subst (λ z. Among (r, z) m) (sym e) p)
      mate c (inr h) = let (s, q, k) = (perfect_pairs a m b perfect block).cols c (part.within c h) in (s, over.complete s (k, c, h, perfect.matching.entries s c q), q)

      more : ¬ Among d w → suc (length w) ≤ length rs
      more out = pigeonhole (λ (c s : ℕ). Among (s, c) m) (λ c e s x y. one_col m perfect.matching.rows_differ s c e x y) (d ∷ w) rs (out, part.distinct) mate

  allowed_row : (t x : ℕ) → Among x w → IsAllowed a t x → Among t rs
  allowed_row t x h e = over.complete t (block.1.rows.complete t (by_col (block.1.cols.sound x (part.within x h)) e), x, h, e.1.matching.entries t x e.2)

  -- no allowed entry of these rows is in another column
  allowed_col : (r c d : ℕ) → IsAllowed a r c → Among (r, d) m → Among d w → Among c w
  allowed_col r c d allowed p on = ⊎_elim (λ h. h) (λ out. absurd (one_more out)) (number_among c w)
    where
      other : List Place
      other = allowed.0

      fine : IsPerfect a other
      fine = allowed.1

      image : (x : ℕ) → Among x (c ∷ w) → (y : ℕ) × Among y w × ((t : ℕ) × Among (t, x) other × Among (t, y) m)
      image x (inl e) = (d, on, (r, subst (λ z. Among (r, z) other) (sym e) allowed.2, p))
      image x (inr h) =
          let (t, q) = col_pair x other (fine.covers_col x (block_col_square a b x block (part.within x h))) in
          let (y, s) = row_pair t m (perfect.covers_row t (fine.only_rows t (row_among t x other q))) in
          (y, row_mate t y (allowed_row t x h (other, fine, q)) s, (t, q, s))

      one_more : ¬ Among c w → ⊥
      one_more out = omega (
        arith,
        pigeonhole (λ (x y : ℕ). (t : ℕ) × Among (t, x) other × Among (t, y) m)
            (λ x z y g h. one_col other fine.matching.rows_differ g.0 x z g.1 (subst (λ t. Among (t, z) other) (one_row m perfect.matching.cols_differ h.0 g.0 y h.2 g.2) h.1))
            (c ∷ w) w (out, part.distinct) image,
      )

  -- a vertex is one of these columns, or a row whose mate is
  abbrev IsOf : Vertex → Type 0
  IsOf (RowAt r) = (d : ℕ) → Among (r, d) m → Among d w
  IsOf (ColAt c) = Among c w

  chain_stays : (c : ℕ) → Among c w → {v : Vertex} → Chain a (ColAt c) v → IsOf v
  chain_stays c on itself = on
  chain_stays c on (by_row {r = r} {c = x} y e) =
      let (d, p) = row_pair r m (perfect.covers_row r (e.1.only_rows r (row_among r x e.0 e.2))) in
      allowed_col r x d e p (chain_stays c on y d p)
  chain_stays c on (by_col {r = r} {c = x} y e) = λ d p. row_mate r d (allowed_row r x (chain_stays c on y) e) p

  -- so they are all of the block's columns
  all_of_block : (c : ℕ) → Among c w → length b.cols ≤ length w
  all_of_block c on = few_distinct b.cols w (rising_distinct b.cols block.1.cols.rising) (λ x h. chain_stays c on {v = ColAt x} (chain_join a (chain_back a (block.1.cols.sound c (part.within c on))) (block.1.cols.sound x h)))

first_among : (xs : List ℕ) → 0 < length xs → (x : ℕ) × Among x xs
first_among [] lt = absurd (omega arith)
first_among (x ∷ xs) lt = (x, inl refl)

pub strong_hall : (a : Matrix) (d : Decomposition) (b : Block) (w rs : List ℕ) → IsDecompositionOf a d → Among b d.blocks → IsProperPart b w → Lists (IsRowOver a b w) rs → length w < length rs
strong_hall a d b w rs is on part over = by (dec_lt (length w) (length rs))
  where
    by : Dec (length w < length rs) → length w < length rs
    by (yes lt) = lt
    by (no nlt) =
        let (c, h) = first_among w part.some in
        let all = all_of_block a (in_rows d.parts.square_rows is.rank.0) b w rs (square_pairs a d is.rank.0 is is.rank.1) (is.blocks.sound b on) part over (omega arith) c h in
        absurd (omega (arith, all, part.fewer))
