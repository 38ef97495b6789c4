-- What the definitions say of small matrices, and of places given twice or out of range.
use Rattle.std.proofs.Common.{◌≡◌, ◌≢◌, ◌⊎◌, ◌↔◌, ℕ, zero, suc, ◌-◌, ◌<◌, ◌≤◌, List, [], ◌∷◌, length, refl, sym, ap, subst, inl, inr, ⊎_elim, arith, zero-le}
use Rattle.bip_defs.specs.Blocks.{AreBlocksOf, AreInOrder, Block, ColAt, IsBlock, MeetsNoOther, IsPerfect, IsSquareVertex, RowAt, Vertex, least_col}
use Rattle.bip_defs.specs.Components.{AreComponents, IsComponent}
use Rattle.bip_defs.specs.Walks.{IsLed, IsReached, Walk, stay, step}
use Rattle.bip_defs.proofs.Fine.{block_is_component, component_is_block}
use Rattle.bip_defs.proofs.Full.{has_all_cols, has_all_rows, full_maximum}
use Rattle.bip_defs.proofs.Reaching.{reached_maximum}
use Rattle.bip_defs.proofs.Searches.{parts_from_searches}
use Rattle.bip_defs.specs.Decomposition.{IsDecompositionOf}
use Rattle.bip_defs.specs.Lists.{Among, AreDistinct, Lists}
use Rattle.bip_defs.specs.Matching.{IsMatching, IsMaximum, cols_of, transposed_places}
use Rattle.bip_defs.specs.Matrix.{HasPlaces, IsEntry, Matrix, Place, column, cols, transpose, upto}
use Rattle.bip_defs.specs.Searches.{AreReadOff}
use Rattle.bip_defs.specs.Small.{lower_triangle, lower_triangle_parts, outer_parts_alone, single, wide_row, wide_row_parts}
use Rattle.bip_defs.specs.Parts.{ArePartsOf, IsHorizontalCol, IsHorizontalRow, IsSquareCol, IsSquareRow, IsVerticalCol, IsVerticalRow}
use Rattle.bip_defs.proofs.Sets.{col_pair, entry_col, lists_same, lists_unique, number_same, rising_distinct, row_pair, upto_rising, upto_lists}

-- Places.

pub places_in_range : (m n : ℕ) (places : List Place) (a : Matrix) (r c : ℕ) → HasPlaces m n places a → Among (r, c) places → (r < m) × (c < n)
places_in_range m n places a r c h p = (rw (← h.rows_are) e.0, rw (← h.cols_are) (entry_col a r c e))
  where
    e : IsEntry a r c
    e = (h.entries r c).1 p

pub given_twice : (m n : ℕ) (p : Place) (places : List Place) (a : Matrix) → HasPlaces m n (p ∷ p ∷ places) a ↔ HasPlaces m n (p ∷ places) a
given_twice m n p places a = (
  λ h. record { rows_are = h.rows_are; cols_are = h.cols_are; entries = λ r c. (λ e. once r c ((h.entries r c).0 e), λ k. (h.entries r c).1 (inr k)); columns = h.columns },
  λ h. record { rows_are = h.rows_are; cols_are = h.cols_are; entries = λ r c. (λ e. inr ((h.entries r c).0 e), λ k. (h.entries r c).1 (once r c k)); columns = h.columns },
)
  where
    once : (r c : ℕ) → Among (r, c) (p ∷ p ∷ places) → Among (r, c) (p ∷ places)
    once r c (inl e) = inl e
    once r c (inr k) = k

-- No entries.

no_list : (P : ℕ → Type 0) → ((x : ℕ) → ¬ P x) → Lists P []
no_list P none = record { rising = tt; sound = λ x h. absurd h; complete = λ x p. none x p }

no_matching : (a : Matrix) → ((r c : ℕ) → ¬ IsEntry a r c) → (m : List Place) → IsMatching a m → m ≡ []
no_matching a bare [] k = refl
no_matching a bare (p ∷ m) k = absurd (bare p.0 p.1 (k.entries p.0 p.1 (inl refl)))

no_pairs : (a : Matrix) → ((r c : ℕ) → ¬ IsEntry a r c) → IsMaximum a []
no_pairs a bare = record { matching = record { entries = λ r c h. absurd h; rows_differ = tt; cols_differ = tt }; longest = λ m k. rw (no_matching a bare m k) zero-le }

bare_parts : (a : Matrix) → ((r c : ℕ) → ¬ IsEntry a r c) → ArePartsOf a (record { horizontal_rows = []; horizontal_cols = upto (cols a); square_rows = []; square_cols = []; vertical_rows = upto a.rows; vertical_cols = [] })
bare_parts a bare = record {
  horizontal_rows = no_list (IsHorizontalRow a) (λ r h. bare r h.0 h.2);
  horizontal_cols = lists_same (λ c. c < cols a) (IsHorizontalCol a) (upto (cols a)) horizontal (λ c h. h.0) (upto_lists (cols a));
  square_rows = no_list (IsSquareRow a) (λ r s. s.2 (vertical r s.0));
  square_cols = no_list (IsSquareCol a) (λ c s. s.1 (horizontal c s.0));
  vertical_rows = lists_same (λ r. r < a.rows) (IsVerticalRow a) (upto a.rows) vertical (λ r v. v.0) (upto_lists a.rows);
  vertical_cols = no_list (IsVerticalCol a) (λ c v. bare v.0 c v.2);
}
  where
    horizontal : (c : ℕ) → c < cols a → IsHorizontalCol a c
    horizontal c lt = (lt, [], no_pairs a bare, λ h. h)

    vertical : (r : ℕ) → r < a.rows → IsVerticalRow a r
    vertical r lt = (lt, [], no_pairs a bare, λ h. h)

no_square : (a : Matrix) → ((r : ℕ) → ¬ IsSquareRow a r) → ((c : ℕ) → ¬ IsSquareCol a c) → AreBlocksOf a []
no_square a rows columns = record {
  sound = λ b h. absurd h;
  complete = λ b x. none x.0 x.1.square;
  distinct = tt;
  in_order = tt;
}
  where
    none : (v : Vertex) → ¬ IsSquareVertex a v
    none (RowAt r) s = rows r s
    none (ColAt c) s = columns c s

pub no_entries : (a : Matrix) → ((r c : ℕ) → ¬ IsEntry a r c) → IsDecompositionOf a (outer_parts_alone a)
no_entries a bare = record {
  rank = ([], no_pairs a bare, refl);
  parts = bare_parts a bare;
  blocks = no_square a (λ r s. (bare_parts a bare).square_rows.complete r s) (λ c s. (bare_parts a bare).square_cols.complete c s);
}

-- A matching of all rows and columns.

-- a matching of all rows and columns leaves no row or column out of the square part
pub record IsFull (a : Matrix) (m : List Place) : Type 0 where
  pub matching : IsMatching a m
  pub rows : length m ≡ a.rows
  pub cols : length m ≡ cols a

full_no_horizontal : (a : Matrix) (m : List Place) → IsFull a m → (c : ℕ) → ¬ IsHorizontalCol a c
full_no_horizontal a m full c h = h.3 (has_all_cols a h.1 h.2.matching (omega (arith, full.cols, h.2.longest m full.matching)) c h.0)

full_no_vertical : (a : Matrix) (m : List Place) → IsFull a m → (r : ℕ) → ¬ IsVerticalRow a r
full_no_vertical a m full r v = v.3 (has_all_rows a v.1 v.2.matching (omega (arith, full.rows, v.2.longest m full.matching)) r v.0)

full_square_row : (a : Matrix) (m : List Place) → IsFull a m → (r : ℕ) → r < a.rows → IsSquareRow a r
full_square_row a m full r lt = (lt, λ h. full_no_horizontal a m full h.0 h.1, full_no_vertical a m full r)

full_square_col : (a : Matrix) (m : List Place) → IsFull a m → (c : ℕ) → c < cols a → IsSquareCol a c
full_square_col a m full c lt = (lt, full_no_horizontal a m full c, λ v. full_no_vertical a m full v.0 v.1)

full_parts : (a : Matrix) (m : List Place) → IsFull a m → ArePartsOf a (record { horizontal_rows = []; horizontal_cols = []; square_rows = upto a.rows; square_cols = upto (cols a); vertical_rows = []; vertical_cols = [] })
full_parts a m full = record {
  horizontal_rows = no_list (IsHorizontalRow a) (λ r h. full_no_horizontal a m full h.0 h.1);
  horizontal_cols = no_list (IsHorizontalCol a) (full_no_horizontal a m full);
  square_rows = lists_same (λ r. r < a.rows) (IsSquareRow a) (upto a.rows) (full_square_row a m full) (λ r s. s.0) (upto_lists a.rows);
  square_cols = lists_same (λ c. c < cols a) (IsSquareCol a) (upto (cols a)) (full_square_col a m full) (λ c s. s.0) (upto_lists (cols a));
  vertical_rows = no_list (IsVerticalRow a) (full_no_vertical a m full);
  vertical_cols = no_list (IsVerticalCol a) (λ c v. full_no_vertical a m full v.0 v.1);
}

full_perfect : (a : Matrix) (m : List Place) → IsFull a m → IsPerfect a m
full_perfect a m full = record {
  matching = full.matching;
  covers_row = λ r s. has_all_rows a m full.matching (omega (arith, full.rows)) r s.0;
  covers_col = λ c s. has_all_cols a m full.matching (omega (arith, full.cols)) c s.0;
  only_rows = λ r h. let (c, p) = row_pair r m h in full_square_row a m full r (full.matching.entries r c p).0;
  only_cols = λ c h. let (r, p) = col_pair c m h in full_square_col a m full c (entry_col a r c (full.matching.entries r c p));
}

pub one : (x y : ℕ) → Among x (y ∷ []) → x ≡ y
one x y (inl e) = e
one x y (inr h) = absurd h

-- The lower triangle.

pub below_diagonal : (r c : ℕ) → IsEntry lower_triangle r c → c ≤ r
below_diagonal r c e = by c e.1
  where
    by : (c : ℕ) → Among r (column lower_triangle c) → c ≤ r
    by zero h = zero-le
    by (suc zero) (inl f) = omega arith
    by (suc zero) (inr (inl f)) = omega arith
    by (suc zero) (inr (inr h)) = absurd h
    by (suc (suc zero)) (inl f) = omega arith
    by (suc (suc zero)) (inr h) = absurd h
    by (suc (suc (suc c))) h = absurd h

pub filled : (r c : ℕ) → c ≤ r → r < 3 → IsEntry lower_triangle r c
filled zero zero le lt = (lt, inl refl)
filled (suc zero) zero le lt = (lt, inr (inl refl))
filled (suc (suc zero)) zero le lt = (lt, inr (inr (inl refl)))
filled (suc zero) (suc zero) le lt = (lt, inl refl)
filled (suc (suc zero)) (suc zero) le lt = (lt, inr (inl refl))
filled (suc (suc zero)) (suc (suc zero)) le lt = (lt, inl refl)
filled zero (suc c) le lt = absurd (omega arith)
filled (suc zero) (suc (suc c)) le lt = absurd (omega arith)
filled (suc (suc zero)) (suc (suc (suc c))) le lt = absurd (omega arith)
filled (suc (suc (suc r))) c le lt = absurd (omega arith)

diagonal : List Place
diagonal = (0, 0) ∷ (1, 1) ∷ (2, 2) ∷ []

same_on : (r c k : ℕ) → k < 3 → ◌≡◌ {A = Place} (r, c) (k, k) → (r ≡ c) × (r < 3)
same_on r c k lt e = let f : r ≡ k = ap (λ (p : Place). p.0) e in let g : c ≡ k = ap (λ (p : Place). p.1) e in omega arith

on_diagonal : (r c : ℕ) → Among (r, c) diagonal → (r ≡ c) × (r < 3)
unfolding diagonal
on_diagonal r c (inl e) = same_on r c 0 (omega arith) e
on_diagonal r c (inr (inl e)) = same_on r c 1 (omega arith) e
on_diagonal r c (inr (inr (inl e))) = same_on r c 2 (omega arith) e
on_diagonal r c (inr (inr (inr h))) = absurd h

diagonal_at : (r : ℕ) → r < 3 → Among (r, r) diagonal
unfolding diagonal
diagonal_at zero lt = inl refl
diagonal_at (suc zero) lt = inr (inl refl)
diagonal_at (suc (suc zero)) lt = inr (inr (inl refl))
diagonal_at (suc (suc (suc r))) lt = absurd (omega arith)

diagonal_full : IsFull lower_triangle diagonal
unfolding diagonal
diagonal_full = record {
  matching = record {
    entries = λ r c h. let (e, lt) = on_diagonal r c h in filled r c (omega arith) lt;
    rows_differ = rising_distinct (upto 3) (upto_rising 0 3);
    cols_differ = rising_distinct (upto 3) (upto_rising 0 3);
  };
  rows = refl;
  cols = refl;
}

-- the columns' numbers fall from left to right
fall : ℕ → ℕ
fall c = 2 - c

diagonal_components : AreComponents lower_triangle diagonal fall
unfolding fall
diagonal_components = record {
  joined = λ c d s t e. let ltc : c < 3 = s.0 in let ltd : d < 3 = t.0 in let same : c ≡ d = omega arith in subst (λ x. Walk lower_triangle diagonal c x) same stay;
  falling = λ r c d s e p. let le : c ≤ r = below_diagonal r c e in let same : r ≡ d = (on_diagonal r d p).0 in omega arith;
}

single_component : (c : ℕ) → c < 3 → IsComponent lower_triangle diagonal fall (fall c) (single c)
unfolding fall
single_component c lt = record {
  rows = record {
    rising = (tt, tt);
    sound = λ r h. let e : r ≡ c = one r c h in (c, subst (λ x. Among (x, c) diagonal) (sym e) (diagonal_at c lt), refl);
    complete = λ r h. let (d, p, e) = h in let (same, below) = on_diagonal r d p in inl (omega arith);
  };
  cols = record {
    rising = (tt, tt);
    sound = λ d h. let e : d ≡ c = one d c h in (full_square_col lower_triangle diagonal diagonal_full d (omega arith), ap (λ x. 2 - x) e);
    complete = λ d h. let ltd : d < 3 = h.0.0 in let e = h.1 in inl (omega arith);
  };
}

-- the blocks of the numbers below k, the greatest first
abbrev down : ℕ → List Block
down zero = []
down (suc k) = single k ∷ down k

among_down : (k : ℕ) (b : Block) → Among b (down k) → (n : ℕ) × (n < k) × (b ≡ single n)
among_down zero b h = absurd h
among_down (suc k) b (inl e) = (k, omega arith, e)
among_down (suc k) b (inr h) = let (n, lt, e) = among_down k b h in (n, omega arith, e)

down_among : (k n : ℕ) → n < k → Among (single n) (down k)
down_among zero n lt = absurd (omega arith)
down_among (suc k) n lt = ⊎_elim (λ (e : n ≡ k). inl (ap single e)) (λ (ne : n ≢ k). inr (down_among k n (omega arith))) (number_same n k)

down_distinct : (k : ℕ) → AreDistinct (down k)
down_distinct zero = tt
down_distinct (suc k) = (λ h. let (n, lt, e) = among_down k (single k) h in let f : k ≡ n = ap least_col e in absurd (omega arith), down_distinct k)

down_in_order : (k : ℕ) → k ≤ 3 → AreInOrder lower_triangle (down k)
down_in_order zero le = tt
down_in_order (suc k) le = (free, least, down_in_order k (omega arith))
  where
    apart : (n r c : ℕ) → n < k → Among r (n ∷ []) → Among c (k ∷ []) → ¬ IsEntry lower_triangle r c
    apart n r c lt hr hc e = let er : r ≡ n = one r n hr in let ec : c ≡ k = one c k hc in let le : c ≤ r = below_diagonal r c e in absurd (omega arith)

    free : MeetsNoOther lower_triangle (down (suc k)) (single k)
    free d h other r c hr hc = ⊎_elim (λ (e : d ≡ single k). absurd (other e)) (λ g. let (n, lt, e) = among_down k d g in apart n r c lt (subst (λ (b : Block). Among r b.rows) e hr) hc) h

    least : (d : Block) → Among d (down (suc k)) → MeetsNoOther lower_triangle (down (suc k)) d → least_col (single k) ≤ least_col d
    least d (inl e) f = let g : least_col d ≡ k = ap least_col e in omega arith
    least d (inr h) f =
        let (n, lt, e) = among_down k d h in
        let free_n = subst (MeetsNoOther lower_triangle (down (suc k))) e f in
        absurd (free_n (single k) (inl refl) (λ g. let same : k ≡ n = ap least_col g in absurd (omega arith)) k n (inl refl) (inl refl) (filled k n (omega arith) (omega arith)))

one_component : (b d : Block) (k : ℕ) → IsComponent lower_triangle diagonal fall k b → IsComponent lower_triangle diagonal fall k d → b ≡ d
one_component b d k x y = λ i. record {
  rows = lists_unique (λ r. (c : ℕ) × Among (r, c) diagonal × (fall c ≡ k)) b.rows d.rows x.rows y.rows i;
  cols = lists_unique (λ c. IsSquareCol lower_triangle c × (fall c ≡ k)) b.cols d.cols x.cols y.cols i;
}

lower_blocks : AreBlocksOf lower_triangle (down 3)
lower_blocks = record {
  sound = λ b h. let (n, lt, e) = among_down 3 b h in subst (IsBlock lower_triangle) (sym e) (component_is_block lower_triangle diagonal fall n (single n) perfect diagonal_components (full_square_col lower_triangle diagonal diagonal_full n lt) (single_component n lt));
  complete = λ b x. let (c, s, k) = block_is_component lower_triangle diagonal fall b perfect diagonal_components x in subst (λ d. Among d (down 3)) (one_component (single c) b (fall c) (single_component c s.0) k) (down_among 3 c s.0);
  distinct = down_distinct 3;
  in_order = down_in_order 3 (omega arith);
}
  where
    perfect : IsPerfect lower_triangle diagonal
    perfect = full_perfect lower_triangle diagonal diagonal_full

-- the last column comes first, as it has an entry in no other block's row
pub lower_triangle_is : IsDecompositionOf lower_triangle lower_triangle_parts
unfolding diagonal
lower_triangle_is = record {
  rank = (diagonal, full_maximum lower_triangle diagonal diagonal_full.matching diagonal_full.cols, refl);
  parts = full_parts lower_triangle diagonal diagonal_full;
  blocks = lower_blocks;
}

-- The wide row.

wide_entries : (r c : ℕ) → IsEntry wide_row r c → (r ≡ 0) × (c < 2)
wide_entries r c e = by c e.1
  where
    by : (c : ℕ) → Among r (column wide_row c) → (r ≡ 0) × (c < 2)
    by zero (inl f) = omega arith
    by zero (inr h) = absurd h
    by (suc zero) (inl f) = omega arith
    by (suc zero) (inr h) = absurd h
    by (suc (suc c)) h = absurd h

wide_pair : List Place
wide_pair = (0, 0) ∷ []

two : (x : ℕ) → x < 2 → (x ≡ 0) ⊎ (x ≡ 1)
two zero lt = inl refl
two (suc zero) lt = inr refl
two (suc (suc x)) lt = absurd (omega arith)

wide_matching : IsMatching wide_row wide_pair
unfolding wide_pair
wide_matching = record {
  entries = λ r c h. ⊎_elim (λ (e : ◌≡◌ {A = Place} (r, c) (0, 0)). subst (λ (p : Place). IsEntry wide_row p.0 p.1) (sym e) (omega arith, inl refl)) (λ k. absurd k) h;
  rows_differ = (λ h. h, tt);
  cols_differ = (λ h. h, tt);
}

wide_reached : IsReached wide_row wide_pair (0 ∷ 1 ∷ [])
unfolding wide_pair
wide_reached = record {
  rising = upto_rising 0 2;
  in_range = λ c h. (upto_lists 2).sound c h;
  unmatched = λ c lt free. (upto_lists 2).complete c lt;
  closed = λ r c h e. (0, inl (λ i. ((wide_entries r c e).0 i, 0)), inl refl);
  led = λ c h. ⊎_elim (λ (e : c ≡ 0). subst (IsLed wide_row wide_pair) (sym e) (1, omega arith, free, step 0 (omega arith, inl refl) (inl refl) stay)) (λ (e : c ≡ 1). subst (IsLed wide_row wide_pair) (sym e) (1, omega arith, free, stay)) (two c ((upto_lists 2).sound c h));
}
  where
    free : ¬ Among 1 (cols_of wide_pair)
    free (inl e) = absurd (omega arith)
    free (inr h) = h

wide_rows_reached : IsReached (transpose wide_row) (transposed_places wide_pair) (1 ∷ [])
unfolding wide_pair
wide_rows_reached = record {
  rising = (tt, tt);
  in_range = λ c h. let e = one c 1 h in omega arith;
  unmatched = λ c lt free. ⊎_elim (λ (e : c ≡ 0). absurd (free (inl e))) (λ (e : c ≡ 1). inl e) (two c lt);
  closed = λ r c h e. absurd (subst (λ x. Among r (column (transpose wide_row) x)) (one c 1 h) e.1);
  led = λ c h. subst (IsLed (transpose wide_row) (transposed_places wide_pair)) (sym (one c 1 h)) (1, omega arith, free, stay);
}
  where
    free : ¬ Among 1 (cols_of (transposed_places wide_pair))
    free (inl e) = absurd (omega arith)
    free (inr h) = h

wide_read_off : AreReadOff wide_row (0 ∷ 1 ∷ []) (1 ∷ []) wide_row_parts.parts
wide_read_off = record {
  horizontal_cols = refl;
  vertical_rows = refl;
  horizontal_rows = record {
    rising = (tt, tt);
    sound = λ r h. (0, inl refl, subst (λ x. IsEntry wide_row x 0) (sym (one r 0 h)) (omega arith, inl refl));
    complete = λ r h. inl (wide_entries r h.0 h.2).0;
  };
  vertical_cols = no_list (λ c. (r : ℕ) × Among r (1 ∷ []) × IsEntry wide_row r c) (λ c h. let e = one h.0 1 h.1 in let f = (wide_entries h.0 c h.2).0 in absurd (omega arith));
  square_rows = no_list (λ r. (r < 2) × (¬ Among r (0 ∷ [])) × (¬ Among r (1 ∷ []))) (λ r s. ⊎_elim (λ (e : r ≡ 0). s.1 (inl e)) (λ (e : r ≡ 1). s.2 (inl e)) (two r s.0));
  square_cols = no_list (λ c. (c < 2) × (¬ Among c (0 ∷ 1 ∷ [])) × (¬ Among c [])) (λ c s. s.1 ((upto_lists 2).complete c s.0));
}

pub wide_row_is : IsDecompositionOf wide_row wide_row_parts
unfolding wide_pair
wide_row_is = record {
  rank = (wide_pair, reached_maximum wide_row wide_pair (0 ∷ 1 ∷ []) wide_matching wide_reached, refl);
  parts = parts;
  blocks = no_square wide_row (λ r s. parts.square_rows.complete r s) (λ c s. parts.square_cols.complete c s);
}
  where
    parts : ArePartsOf wide_row wide_row_parts.parts
    parts = parts_from_searches wide_row wide_pair (0 ∷ 1 ∷ []) (1 ∷ []) wide_row_parts.parts wide_matching wide_reached wide_rows_reached wide_read_off
