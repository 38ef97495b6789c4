-- The ends of the stretches of a flat list.
use Rattle.std.proofs.Common.{◌≡◌, ◌∙◌, ◌-◌, ℕ, zero, suc, ◌+◌, ◌<◌, ◌≤◌, List, [], ◌∷◌, ◌++◌, length, get_or, take, drop, refl, sym, ap, arith}
use Rattle.std.proofs.lemmas.List.{drop_all, take_all, drop_at, take-append-drop}
use Rattle.std.specs.List.{slice_range}
use Rattle.bip_defs.specs.Blocks.{all_cols, all_rows, block_at}
use Rattle.bip_graph.specs.Blocks.{AreEnds, blocks_from, start_at}
use Rattle.bip_defs.proofs.Slices.{range_before}

pub start_before : (i : ℕ) (ends : List ℕ) (at : ℕ) → suc at < length ends → start_at i ends (suc at) ≡ get_or ends at 0
start_before i [] at lt = absurd (omega arith)
start_before i (e ∷ []) at lt = absurd (omega arith)
start_before i (e ∷ f ∷ ends) zero lt = refl
start_before i (e ∷ f ∷ ends) (suc at) lt = start_before e (f ∷ ends) at (omega arith)

pub ends_before : (i : ℕ) (ends : List ℕ) (long : ℕ) → AreEnds i ends long → i ≤ long
ends_before i [] long h = omega arith
ends_before i (e ∷ ends) long h = let le = ends_before e ends long h.1 in omega (arith, h.0, le)

pub end_within : (i : ℕ) (ends : List ℕ) (long at : ℕ) → AreEnds i ends long → at < length ends → (start_at i ends at ≤ get_or ends at 0) × (get_or ends at 0 ≤ long)
end_within i [] long at h lt = absurd (omega arith)
end_within i (e ∷ ends) long zero h lt = (h.0, ends_before e ends long h.1)
end_within i (e ∷ ends) long (suc at) h lt = end_within e ends long at h.1 (omega arith)

-- one stretch more
pub ends_more : (i : ℕ) (ends : List ℕ) (long more : ℕ) → AreEnds i ends long → AreEnds i (ends ++ (long + more) ∷ []) (long + more)
ends_more i [] long more h = (omega arith, refl)
ends_more i (e ∷ ends) long more h = (h.0, ends_more e ends long more h.1)

-- The stretches themselves.

-- what is appended is the last stretch
range_back : (xs ys : List ℕ) (i : ℕ) → i ≡ length xs → slice_range (xs ++ ys) i (length xs + length ys) ≡ ys
range_back xs ys i e = ap (take (length xs + length ys - i)) (drop_at xs ys i (sym e)) ∙ take_all (length xs + length ys - i) ys (omega arith)

pub blocks_more : (i j : ℕ) (row_ends col_ends rows cols more_rows more_cols : List ℕ) → AreEnds i row_ends (length rows) → AreEnds j col_ends (length cols) → length row_ends ≡ length col_ends
    → blocks_from i j (row_ends ++ (length rows + length more_rows) ∷ []) (col_ends ++ (length cols + length more_cols) ∷ []) (rows ++ more_rows) (cols ++ more_cols) ≡ blocks_from i j row_ends col_ends rows cols ++ record { rows = more_rows; cols = more_cols } ∷ []
blocks_more i j [] [] rows cols more_rows more_cols r c same = λ k. record { rows = range_back rows more_rows i r k; cols = range_back cols more_cols j c k } ∷ []
blocks_more i j [] (f ∷ col_ends) rows cols more_rows more_cols r c same = absurd (omega arith)
blocks_more i j (e ∷ row_ends) [] rows cols more_rows more_cols r c same = absurd (omega arith)
blocks_more i j (e ∷ row_ends) (f ∷ col_ends) rows cols more_rows more_cols r c same = λ k. record { rows = range_before rows more_rows i e r.0 (ends_before e row_ends (length rows) r.1) k; cols = range_before cols more_cols j f c.0 (ends_before f col_ends (length cols) c.1) k } ∷ blocks_more e f row_ends col_ends rows cols more_rows more_cols r.1 c.1 (omega arith) k

pub block_count : (i j : ℕ) (row_ends col_ends rows cols : List ℕ) → length row_ends ≡ length col_ends → length (blocks_from i j row_ends col_ends rows cols) ≡ length row_ends
block_count i j [] col_ends rows cols same = refl
block_count i j (e ∷ row_ends) [] rows cols same = absurd (omega arith)
block_count i j (e ∷ row_ends) (f ∷ col_ends) rows cols same = ap suc (block_count e f row_ends col_ends rows cols (omega arith))

pub block_rows : (i j : ℕ) (row_ends col_ends rows cols : List ℕ) (at : ℕ) → length row_ends ≡ length col_ends → at < length row_ends → (block_at (blocks_from i j row_ends col_ends rows cols) at).rows ≡ slice_range rows (start_at i row_ends at) (get_or row_ends at 0)
block_rows i j [] col_ends rows cols at same lt = absurd (omega arith)
block_rows i j (e ∷ row_ends) [] rows cols at same lt = absurd (omega arith)
block_rows i j (e ∷ row_ends) (f ∷ col_ends) rows cols zero same lt = refl
block_rows i j (e ∷ row_ends) (f ∷ col_ends) rows cols (suc at) same lt = block_rows e f row_ends col_ends rows cols at (omega arith) (omega arith)

pub block_cols : (i j : ℕ) (row_ends col_ends rows cols : List ℕ) (at : ℕ) → length row_ends ≡ length col_ends → at < length col_ends → (block_at (blocks_from i j row_ends col_ends rows cols) at).cols ≡ slice_range cols (start_at j col_ends at) (get_or col_ends at 0)
block_cols i j [] [] rows cols at same lt = absurd (omega arith)
block_cols i j [] (f ∷ col_ends) rows cols at same lt = absurd (omega arith)
block_cols i j (e ∷ row_ends) [] rows cols at same lt = absurd (omega arith)
block_cols i j (e ∷ row_ends) (f ∷ col_ends) rows cols zero same lt = refl
block_cols i j (e ∷ row_ends) (f ∷ col_ends) rows cols (suc at) same lt = block_cols e f row_ends col_ends rows cols at (omega arith) (omega arith)

-- stretches joined are the flat list from where they start

joined : (xs : List ℕ) (i e : ℕ) → i ≤ e → e ≤ length xs → slice_range xs i e ++ drop e xs ≡ drop i xs
joined xs zero e le within = rw (let same : e - 0 ≡ e = omega arith in same) (take-append-drop e xs)
joined [] (suc i) e le within = absurd (omega arith)
joined (x ∷ xs) (suc i) zero le within = absurd (omega arith)
joined (x ∷ xs) (suc i) (suc e) le within = let same : suc e - suc i ≡ e - i = omega arith in rw same (joined xs i e (omega arith) (omega arith))

pub rows_joined : (i j : ℕ) (row_ends col_ends rows cols : List ℕ) → AreEnds i row_ends (length rows) → length row_ends ≡ length col_ends → all_rows (blocks_from i j row_ends col_ends rows cols) ≡ drop i rows
rows_joined i j [] col_ends rows cols r same = sym (drop_all i rows (omega arith))
rows_joined i j (e ∷ row_ends) [] rows cols r same = absurd (omega arith)
rows_joined i j (e ∷ row_ends) (f ∷ col_ends) rows cols r same = ap (λ (z : List ℕ). slice_range rows i e ++ z) (rows_joined e f row_ends col_ends rows cols r.1 (omega arith)) ∙ joined rows i e r.0 (ends_before e row_ends (length rows) r.1)

pub cols_joined : (i j : ℕ) (row_ends col_ends rows cols : List ℕ) → AreEnds j col_ends (length cols) → length row_ends ≡ length col_ends → all_cols (blocks_from i j row_ends col_ends rows cols) ≡ drop j cols
cols_joined i j [] [] rows cols c same = sym (drop_all j cols (omega arith))
cols_joined i j [] (f ∷ col_ends) rows cols c same = absurd (omega arith)
cols_joined i j (e ∷ row_ends) [] rows cols c same = absurd (omega arith)
cols_joined i j (e ∷ row_ends) (f ∷ col_ends) rows cols c same = ap (λ (z : List ℕ). slice_range cols j f ++ z) (cols_joined e f row_ends col_ends rows cols c.1 (omega arith)) ∙ joined cols j f c.0 (ends_before f col_ends (length cols) c.1)

pub first_start : (i : ℕ) (ends : List ℕ) (at : ℕ) → at ≡ 0 → start_at i ends at ≡ i
first_start i ends at e = ap (start_at i ends) e ∙ zeroth ends
  where
    zeroth : (es : List ℕ) → start_at i es 0 ≡ i
    zeroth [] = refl
    zeroth (e ∷ es) = refl

pub start_before_at : (i : ℕ) (ends : List ℕ) (at : ℕ) → (at ≡ 0 → ⊥) → at < length ends → start_at i ends at ≡ get_or ends (at - 1) 0
start_before_at i ends zero ne lt = absurd (ne refl)
start_before_at i ends (suc at) ne lt = rw (let e : suc at - 1 ≡ at = omega arith in e) (start_before i ends at lt)
