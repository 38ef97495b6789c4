-- Weights row by row.
use Rattle.std.proofs.Common.{◌≡◌, ◌⊎◌, ◌∙◌, ℕ, zero, suc, ◌+◌, ◌-◌, ◌<◌, List, [], ◌∷◌, ◌++◌, length, get_or, take, map, refl, sym, ap, ap₂, inl, inr, ⊎_elim, arith, length-append}
use Rattle.std.proofs.Math.Seq.{get_or-append_seam}
use Rattle.std.proofs.lemmas.List.{drop_at, get_or-map, get_or_append_left, get_or_read, length-map, take_all}
use Rattle.std.specs.List.{slice_range}
use Rattle.std.specs.Prelude.{slice_index}
use Rattle.bip_defs.specs.Matrix.{Matrix, row_list}
use Rattle.bip_defs.specs.Pieces.{piece}
use Rattle.sp_pattern.specs.Weights.{Weighing, weight_at}
use Rattle.integer_diagonal.specs.RowWeights.{AreRowWeights, weights_in_row}
use Rattle.bip_defs.proofs.Slices.{range_before}

-- and is the range behind what was there
range_behind : (xs ys : List ℕ) (i j : ℕ) → i ≡ length xs → j ≡ length xs + length ys → slice_range (xs ++ ys) i j ≡ ys
range_behind xs ys i j from to = ap (take (j - i)) (drop_at xs ys i (sym from)) ∙ take_all (j - i) ys (omega (arith, from, to))

-- a number below the next one is below this one, or it is this one
below_or_last : (r n : ℕ) → r < n + 1 → (r < n) ⊎ (r ≡ n)
below_or_last r zero lt = inr (omega arith)
below_or_last zero (suc n) lt = inl (omega arith)
below_or_last (suc r) (suc n) lt = ⊎_elim (λ (l : r < n). inl (omega (arith, l))) (λ (e : r ≡ n). inr (ap suc e)) (below_or_last r n (omega arith))

-- and those of one row more
pub row_weights_more : (w : Weighing) (n : ℕ) (starts flat new_starts new_flat : List ℕ) → AreRowWeights w n starts flat → slice_index starts n ≡ length flat → new_flat ≡ flat ++ weights_in_row w n → new_starts ≡ starts ++ length new_flat ∷ [] → AreRowWeights w (n + 1) new_starts new_flat × (slice_index new_starts (n + 1) ≡ length new_flat)
row_weights_more w n starts flat new_starts new_flat k last flat_is starts_are = (
  record {
    long = omega (arith, ap (λ (z : List ℕ). length z) starts_are, length-append starts (length new_flat ∷ []), k.long);
    rise = λ r lt. ⊎_elim (λ (l : r < n). let up = k.rise r l in omega (arith, up, old r (omega (arith, l)), old (r + 1) (omega (arith, l)))) (λ (e : r ≡ n). omega (arith, at_last r e, at_end (r + 1) (omega (arith, e)), size)) (below_or_last r n lt);
    within = λ r lt. ⊎_elim (λ (l : r < n). let le = k.within r l in omega (arith, le, old (r + 1) (omega (arith, l)), size)) (λ (e : r ≡ n). omega (arith, at_end (r + 1) (omega (arith, e)))) (below_or_last r n lt);
    parts = λ r lt. ⊎_elim (before r) (λ (e : r ≡ n). behind r e) (below_or_last r n lt);
  },
  at_end (n + 1) refl,
)
  where
    size : length new_flat ≡ length flat + length (weights_in_row w n)
    size = ap (λ (z : List ℕ). length z) flat_is ∙ length-append flat (weights_in_row w n)

    old : (r : ℕ) → r < n + 1 → slice_index new_starts r ≡ slice_index starts r
    old r lt = ap (λ (z : List ℕ). slice_index z r) starts_are ∙ get_or_append_left starts (length new_flat ∷ []) 0 r (omega (arith, k.long))

    at_last : (r : ℕ) → r ≡ n → slice_index new_starts r ≡ length flat
    at_last r e = old r (omega (arith, e)) ∙ ap (λ j. slice_index starts j) e ∙ last

    at_end : (r : ℕ) → r ≡ n + 1 → slice_index new_starts r ≡ length new_flat
    at_end r e = ap₂ (λ (z : List ℕ) (j : ℕ). slice_index z j) starts_are (e ∙ sym k.long) ∙ get_or-append_seam starts (length new_flat) [] 0

    range_same : (r i j : ℕ) → slice_index new_starts r ≡ i → slice_index new_starts (r + 1) ≡ j → piece new_starts new_flat r ≡ slice_range (flat ++ weights_in_row w n) i j
    range_same r i j from to = λ x. slice_range (flat_is x) (from x) (to x)

    before : (r : ℕ) → r < n → piece new_starts new_flat r ≡ weights_in_row w r
    before r l = range_same r (slice_index starts r) (slice_index starts (r + 1)) (old r (omega (arith, l))) (old (r + 1) (omega (arith, l)))
        ∙ range_before flat (weights_in_row w n) (slice_index starts r) (slice_index starts (r + 1)) (k.rise r l) (k.within r l) ∙ k.parts r l

    behind : (r : ℕ) → r ≡ n → piece new_starts new_flat r ≡ weights_in_row w r
    behind r e = range_same r (length flat) (length new_flat) (at_last r e) (at_end (r + 1) (omega (arith, e)))
        ∙ range_behind flat (weights_in_row w n) (length flat) (length new_flat) refl size ∙ ap (weights_in_row w) (sym e)

-- the weight of the entry at a place of a row's columns
pub row_weight : (w : Weighing) (a : Matrix) (r k c : ℕ) (cs weights : List ℕ) → w.matrix ≡ a → cs ≡ row_list a r → weights ≡ weights_in_row w r → k < length cs → c ≡ get_or cs k c → (k < length weights) × (slice_index weights k ≡ weight_at w r c)
row_weight w a r k c cs weights same cs_are weights_are lt read =
    let all : weights ≡ map (weight_at w r) cs = weights_are ∙ ap (λ (z : List ℕ). map (weight_at w r) z) (ap (λ (z : Matrix). row_list z r) same ∙ sym cs_are) in (
      omega (arith, ap (λ (z : List ℕ). length z) all, length-map cs (weight_at w r), lt),
      ap (λ (z : List ℕ). slice_index z k) all ∙ get_or-map (weight_at w r) cs k 0 0 lt ∙ ap (weight_at w r) (sym (get_or_read cs k c lt read 0)),
    )
