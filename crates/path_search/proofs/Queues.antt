-- The queue of the columns that were reached.
use Rattle.std.proofs.Common.{◌≡◌, ◌≢◌, ◌⊎◌, ◌∙◌, ℕ, ◌<◌, List, [], ◌∷◌, ◌++◌, length, get_or, sym, ap, subst, inl, inr, ⊎_elim, arith, length-append}
use Rattle.std.proofs.Math.Decide.{dec_lt}
use Rattle.std.proofs.Math.Seq.{get_or-append_seam}
use Rattle.std.proofs.lemmas.List.{get_or-map, get_or_append_left, length-map, map-append}
use Rattle.bip_defs.specs.Lists.{Among, AreDistinct}
use Rattle.bip_defs.specs.Matrix.{IsEntry, Matrix, Place}
use Rattle.bip_defs.proofs.Queues.{distinct_at}
use Rattle.bip_defs.proofs.Sets.{among_at, among_left, among_map, place_among}
use Rattle.path_search.specs.Forests.{IsFound, reached_at, reached_cols}
use Rattle.path_search.specs.declared.reached.Reached.{Reached}

pub reached_last : (q : List Reached) (x : Reached) → reached_cols (q ++ x ∷ []) ≡ reached_cols q ++ x.col ∷ []
reached_last q x = map-append (λ (y : Reached). y.col) q (x ∷ [])

pub col_reached : (q : List Reached) (i : ℕ) → i < length q → Among (reached_at q i).col (reached_cols q)
col_reached q i lt = among_map (λ (y : Reached). y.col) (reached_at q i) q (among_at q i (record { col = 0; from = 0; root = 0 }) lt)

pub col_at : (q : List Reached) (i : ℕ) → i < length q → get_or (reached_cols q) i 0 ≡ (reached_at q i).col
col_at q i lt = get_or-map (λ (y : Reached). y.col) q i (record { col = 0; from = 0; root = 0 }) 0 lt

-- the place of a column
pub place_of : (q : List Reached) (c : ℕ) → Among c (reached_cols q) → (i : ℕ) × (i < length q) × ((reached_at q i).col ≡ c)
place_of q c h =
    let (i, lt, e) = place_among c 0 (reached_cols q) h in
    let within : i < length q = omega (arith, length-map q (λ (y : Reached). y.col)) in
    (i, within, sym (col_at q i within) ∙ e)

pub at_before : (q more : List Reached) (i : ℕ) → i < length q → reached_at (q ++ more) i ≡ reached_at q i
at_before q more i lt = get_or_append_left q more (record { col = 0; from = 0; root = 0 }) i lt

pub at_last : (q : List Reached) (x : Reached) → reached_at (q ++ x ∷ []) (length q) ≡ x
at_last q x = get_or-append_seam q x [] (record { col = 0; from = 0; root = 0 })

pub before_or_last : (q : List Reached) (x : Reached) (i : ℕ) → i < length (q ++ x ∷ []) → (i < length q) ⊎ (i ≡ length q)
before_or_last q x i lt = by (dec_lt i (length q))
  where
    by : Dec (i < length q) → (i < length q) ⊎ (i ≡ length q)
    by (yes below) = inl below
    by (no not) = inr (omega (arith, length-append q (x ∷ [])))

-- what holds of each place, and of what was reached last
pub each_place : (P : ℕ → Reached → Type 0) (q : List Reached) (x : Reached) → ((i : ℕ) → i < length q → P i (reached_at q i)) → P (length q) x → (i : ℕ) → i < length (q ++ x ∷ []) → P i (reached_at (q ++ x ∷ []) i)
each_place P q x each last i lt = ⊎_elim (λ before. subst (λ (y : Reached). P i y) (sym (at_before q (x ∷ []) i before)) (each i before)) (λ (e : i ≡ length q). subst (λ j. P j (reached_at (q ++ x ∷ []) j)) (sym e) (subst (λ (y : Reached). P (length q) y) (sym (at_last q x)) last)) (before_or_last q x i lt)

pub grown_among : (q more : List Reached) (c : ℕ) → Among c (reached_cols q) → Among c (reached_cols (q ++ more))
grown_among q more c h = subst (λ xs. Among c xs) (sym (map-append (λ (y : Reached). y.col) q more)) (among_left c (reached_cols q) (reached_cols more) h)

-- distinct columns stand at one place each
places_differ : (q : List Reached) (i j : ℕ) → AreDistinct (reached_cols q) → i < j → j < length q → (reached_at q i).col ≢ (reached_at q j).col
places_differ q i j a lt within e = distinct_at (reached_cols q) i j a lt (omega (arith, length-map q (λ (y : Reached). y.col))) (col_at q i (omega arith) ∙ e ∙ sym (col_at q j within))

pub one_place : (q : List Reached) (i j : ℕ) → AreDistinct (reached_cols q) → i < length q → j < length q → (reached_at q i).col ≡ (reached_at q j).col → i ≡ j
one_place q i j a in_i in_j e = by (dec_lt i j) (dec_lt j i)
  where
    by : Dec (i < j) → Dec (j < i) → i ≡ j
    by (yes lt) d = absurd (places_differ q i j a lt in_j e)
    by (no nlt) (yes lt) = absurd (places_differ q j i a lt in_i (sym e))
    by (no nlt) (no ngt) = omega arith

-- a column is found as before, whatever is reached after it
pub found_before : (a : Matrix) (m : List Place) (q more : List Reached) (i : ℕ) → i < length q → IsFound a m q i → IsFound a m (q ++ more) i
found_before a m q more i lt (inl e) = inl (subst (λ (y : Reached). y.col ≡ y.root) (sym (at_before q more i lt)) e)
found_before a m q more i lt (inr (before, same, r, pair, entry)) =
    let led : reached_at (q ++ more) (reached_at q i).from ≡ reached_at q (reached_at q i).from = at_before q more (reached_at q i).from (omega arith) in
    inr (subst (λ (y : Reached). (y.from < i) × ((reached_at (q ++ more) y.from).root ≡ y.root) × (s : ℕ) × Among {X = Place} (s, y.col) m × IsEntry a s (reached_at (q ++ more) y.from).col) (sym (at_before q more i lt)) (before, ap (λ (y : Reached). y.root) led ∙ same, r, pair, subst (λ (y : Reached). IsEntry a r y.col) (sym led) entry))
