-- Dual variables and prices that rise at one column of a search after another.
use Rattle.std.proofs.Common.{◌≡◌, ◌≢◌, ◌⊎◌, ◌∙◌, ℕ, ◌+◌, ◌<◌, ◌≤◌, List, length, set, slice_index, refl, sym, ap, subst, inl, inr, arith, length-set, get_or-set_same, get_or-set_other}
use Rattle.bip_defs.specs.Lists.{Among, AreDistinct}
use Rattle.bip_defs.specs.Matching.{cols_of, rows_of}
use Rattle.bip_defs.specs.Matrix.{Place}
use Rattle.bip_defs.proofs.Sets.{col_among, number_same, one_col, one_row}
use Rattle.integer_diagonal.specs.SearchTree.{IsRaised}
use Rattle.sp_pattern.specs.Weights.{Weighing}
use Rattle.bip_defs.specs.Queues.{Queue, at, heads}
use Rattle.bip_defs.proofs.Queues.{head_at, places_differ}

-- the dual variables of the first k columns have risen, and the others stand
pub record DualsRise (q : Queue) (depths : List ℕ) (distance k : ℕ) (old new : List ℕ) : Type 0 where
  pub long : length new ≡ length old
  pub up : (i : ℕ) → i < k → slice_index new (at q i).0 + slice_index depths i ≡ slice_index old (at q i).0 + distance
  pub stay : (c : ℕ) → ((i : ℕ) → i < k → (at q i).0 ≢ c) → slice_index new c ≡ slice_index old c

-- and so have the prices of their mates
pub record PricesRise (m : List Place) (q : Queue) (depths : List ℕ) (distance k : ℕ) (old new : List ℕ) : Type 0 where
  pub long : length new ≡ length old
  pub up : (i r : ℕ) → i < k → Among (r, (at q i).0) m → slice_index new r + slice_index depths i ≡ slice_index old r + distance
  pub stay : (r : ℕ) → ((i : ℕ) → i < k → ¬ Among (r, (at q i).0) m) → slice_index new r ≡ slice_index old r
  pub rise : (r : ℕ) → slice_index old r ≤ slice_index new r

-- the next column's dual variable stands so far
pub dual_next : (q : Queue) (depths : List ℕ) (distance k : ℕ) (old new : List ℕ) (c : ℕ) → AreDistinct (heads q) → k < length q → c ≡ (at q k).0 → DualsRise q depths distance k old new → slice_index new c ≡ slice_index old c
dual_next q depths distance k old new c distinct within is h = h.stay c (λ i lt e. places_differ q i k distinct lt within (e ∙ is))

-- and so does its mate's price
pub price_next : (m : List Place) (q : Queue) (depths : List ℕ) (distance k : ℕ) (old new : List ℕ) (r c : ℕ) → AreDistinct (rows_of m) → AreDistinct (heads q) → k < length q → c ≡ (at q k).0 → Among (r, c) m → PricesRise m q depths distance k old new → slice_index new r ≡ slice_index old r
price_next m q depths distance k old new r c rows distinct within is mate h = h.stay r (λ i lt pair. places_differ q i k distinct lt within (one_col m rows r (at q i).0 c pair mate ∙ is))

pub duals_more : (q : Queue) (depths : List ℕ) (distance k : ℕ) (old new : List ℕ) (c v : ℕ) → AreDistinct (heads q) → k < length q → c ≡ (at q k).0 → c < length new → v + slice_index depths k ≡ slice_index new c + distance → DualsRise q depths distance k old new → DualsRise q depths distance (k + 1) old (set new c v)
duals_more q depths distance k old new c v distinct within is inside rise h = record {
  long = length-set new c v ∙ h.long;
  up = λ i lt. up i lt (number_same i k);
  stay = λ d none. get_or-set_other new c d v 0 (λ e. none k (omega arith) (sym is ∙ sym e)) ∙ h.stay d (λ i lt. none i (omega arith));
}
  where
    next : slice_index new c ≡ slice_index old c
    next = dual_next q depths distance k old new c distinct within is h

    here : slice_index (set new c v) c + slice_index depths k ≡ slice_index old c + distance
    here =
        let same : slice_index (set new c v) c ≡ v = get_or-set_same new c v 0 inside in
        let was = next in
        omega (arith, same, was, rise)

    up : (i : ℕ) → i < k + 1 → (i ≡ k) ⊎ (i ≢ k) → slice_index (set new c v) (at q i).0 + slice_index depths i ≡ slice_index old (at q i).0 + distance
    up i lt (inl e) = subst (λ j. slice_index (set new c v) (at q j).0 + slice_index depths j ≡ slice_index old (at q j).0 + distance) (sym e) (subst (λ d. slice_index (set new c v) d + slice_index depths k ≡ slice_index old d + distance) is here)
    up i lt (inr ne) =
        let below : i < k = omega arith in
        let other : slice_index (set new c v) (at q i).0 ≡ slice_index new (at q i).0 = get_or-set_other new c (at q i).0 v 0 (λ e. places_differ q i k distinct below within (e ∙ is)) in
        let was = h.up i below in
        omega (arith, other, was)

pub prices_more : (m : List Place) (q : Queue) (depths : List ℕ) (distance k : ℕ) (old new : List ℕ) (r c v : ℕ) → AreDistinct (rows_of m) → AreDistinct (cols_of m) → AreDistinct (heads q) → k < length q → c ≡ (at q k).0 → Among (r, c) m → r < length new → v + slice_index depths k ≡ slice_index new r + distance → slice_index depths k ≤ distance → PricesRise m q depths distance k old new → PricesRise m q depths distance (k + 1) old (set new r v)
prices_more m q depths distance k old new r c v rows columns distinct within is mate inside rise near h = record {
  long = length-set new r v ∙ h.long;
  up = λ i s lt pair. up i s lt pair (number_same i k);
  stay = λ s none. get_or-set_other new r s v 0 (λ e. none k (omega arith) (subst (λ z. Among {X = Place} (z, (at q k).0) m) (sym e) pair_at)) ∙ h.stay s (λ i lt. none i (omega arith));
  rise = λ s. higher s (number_same s r);
}
  where
    pair_at : Among (r, (at q k).0) m
    pair_at = subst (λ d. Among {X = Place} (r, d) m) is mate

    next : slice_index new r ≡ slice_index old r
    next = price_next m q depths distance k old new r c rows distinct within is mate h

    same : slice_index (set new r v) r ≡ v
    same = get_or-set_same new r v 0 inside

    up : (i s : ℕ) → i < k + 1 → Among (s, (at q i).0) m → (i ≡ k) ⊎ (i ≢ k) → slice_index (set new r v) s + slice_index depths i ≡ slice_index old s + distance
    up i s lt pair (inl e) =
        let row : s ≡ r = one_row m columns s r (at q k).0 (subst (λ j. Among {X = Place} (s, (at q j).0) m) e pair) pair_at in
        let new_is = same in
        let was = next in
        let here : slice_index (set new r v) r + slice_index depths k ≡ slice_index old r + distance = omega (arith, new_is, was, rise) in
        subst (λ j. slice_index (set new r v) s + slice_index depths j ≡ slice_index old s + distance) (sym e) (subst (λ z. slice_index (set new r v) z + slice_index depths k ≡ slice_index old z + distance) (sym row) here)
    up i s lt pair (inr ne) =
        let below : i < k = omega arith in
        let apart : s ≢ r = λ e. places_differ q i k distinct below within (one_col m rows r (at q i).0 (at q k).0 (subst (λ z. Among {X = Place} (z, (at q i).0) m) e pair) pair_at) in
        let other : slice_index (set new r v) s ≡ slice_index new s = get_or-set_other new r s v 0 apart in
        let was = h.up i s below pair in
        omega (arith, other, was)

    higher : (s : ℕ) → (s ≡ r) ⊎ (s ≢ r) → slice_index old s ≤ slice_index (set new r v) s
    higher s (inl e) =
        let new_is = same in
        let was = next in
        subst (λ z. slice_index old z ≤ slice_index (set new r v) z) (sym e) (omega (arith, new_is, was, rise, near))
    higher s (inr ne) =
        let other : slice_index (set new r v) s ≡ slice_index new s = get_or-set_other new r s v 0 ne in
        let was = h.rise s in
        omega (arith, other, was)

-- the next column has no mate
pub prices_keep : (m : List Place) (q : Queue) (depths : List ℕ) (distance k : ℕ) (old new : List ℕ) (c : ℕ) → c ≡ (at q k).0 → ¬ Among c (cols_of m) → PricesRise m q depths distance k old new → PricesRise m q depths distance (k + 1) old new
prices_keep m q depths distance k old new c is free h = record {
  long = h.long;
  up = λ i r lt pair. up i r lt pair (number_same i k);
  stay = λ r none. h.stay r (λ i lt. none i (omega arith));
  rise = h.rise;
}
  where
    up : (i r : ℕ) → i < k + 1 → Among (r, (at q i).0) m → (i ≡ k) ⊎ (i ≢ k) → slice_index new r + slice_index depths i ≡ slice_index old r + distance
    up i r lt pair (inl e) = absurd (free (subst (λ d. Among d (cols_of m)) (ap (λ j. (at q j).0) e ∙ sym is) (col_among r (at q i).0 m pair)))
    up i r lt pair (inr ne) = h.up i r (omega arith) pair

-- all have risen
pub all_raised : (w : Weighing) (top : ℕ) (prices duals prices2 duals2 : List ℕ) (m : List Place) (q : Queue) (depths : List ℕ) (distance k : ℕ) → k ≡ length q → DualsRise q depths distance k duals duals2 → PricesRise m q depths distance k prices prices2 → IsRaised (record { weighing = w; top = top; prices = prices; duals = duals }) (record { weighing = w; top = top; prices = prices2; duals = duals2 }) m (record { queue = q; depths = depths }) distance
all_raised w top prices duals prices2 duals2 m q depths distance k all o p = record {
  same = refl;
  top = refl;
  prices_are = p.long;
  duals_are = o.long;
  cols_up = λ i lt. o.up i (omega arith);
  rows_up = λ i r lt pair. p.up i r (omega arith) pair;
  cols_stay = λ c off. o.stay c (λ i lt e. off (subst (λ d. Among d (heads q)) e (head_at q i (omega arith))));
  rows_stay = λ r none. p.stay r (λ i lt pair. none i (omega arith) pair);
  rows_rise = p.rise;
}
