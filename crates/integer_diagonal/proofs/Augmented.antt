-- After a search, raised prices and an exchanged path.
use Rattle.std.proofs.Common.{◌≡◌, ◌≢◌, ◌⊎◌, ◌∙◌, ℕ, slice_index, ◌+◌, ◌*◌, ◌<◌, ◌≤◌, List, length, sym, ap, subst, inl, inr, ⊎_elim, arith}
use Rattle.bip_defs.specs.Lists.{Among}
use Rattle.bip_defs.specs.Matching.{Covers, IsMatching, cols_of, rows_of}
use Rattle.bip_defs.specs.Matrix.{Place, cols}
use Rattle.bip_defs.proofs.Sets.{col_among, col_pair, is_among, number_same, one_col, row_among, row_pair}
use Rattle.integer_diagonal.proofs.Bounds.{pair_cheap, places_add, reached_near, within_all}
use Rattle.integer_diagonal.specs.Duals.{IsBounded, Priced, cheap, cost, dual, most}
use Rattle.sp_pattern.specs.Weights.{Weighing}
use Rattle.integer_diagonal.specs.SearchTree.{IsGrown, IsNearest, IsRaised, Reaches, Tree, depth, stop}
use Rattle.bip_defs.specs.Queues.{at, heads}
use Rattle.bip_defs.proofs.Queues.{head_at, place_of}

-- a distance is not large
pub distance_small : (x : Priced) (m : List Place) (root : ℕ) (t : Tree) (r p d : ℕ) → IsMatching (cheap x) m → IsBounded x m → IsGrown x m root t → IsNearest x m t r p d → d ≤ x.top + cols x.weighing.matrix * x.top
distance_small x m root t r p d k b g n =
    let near = reached_near x m root t r p d k g n.reaches in
    let low = b.free_rows r n.free in
    let part = places_add x m root t p g n.reaches.within in
    omega (arith, near, low, part)

-- each dual variable is in range
pub dual_small : (x : Priced) (m : List Place) (c : ℕ) → IsMatching (cheap x) m → IsBounded x m → dual x c ≤ most x + x.top
dual_small x m c k b = by (is_among number_same c (cols_of m))
  where
    by : Among c (cols_of m) ⊎ (¬ Among c (cols_of m)) → dual x c ≤ most x + x.top
    by (inr free) = let low = b.free_cols c free in omega (arith, low)
    by (inl on) =
        let (r, pair) = col_pair c m on in
        let met = pair_cheap x m r c k pair in
        let low = b.prices r in
        let one : cost x.top x.weighing r c ≤ x.top = omega arith in
        omega (arith, met, low, one)

module _ (x y : Priced) (m n : List Place) (root : ℕ) (t : Tree) (row place distance : ℕ) where
  pub bounded_next : IsMatching (cheap x) m → IsBounded x m → IsGrown x m root t → IsNearest x m t row place distance → IsRaised x y m t distance → Covers m n → Among root (cols_of n) → IsBounded y n
  bounded_next k b g best u covered on_root = record {
    free_rows = λ r free. (let same = u.rows_stay r (λ i lt pair. free (covered.rows r (row_among r (stop t i) m pair))) in let low = b.free_rows r (λ on. free (covered.rows r on)) in omega (arith, same, low, u.top));
    free_cols = λ c free. (let same = u.cols_stay c (off c free) in let low = b.free_cols c (λ on. free (covered.cols c on)) in omega (arith, same, low, u.top));
    prices = λ r. subst (λ n. slice_index y.prices r ≤ n) (sym most_same) (price r (is_among number_same r (rows_of m)));
  }
    where
      most_same : most y ≡ most x
      most_same = ap (λ (w : Weighing). 2 * (cols w.matrix * y.top) + 2 * y.top) u.same ∙ ap (λ n. 2 * (cols x.weighing.matrix * n) + 2 * n) u.top

      off : (c : ℕ) → ¬ Among c (cols_of n) → ¬ Among c (heads t.queue)
      off c free h = by (place_of t.queue c h)
        where
          by : (i : ℕ) × (i < length t.queue) × (stop t i ≡ c) → ⊥
          by (i, lt, e) = ⊎_elim (λ (z : i ≡ 0). free (subst (λ y. Among y (cols_of n)) (sym (ap (stop t) z ∙ g.starts) ∙ e) on_root)) (λ (nz : i ≢ 0). mated i lt e (g.led i (omega arith) lt)) (number_same i 0)
            where
              mated : (i : ℕ) → i < length t.queue → stop t i ≡ c → (r : ℕ) × Among (r, stop t i) m × ((at t.queue i).1 < i) × Reaches x t r (at t.queue i).1 (depth t i) → ⊥
              mated i lt e (r, pair, earlier, way) = free (covered.cols c (subst (λ y. Among y (cols_of m)) e (col_among r (stop t i) m pair)))

      price : (r : ℕ) → Among r (rows_of m) ⊎ (¬ Among r (rows_of m)) → slice_index y.prices r ≤ most x
      price r (inr free) = let same = u.rows_stay r (λ i lt pair. free (row_among r (stop t i) m pair)) in let low = b.prices r in omega (arith, same, low)
      price r (inl on) = mated (row_pair r m on)
        where
          mated : (c : ℕ) × Among (r, c) m → slice_index y.prices r ≤ most x
          mated (c, pair) = by (is_among number_same c (heads t.queue))
            where
              by : Among c (heads t.queue) ⊎ (¬ Among c (heads t.queue)) → slice_index y.prices r ≤ most x
              by (inr far_off) =
                  let same = u.rows_stay r (λ i lt also. far_off (subst (λ d. Among d (heads t.queue)) (one_col m k.rows_differ r (stop t i) c also pair) (head_at t.queue i lt))) in
                  let low = b.prices r in
                  omega (arith, same, low)
              by (inl h) =
                  let (i, lt, e) = place_of t.queue c h in
                  let here = subst (λ d. Among {X = Place} (r, d) m) (sym e) pair in
                  let up = u.rows_up i r lt here in
                  let met = pair_cheap x m r (stop t i) k here in
                  let within = (within_all x m root t k g i lt).low in
                  let begin = ap (dual x) g.starts in
                  let free = b.free_cols root g.free in
                  let small = distance_small x m root t row place distance k b g best in
                  let part = places_add x m root t i g lt in
                  omega (arith, up, met, within, begin, free, small, part)
