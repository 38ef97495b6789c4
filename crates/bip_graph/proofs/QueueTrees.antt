-- Trees that are kept as a queue of columns.
use Rattle.std.proofs.Common.{◌≡◌, ◌⊎◌, ◌∙◌, ℕ, zero, suc, ◌<◌, List, length, refl, sym, ap, subst, inl, inr, ⊎_elim, arith}
use Rattle.bip_defs.specs.Lists.{Among, AreDistinct, IsRising}
use Rattle.bip_defs.specs.Matching.{cols_of, rows_of}
use Rattle.bip_defs.specs.Matrix.{Place}
use Rattle.bip_defs.specs.Queues.{Queue, at}
use Rattle.bip_defs.proofs.Queues.{one_place}
use Rattle.bip_defs.proofs.Sets.{among_map, col_among, col_pair, number_among, one_col, place_among, rising_distinct}
use Rattle.bip_graph.specs.Matching.{Pairing}
use Rattle.bip_graph.specs.Parents.{AreTrees, HasDepth, IsQueue, IsReachedIn, IsTraced, child, root}

pub queue_trees : (m : Pairing) (q : Queue) → AreDistinct (rows_of m.pairs) → IsRising (cols_of m.pairs) → IsQueue m q → AreTrees m.pairs (IsReachedIn m.pairs q)
queue_trees m q rows cols k = record {
  rows_differ = rows;
  cols_differ = rising_distinct (cols_of m.pairs) cols;
  one_parent = λ r c d (i, in_i, p, before, e) (j, in_j, s, earlier, f). sym e ∙ ap (λ n. (at q (at q n).1).0) (one_place q i j k.distinct in_i in_j (one_col m.pairs rows r (at q i).0 (at q j).0 p s)) ∙ f;
}

-- the column at each place has a depth
pub queue_depth : (m : Pairing) (q : Queue) (i : ℕ) → IsQueue m q → i < length q → (n : ℕ) × HasDepth m.pairs (IsReachedIn m.pairs q) (at q i).0 n
queue_depth m q i k lt = below (suc i) i (omega arith) lt
  where
    below : (bound j : ℕ) → j < bound → j < length q → (n : ℕ) × HasDepth m.pairs (IsReachedIn m.pairs q) (at q j).0 n
    below zero j lt within = absurd (omega arith)
    below (suc bound) j lt within = ⊎_elim (λ h. step (below bound (at q j).1 (let e = k.earlier j within h in omega arith) (let e = k.earlier j within h in omega arith)) h) (λ free. (0, root free)) (number_among (at q j).0 (cols_of m.pairs))
      where
        step : ((n : ℕ) × HasDepth m.pairs (IsReachedIn m.pairs q) (at q (at q j).1).0 n) → Among (at q j).0 (cols_of m.pairs) → (n : ℕ) × HasDepth m.pairs (IsReachedIn m.pairs q) (at q j).0 n
        step (n, deep) h = let (r, p) = col_pair (at q j).0 m.pairs h in (suc n, child r p (j, within, p, k.earlier j within h, refl) deep)

-- a matched column of the queue, and its parent
pub queue_parent : (m : Pairing) (q : Queue) (x : ℕ × ℕ) (r : ℕ) → IsQueue m q → Among x q → Among (r, x.0) m.pairs → (x.1 < length q) × IsReachedIn m.pairs q r (at q x.1).0
queue_parent m q x r k h pair =
    let (i, lt, e) = place_among x (0, 0) q h in
    let p : Among {X = Place} (r, (at q i).0) m.pairs = subst (λ (z : ℕ × ℕ). Among {X = Place} (r, z.0) m.pairs) (sym e) pair in
    let before = k.earlier i lt (col_among r (at q i).0 m.pairs p) in
    subst (λ (z : ℕ × ℕ). (z.1 < length q) × IsReachedIn m.pairs q r (at q z.1).0) e (omega arith, (i, lt, p, before, refl))

pub queue_col : (m : Pairing) (q : Queue) (x : ℕ × ℕ) → IsQueue m q → Among x q → x.0 < m.cols
queue_col m q x k h = k.in_range x.0 (among_map (λ (p : ℕ × ℕ). p.0) x q h)

pub queue_traced : (m : List Place) (q : Queue) (leaf c : ℕ) (p : Place) → IsTraced m (IsReachedIn m q) leaf c p → (p ≡ (leaf, c)) ⊎ IsReachedIn m q p.0 p.1
queue_traced m q leaf c p t = ⊎_elim (λ e. inl e) (λ (d, above, pair, up). inr up) t
