-- Prices and dual variables that are raised after a search are feasible, and meet on the matching and along the search.
use Rattle.std.proofs.Common.{◌≡◌, ◌⊎◌, ◌∙◌, ℕ, ◌+◌, ◌<◌, ◌≤◌, List, length, sym, subst, inl, inr, arith}
use Rattle.bip_defs.specs.Lists.{Among, AreDistinct}
use Rattle.bip_defs.specs.Matching.{IsMatching, cols_of}
use Rattle.bip_defs.specs.Matrix.{IsEntry, Place}
use Rattle.bip_defs.proofs.Sets.{is_among, number_same, one_col, one_row, row_among}
use Rattle.bip_graph.specs.Parents.{IsReachedIn}
use Rattle.integer_diagonal.proofs.Cheap.{cheap_entry, entry_cheap}
use Rattle.integer_diagonal.specs.Duals.{IsFeasible, Priced, cheap, dual, paid}
use Rattle.integer_diagonal.specs.SearchTree.{IsGrown, IsNearest, IsRaised, IsSearched, IsTaken, Tree, depth, stop}
use Rattle.sp_pattern.specs.Weights.{Weighing}
use Rattle.bip_defs.specs.Queues.{at, heads}
use Rattle.bip_defs.proofs.Queues.{head_at, place_of}

module _ (w : Weighing) (top : ℕ) (prices duals prices2 duals2 : List ℕ) (m : List Place) (root : ℕ) (t : Tree) (distance : ℕ) where
  abbrev pub x : Priced
  x = record { weighing = w; top = top; prices = prices; duals = duals }

  abbrev pub y : Priced
  y = record { weighing = w; top = top; prices = prices2; duals = duals2 }

  pub raised_feasible : IsFeasible x → IsGrown x m root t → IsSearched x m t distance → IsRaised x y m t distance → IsFeasible y
  raised_feasible f g s u = record {
    prices_are = u.prices_are ∙ f.prices_are;
    duals_are = u.duals_are ∙ f.duals_are;
    small = f.small;
    covers = λ r c e. covers r c e (is_among number_same c (heads t.queue));
  }
    where
      at_place : (i r : ℕ) → i < length t.queue → IsTaken x m t i r ⊎ (distance + dual x (stop t i) ≤ depth t i + paid x r (stop t i)) → dual y (stop t i) ≤ paid y r (stop t i)
      at_place i r lt (inl (j, above, within, pair, le)) =
          let up = u.rows_up j r within pair in
          let also = u.cols_up i lt in
          let one = s.depths i lt in
          let two = s.depths j within in
          omega (arith, up, also, le, one, two)
      at_place i r lt (inr le) =
          let rise = u.rows_rise r in
          let also = u.cols_up i lt in
          omega (arith, rise, also, le)

      covers : (r c : ℕ) → IsEntry w.matrix r c → Among c (heads t.queue) ⊎ (¬ Among c (heads t.queue)) → dual y c ≤ paid y r c
      covers r c e (inl on) =
          let (i, lt, is) = place_of t.queue c on in
          subst (λ d. dual y d ≤ paid y r d) is (at_place i r lt (s.closed i r lt (subst (IsEntry w.matrix r) (sym is) e)))
      covers r c e (inr off) =
          let stay = u.cols_stay c off in
          let rise = u.rows_rise r in
          let old = f.covers r c e in
          omega (arith, stay, rise, old)

  pub raised_matching : IsMatching (cheap x) m → IsGrown x m root t → IsSearched x m t distance → IsRaised x y m t distance → IsMatching (cheap y) m
  raised_matching k g s u = record {
    entries = λ r c h. let (e, is) = cheap_entry x r c (k.entries r c h) in entry_cheap y r c e (met r c h is (is_among number_same c (heads t.queue)));
    rows_differ = k.rows_differ;
    cols_differ = k.cols_differ;
  }
    where
      met : (r c : ℕ) → Among (r, c) m → paid x r c ≡ dual x c → Among c (heads t.queue) ⊎ (¬ Among c (heads t.queue)) → paid y r c ≡ dual y c
      met r c h is (inl on) =
          let (i, lt, e) = place_of t.queue c on in
          let row = u.rows_up i r lt (subst (λ d. Among {X = Place} (r, d) m) (sym e) h) in
          let col : dual y c + depth t i ≡ dual x c + distance = subst (λ d. dual y d + depth t i ≡ dual x d + distance) e (u.cols_up i lt) in
          omega (arith, row, col, is)
      met r c h is (inr off) =
          let row = u.rows_stay r (λ i lt pair. off (subst (λ d. Among d (heads t.queue)) (one_col m k.rows_differ r (stop t i) c pair h) (head_at t.queue i lt))) in
          let col = u.cols_stay c off in
          omega (arith, row, col, is)

  -- the search went over entries that are cheap now
  pub raised_entry : (r c : ℕ) → AreDistinct (cols_of m) → IsGrown x m root t → IsRaised x y m t distance → IsReachedIn m t.queue r c → IsEntry (cheap y) r c
  raised_entry r c differ g u (i, lt, pair, before, is) =
      let (s, also, earlier, reaches) = g.led i (omega arith) lt in
      let row = u.rows_up i s lt also in
      let col = u.cols_up (at t.queue i).1 reaches.within in
      let long = reaches.long in
      let entry = entry_cheap y s (stop t (at t.queue i).1) reaches.entry (omega (arith, row, col, long)) in
      subst (λ d. IsEntry (cheap y) r d) is (subst (λ z. IsEntry (cheap y) z (stop t (at t.queue i).1)) (one_row m differ s r (stop t i) also pair) entry)

  pub raised_end : (r p : ℕ) → IsNearest x m t r p distance → IsRaised x y m t distance → IsEntry (cheap y) r (stop t p)
  raised_end r p n u =
      let row = u.rows_stay r (λ i lt pair. n.free (row_among r (stop t i) m pair)) in
      let col = u.cols_up p n.reaches.within in
      let long = n.reaches.long in
      entry_cheap y r (stop t p) n.reaches.entry (omega (arith, row, col, long))
