-- A search that finds no unmatched row shows that there is no full matching.
use Rattle.std.proofs.Common.{◌≡◌, ℕ, List, sym, subst, ⊎_elim, arith}
use Rattle.bip_defs.specs.Lists.{Among, AreDistinct}
use Rattle.bip_defs.specs.Matching.{cols_of, rows_of}
use Rattle.bip_defs.specs.Matrix.{IsEntry, Place}
use Rattle.bip_defs.proofs.Sets.{Drops, col_among, col_pair, drops_kept, drops_length, one_col, one_row, pigeonhole, taken}
use Rattle.integer_diagonal.specs.Duals.{Priced}
use Rattle.bip_defs.specs.Bottleneck.{IsFull}
use Rattle.integer_diagonal.specs.SearchTree.{IsGrown, IsStuck, Tree, stop}
use Rattle.bip_defs.specs.Queues.{heads}
use Rattle.bip_defs.proofs.Queues.{head_at, place_of}

-- the columns have fewer neighbours than they are
pub stuck_not_full : (x : Priced) (m other : List Place) (root : ℕ) (t : Tree) → AreDistinct (rows_of m) → AreDistinct (cols_of m) → IsGrown x m root t → IsStuck x m t → IsFull x.weighing.matrix other → ⊥
stuck_not_full x m other root t rows columns g s full =
    let root_on : Among root (heads t.queue) = subst (λ c. Among c (heads t.queue)) g.starts (head_at t.queue 0 g.some) in
    let (rest, d) = taken root (heads t.queue) root_on in
    let few = pigeonhole Meets one (heads t.queue) rest g.distinct (λ c h. into rest d c h) in
    let long = drops_length d in
    omega (arith, few, long)
  where
    -- the row that the full matching gives to the one column is the mate of the other
    Meets : ℕ → ℕ → Type 0
    Meets c e = (r : ℕ) × Among (r, c) other × Among (r, e) m

    one : (c d : ℕ) (e : ℕ) → Meets c e → Meets d e → c ≡ d
    one c d e (r, p, k) (s, q, l) =
        let same : r ≡ s = one_row m columns r s e k l in
        one_col other full.matching.rows_differ s c d (subst (λ y. Among {X = Place} (y, c) other) same p) q

    into : (rest : List ℕ) → Drops root (heads t.queue) rest → (c : ℕ) → Among c (heads t.queue) → (e : ℕ) × Among e rest × Meets c e
    into rest d c h =
        let (i, lt, e) = place_of t.queue c h in
        let (r, p) = col_pair c other (full.all_cols c (g.in_range c h)) in
        let (j, above, within, pair) = s i r lt (subst (IsEntry x.weighing.matrix r) (sym e) (full.matching.entries r c p)) in
        (stop t j, ⊎_elim (λ (f : stop t j ≡ root). absurd (g.free (subst (λ y. Among y (cols_of m)) f (col_among r (stop t j) m pair)))) (λ k. k) (drops_kept d (stop t j) (head_at t.queue j within)), (r, p, pair))
