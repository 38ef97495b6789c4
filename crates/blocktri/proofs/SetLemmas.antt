-- Lists that are set pair by pair.
use Rattle.std.proofs.Common.{◌≡◌, ◌≢◌, ◌⊎◌, ◌∙◌, ℕ, ◌+◌, ◌<◌, ◌≤◌, List, length, get_or, set, take, sym, ap, subst, take_all, inl, inr, get_or-set_same, get_or-set_other}
use Rattle.bip_defs.specs.Lists.{Among, AreDistinct}
use Rattle.bip_defs.specs.Matching.{cols_of, rows_of}
use Rattle.bip_defs.specs.Matrix.{Place}
use Rattle.bip_defs.proofs.Sets.{among_take, number_same, one_col, one_row}
use Rattle.bip_defs.proofs.Slices.{each_more, read_among}

pub set_each : {X : Type 0} (d : X) (key : Place → ℕ) (of : Place → X) (m : List Place) (k : ℕ) (p : Place) (out : List X) → ((q s : Place) → Among q m → Among s m → key q ≡ key s → of q ≡ of s)
    → k < length m → p ≡ get_or m k p → key p < length out → ((q : Place) → Among q (take k m) → get_or out (key q) d ≡ of q) → (q : Place) → Among q (take (k + 1) m) → get_or (set out (key p) (of p)) (key q) d ≡ of q
set_each d key of m k p out one lt is inside was = each_more (λ q. get_or (set out (key p) (of p)) (key q) d ≡ of q) m k p lt is (λ q h. by q h (number_same (key q) (key p))) (get_or-set_same out (key p) (of p) d inside)
  where
    by : (q : Place) → Among q (take k m) → (key q ≡ key p) ⊎ (key q ≢ key p) → get_or (set out (key p) (of p)) (key q) d ≡ of q
    by q h (inl e) = ap (λ i. get_or (set out (key p) (of p)) i d) e ∙ get_or-set_same out (key p) (of p) d inside ∙ sym (one q p (among_take k q m h) (read_among p m k lt is) e)
    by q h (inr ne) = get_or-set_other out (key p) (key q) (of p) d ne ∙ was q h

pub set_each_at : {X : Type 0} (d : X) (key : Place → ℕ) (of : Place → X) (m : List Place) (k : ℕ) (p : Place) (out : List X) (at : ℕ) (v : X) → ((q s : Place) → Among q m → Among s m → key q ≡ key s → of q ≡ of s)
    → k < length m → p ≡ get_or m k p → at < length out → ((q : Place) → Among q (take k m) → get_or out (key q) d ≡ of q) → at ≡ key p → v ≡ of p → (q : Place) → Among q (take (k + 1) m) → get_or (set out at v) (key q) d ≡ of q
set_each_at d key of m k p out at v one lt is inside was e f q h = (λ i. get_or (set out (e i) (f i)) (key q) d) ∙ set_each d key of m k p out one lt is (subst (λ i. i < length out) e inside) was q h

pub set_all : {X : Type 0} (d : X) (key : Place → ℕ) (of : Place → X) (m : List Place) (k : ℕ) (out : List X) → length m ≤ k → ((q : Place) → Among q (take k m) → get_or out (key q) d ≡ of q) → (q : Place) → Among q m → get_or out (key q) d ≡ of q
set_all d key of m k out end was q h = was q (subst (Among q) (sym (take_all k m end)) h)

-- pairs of one row are one pair
pub by_row : {X : Type 0} (of : Place → X) (m : List Place) → AreDistinct (rows_of m) → (q s : Place) → Among q m → Among s m → q.0 ≡ s.0 → of q ≡ of s
by_row of m differ q s h g e = let f = one_col m differ s.0 q.1 s.1 (subst (λ r. Among {X = Place} (r, q.1) m) e h) g in λ i. of (e i, f i)

-- pairs of one column are one pair
pub by_col : {X : Type 0} (of : Place → X) (m : List Place) → AreDistinct (cols_of m) → (q s : Place) → Among q m → Among s m → q.1 ≡ s.1 → of q ≡ of s
by_col of m differ q s h g e = let f = one_row m differ q.0 s.0 s.1 (subst (λ c. Among {X = Place} (q.0, c) m) e h) g in λ i. of (f i, e i)
