-- Matchings of the entries above a weight.
use Rattle.std.proofs.Common.{◌≡◌, ◌⊎◌, ◌∙◌, ℕ, ◌+◌, ◌<◌, List, sym, ap, subst, ⊎_elim, arith}
use Rattle.bip_defs.specs.Bottleneck.{above}
use Rattle.bip_defs.specs.Lists.{Among, AreDistinct}
use Rattle.bip_defs.specs.Matching.{IsMatching, cols_of, rows_of}
use Rattle.bip_defs.specs.Matrix.{IsEntry, Matrix, Place, cols}
use Rattle.bip_defs.proofs.BottleneckLemmas.{above_over, above_cols}
use Rattle.bip_defs.proofs.Sets.{col_pair, one_col, row_pair}
use Rattle.bip_graph.specs.Matching.{IsMatchingOf, Pairing}

-- a matching above a weight is one of the matrix
pub lowered : (a b : Matrix) (weight : ℕ → ℕ → ℕ) (least : ℕ) (m : Pairing) → b ≡ above a weight least → IsMatchingOf b m → IsMatchingOf a m
lowered a b weight least m is k = record {
  rows = k.rows ∙ ap (λ (z : Matrix). z.rows) is;
  cols = k.cols ∙ ap cols is ∙ above_cols a weight least;
  matching = record {
    entries = λ r c h. (above_over a weight least r c (subst (λ (z : Matrix). IsEntry z r c) is (k.matching.entries r c h))).0;
    rows_differ = k.matching.rows_differ;
    cols_differ = k.matching.cols_differ;
  };
}

-- and its pairs are heavier
pub heavier_pairs : (a b : Matrix) (weight : ℕ → ℕ → ℕ) (least : ℕ) (m : List Place) → b ≡ above a weight least → IsMatching b m → (r c : ℕ) → Among (r, c) m → least < weight r c
heavier_pairs a b weight least m is k r c h = (above_over a weight least r c (subst (λ (z : Matrix). IsEntry z r c) is (k.entries r c h))).1

-- The pairs that are left.

pub record AreLeft (a : Matrix) (m left : Pairing) (n : ℕ) : Type 0 where
  pub matching : IsMatchingOf a left
  pub part : (r c : ℕ) → Among (r, c) left.pairs → Among (r, c) m.pairs × (c < n)

pub left_row_free : (a : Matrix) (m left : Pairing) (r n : ℕ) → AreDistinct (rows_of m.pairs) → AreLeft a m left n → Among (r, n) m.pairs → ¬ Among r (rows_of left.pairs)
left_row_free a m left r n distinct l h g =
    let (c, k) = row_pair r left.pairs g in
    let on = l.part r c k in
    let same : c ≡ n = one_col m.pairs distinct r c n on.0 h in
    absurd (let lt = on.1 in omega (arith, same, lt))

pub left_col_free : (a : Matrix) (m left : Pairing) (n : ℕ) → AreLeft a m left n → ¬ Among n (cols_of left.pairs)
left_col_free a m left n l g =
    let (r, k) = col_pair n left.pairs g in
    absurd (let lt = (l.part r n k).1 in omega (arith, lt))

pub left_more : (a : Matrix) (m left new : Pairing) (r n : ℕ) → AreLeft a m left n → Among (r, n) m.pairs → IsMatchingOf a new → ((p : Place) → Among p new.pairs → (p ≡ (r, n)) ⊎ Among p left.pairs) → AreLeft a m new (n + 1)
left_more a m left new r n l h k added = record {
  matching = k;
  part = λ s c g. ⊎_elim (λ (e : (s, c) ≡ (r, n)). (subst (λ (p : Place). Among p m.pairs) (sym e) h, let same = ap (λ (p : Place). p.1) e in omega (arith, same))) (λ (o : Among (s, c) left.pairs). let on = l.part s c o in (on.0, let lt = on.1 in omega (arith, lt))) (added (s, c) g);
}

pub left_same : (a : Matrix) (m left : Pairing) (n : ℕ) → AreLeft a m left n → AreLeft a m left (n + 1)
left_same a m left n l = record { matching = l.matching; part = λ r c h. let on = l.part r c h in (on.0, let lt = on.1 in omega (arith, lt)) }
