-- Full matchings and their prices, as they are answered.
use Rattle.std.proofs.Common.{◌≡◌, ◌∙◌, ℕ, ℤ, pos, ◌-ℤ◌, slice_index, ◌+◌, ◌<◌, ◌≤◌, List, length, map, ap, subst, arith, below_more}
use Rattle.std.proofs.lemmas.Int.{ints}
use Rattle.std.proofs.lemmas.List.{get_or-map, length-map}
use Rattle.bip_defs.specs.Bottleneck.{IsFull}
use Rattle.bip_defs.specs.Lists.{Among}
use Rattle.bip_defs.specs.Matching.{Covers, IsMatching, cols_of}
use Rattle.bip_defs.specs.Matrix.{IsEntry, Matrix, Place, cols, upto}
use Rattle.bip_defs.proofs.Full.{has_all_cols}
use Rattle.bip_defs.proofs.FullMatchings.{long_full}
use Rattle.bip_defs.proofs.Sets.{entry_col, few_distinct, rising_distinct, upto_length, upto_lists, upto_rising}
use Rattle.bip_graph.specs.Matching.{IsMatchingOf, Pairing}
use Rattle.integer_diagonal.proofs.Bounds.{pair_cheap}
use Rattle.integer_diagonal.proofs.Cheap.{cheap_entry}
use Rattle.integer_diagonal.specs.declared.assignment.Assignment.{Assignment}
use Rattle.integer_diagonal.specs.declared.path.PathSearch.{PathSearch}
use Rattle.integer_diagonal.specs.Mated.{AreMated, IsReady}
use Rattle.integer_diagonal.specs.Duals.{IsAssigned, IsAssignment, IsFeasible, Priced, cheap, dual}
use Rattle.integer_diagonal.specs.Prices.{AreFair, price}
use Rattle.sp_pattern.specs.Weights.{Weighing}

pub cheap_matching : (x : Priced) (m : List Place) → IsMatching (cheap x) m → IsMatching x.weighing.matrix m
cheap_matching x m k = record {
  entries = λ r c h. (cheap_entry x r c (k.entries r c h)).0;
  rows_differ = k.rows_differ;
  cols_differ = k.cols_differ;
}

pub matching_of : (x : Priced) (m : Pairing) → IsAssigned x m → IsMatchingOf x.weighing.matrix m
matching_of x m a = record { rows = a.rows_are; cols = a.cols_are; matching = cheap_matching x m.pairs a.matching }

-- an assignment with as many pairs as there are columns has them all
pub all_assigned : (x : Priced) (m : Pairing) (a : Matrix) → IsAssigned x m → x.weighing.matrix ≡ a → cols a ≤ length m.pairs → (c : ℕ) → c < cols a → Among c (cols_of m.pairs)
all_assigned x m a k same many = has_all_cols a m.pairs (subst (λ z. IsMatching z m.pairs) same (cheap_matching x m.pairs k.matching)) many

-- a matching of a square matrix that has all its columns
pub mated_full : (a : Matrix) (m : List Place) → a.rows ≡ cols a → IsMatching a m → ((c : ℕ) → c < cols a → Among c (cols_of m)) → IsFull a m
mated_full a m square k all = long_full a m square k (omega (arith, length-map m (λ (p : Place). p.1), upto_length 0 (cols a), few_distinct (upto (cols a)) (cols_of m) (rising_distinct (upto (cols a)) (upto_rising 0 (cols a))) (λ c h. all c ((upto_lists (cols a)).sound c h))))

-- the prices as they are answered
module _ (x : Priced) (u v : List ℤ) where
  row_price : u ≡ map (λ p. pos p -ℤ pos x.top) x.prices → (r : ℕ) → r < length x.prices → price u r ≡ pos (slice_index x.prices r) -ℤ pos x.top
  row_price e r lt = ap (λ (z : List ℤ). price z r) e ∙ get_or-map (λ p. pos p -ℤ pos x.top) x.prices r 0 (pos 0) lt

  col_price : v ≡ map (λ o. pos (x.top + x.top) -ℤ pos o) x.duals → (c : ℕ) → c < length x.duals → price v c ≡ pos (x.top + x.top) -ℤ pos (dual x c)
  col_price e c lt = ap (λ (z : List ℤ). price z c) e ∙ get_or-map (λ o. pos (x.top + x.top) -ℤ pos o) x.duals c 0 (pos 0) lt

  pub fair_prices : (m : List Place) → IsFeasible x → IsMatching (cheap x) m → u ≡ map (λ p. pos p -ℤ pos x.top) x.prices → v ≡ map (λ o. pos (x.top + x.top) -ℤ pos o) x.duals → AreFair x.weighing m u v
  fair_prices m f k eu ev = record {
    by_row = ap (λ (z : List ℤ). length z) eu ∙ length-map x.prices (λ p. pos p -ℤ pos x.top) ∙ f.prices_are;
    by_col = ap (λ (z : List ℤ). length z) ev ∙ length-map x.duals (λ o. pos (x.top + x.top) -ℤ pos o) ∙ f.duals_are;
    covers = λ r c e. (let (eru, ecv) = both r c e in let low = f.covers r c e in let small = f.small r c e in omega (arith, ints, eru, ecv, low, small));
    meets = λ r c h. (let e = (cheap_entry x r c (k.entries r c h)).0 in let met = pair_cheap x m r c k h in let (eru, ecv) = both r c e in let small = f.small r c e in omega (arith, ints, eru, ecv, met, small));
  }
    where
      both : (r c : ℕ) → IsEntry x.weighing.matrix r c → (price u r ≡ pos (slice_index x.prices r) -ℤ pos x.top) × (price v c ≡ pos (x.top + x.top) -ℤ pos (dual x c))
      both r c e = (row_price eu r (let in_rows = e.0 in let long = f.prices_are in omega (arith, in_rows, long)), col_price ev c (let in_cols = entry_col x.weighing.matrix r c e in let long = f.duals_are in omega (arith, in_cols, long)))

pub mated_same : {W : Type 0} (w : Weighing) (a : Assignment W) (p : PathSearch W) (n : ℕ) → AreMated w a p n → Among n (cols_of a.matching.pairs) → AreMated w a p (n + 1)
mated_same w a p n k on = record { assignment = k.assignment; ready = k.ready; done = below_more (λ c. Among c (cols_of a.matching.pairs)) n k.done on }

pub mated_next : {W : Type 0} (w : Weighing) (a b : Assignment W) (p q : PathSearch W) (n : ℕ) → AreMated w a p n → IsAssignment w b → Covers a.matching.pairs b.matching.pairs → Among n (cols_of b.matching.pairs) × IsReady w.matrix q → AreMated w b q (n + 1)
mated_next w a b p q n k assignment covered found = record { assignment = assignment; ready = found.1; done = below_more (λ c. Among c (cols_of b.matching.pairs)) n (λ c lt. covered.cols c (k.done c lt)) found.0 }
