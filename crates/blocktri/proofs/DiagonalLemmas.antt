-- What the diagonals' answers and refusals rest on.
use Rattle.std.proofs.Common.{◌≡◌, ◌≢◌, ◌∙◌, ℕ, ℤ, Bool, true, false, ◌-◌, ◌<◌, ◌≤◌, ◌^◌, List, Result, Ok, Err, IsErrAnd, length, get_or, take, sym, ap, arith, subst, take_all, map, inl, inr}
use Rattle.std.proofs.lemmas.List.{map-id}
use Rattle.bip_defs.specs.Bottleneck.{IsBest, IsFull, IsSingular}
use Rattle.bip_defs.specs.Lists.{Among}
use Rattle.bip_defs.specs.Matrix.{Matrix, Place, cols}
use Rattle.bip_defs.proofs.Full.{few_below}
use Rattle.bip_defs.proofs.Sets.{col_pair, entry_col, rising_distinct}
use Rattle.bip_defs.proofs.BottleneckLemmas.{full_length, above_cols}
use Rattle.bip_graph.specs.Matching.{none}
use Rattle.blocktri.specs.Answers.{AreRowsOf}
use Rattle.blocktri.specs.Compressed.{AreCompressed, CompressedLists, IsRoom, column_count, listed, matrix_given, pick, transpose_if}
use Rattle.blocktri.specs.DiagonalCauses.{IsDiagonalRefusal, IsSquareSingular, RefusesDiagonalRightly}
use Rattle.blocktri.specs.declared.diagonal_refusals.DiagonalRefusal.{DiagonalRefusal}
use Rattle.blocktri.specs.declared.diagonal_refusals.DiagonalRefusal.TheVariants.{Lists, SumLimit, NotSquare, Singular, PriceLimit}
use Rattle.blocktri.specs.declared.refusals.Refusal.TheVariants.{Columns, Lengths}
use Rattle.blocktri.specs.Weighted.{WeightedLists}
use Rattle.blocktri.specs.PerfectMatchings.{HasNoPerfectMatching}
use Rattle.blocktri.specs.Written.{IsPut}
use Rattle.blocktri.proofs.CompressedLemmas.{given_cols, listed_cols}
use Rattle.integer_diagonal.specs.Heaviest.{IsHeaviestDiagonal}
use Rattle.sp_pattern.specs.Weights.{Weighing}

-- Where there is no perfect matching.

singular_none : (a : Matrix) (rank : ℕ) (hall : List ℕ) → IsSingular a rank hall → HasNoPerfectMatching a
singular_none a rank hall s m full =
    let (o, max, size) = s.is_rank in
    let columns = full_length a m full in
    let most = max.longest m full.matching in
    let below = s.below in
    omega (arith, columns, most, size, below)

pub square_singular : (a : Matrix) (rank : ℕ) (hall : List ℕ) → IsSingular a rank hall → IsSquareSingular a
square_singular a rank hall s = record { square = s.square; none = singular_none a rank hall s }

-- Where the lengths are right.

pub refusal_fit : {Fit : Type 0} {Large More : Weighing → Type 0} (m : WeightedLists) (e : DiagonalRefusal) → Fit → ((w : Weighing) → Large w → More w) → IsDiagonalRefusal (Unit {0}) Large m e → IsDiagonalRefusal Fit More m e
refusal_fit m (Lists Lengths) fit more h = absurd (h tt)
refusal_fit m (Lists (Columns error)) fit more h = (fit, h.1)
refusal_fit m (SumLimit at) fit more h = (fit, h.1, h.2)
refusal_fit m NotSquare fit more h = (fit, h.1)
refusal_fit m Singular fit more h = (fit, h.1)
refusal_fit m PriceLimit fit more h = (fit, record { compressed = h.1.compressed; weighing = h.1.weighing; weights = h.1.weights; holds = more h.1.weighing h.1.holds })

-- a refusal that is handed on
pub refused_on : {S : Type 0} (Fit : Type 0) (Large : Weighing → Type 0) (m : WeightedLists) (result : Result S DiagonalRefusal) (e : DiagonalRefusal) → IsErrAnd result (λ r. r ≡ e) → IsDiagonalRefusal Fit Large m e → RefusesDiagonalRightly Fit Large m result
refused_on Fit Large m (Ok s) e is cause = absurd is
refused_on Fit Large m (Err r) e is cause = record { fit = tt; cause = rw is cause }

-- A perfect matching that is written.

-- a list that is wanted has room for all
pub room_full : {X : Type 0} (xs : List X) (n : ℕ) → IsRoom n xs → length xs ≢ 0 → length xs ≡ n
room_full xs n (inl empty) wanted = absurd (wanted empty)
room_full xs n (inr full) wanted = full

pub given_few_rows : (l : CompressedLists) → AreCompressed l → (matrix_given l).rows < 2 ^ 32
given_few_rows l are = by l.by_rows
  where
    by : (b : Bool) → (transpose_if b (listed l)).rows < 2 ^ 32
    by true = let wide = listed_cols l in let few = are.few_starts in let some = are.starts_are.one in omega (arith, wide, few, some)
    by false = are.few_rows

pub given_few_cols : (l : CompressedLists) → AreCompressed l → column_count l < 2 ^ 32
given_few_cols l are = by l.by_rows
  where
    by : (b : Bool) → pick b l.others (length l.starts - 1) < 2 ^ 32
    by true = are.few_rows
    by false = let few = are.few_starts in let some = are.starts_are.one in omega (arith, few, some)

-- the matrix that is given is as wide as a list with room for each of its columns
pub full_fits : (l : CompressedLists) (a : Matrix) (m : List Place) (xs : List ℕ) → AreCompressed l → a ≡ matrix_given l → IsFull a m → IsRoom (column_count l) xs → (b : Matrix) × IsFull b m × IsRoom (cols b) xs × (b.rows < 2 ^ 32)
full_fits l a m xs are is full room = (a, full, subst (λ n. IsRoom n xs) (sym (ap cols is ∙ given_cols l)) room, let same = ap (λ (b : Matrix). b.rows) is in let few = given_few_rows l are in omega (arith, same, few))

-- all pairs are written
pub pairs_rows : (a : Matrix) (m : List Place) (k : ℕ) (old new : List ℕ) → IsFull a m → length old ≡ cols a → a.rows < 2 ^ 32 → length new ≡ length old → length m ≤ k → ((q : Place) → Among q (take k m) → get_or new q.1 0 ≡ q.0) → AreRowsOf m new
pairs_rows a m k old new full wide few long end set r c = (
  λ (h : Among (r, c) m). (let lt = entry_col a r c (full.matching.entries r c h) in omega (arith, lt, wide, long), written r c h, λ (e : r ≡ none). let lt = (full.matching.entries r c h).0 in omega (arith, lt, few, e)),
  λ (told : (c < length new) × (get_or new c 0 ≡ r) × (r ≢ none)). let (s, h) = col_pair c m (full.all_cols c (let lt = told.0 in omega (arith, lt, wide, long))) in subst (λ x. Among {X = Place} (x, c) m) (sym (written s c h) ∙ told.1) h,
)
  where
    written : (r c : ℕ) → Among (r, c) m → get_or new c 0 ≡ r
    written r c h = set (r, c) (subst (Among {X = Place} (r, c)) (sym (take_all k m end)) h)

-- The columns that show a bottleneck.

pub hall_few : (a : Matrix) (weight : ℕ → ℕ → ℕ) (m : List Place) (least : ℕ) (hall : List ℕ) → IsBest a weight m least hall → length hall ≤ cols a
hall_few a weight m least hall best = few_below (cols a) hall (rising_distinct hall best.horizontal.rising) (λ c h. let lt = (best.horizontal.sound c h).0 in omega (arith, lt, above_cols a weight least))

-- A list that is written from its first place on.

pub put_same : (xs slice old new : List ℕ) → slice ≡ xs → IsPut 0 (map (λ (x : ℕ). x) slice) old new → IsPut 0 xs old new
put_same xs slice old new e put = subst (λ ys. IsPut 0 ys old new) (map-id slice ∙ e) put

-- A heaviest diagonal whose sum is written.

pub sum_written : (w : Weighing) (m : List Place) (u v : List ℤ) (sum s : ℤ) → s ≡ sum → IsHeaviestDiagonal w m u v sum → IsHeaviestDiagonal w m u v s
sum_written w m u v sum s h d = subst (λ z. IsHeaviestDiagonal w m u v z) (sym h) d
