-- Prices that are raised as entries ask, and fair at the end.
use Rattle.std.proofs.Common.{Bool, IsTrue, true, false, true≢false, of_z, to_z, ◌≡◌, ◌≢◌, ◌⊎◌, ◌∙◌, ℕ, ℤ, pos, ◌+◌, ◌+ℤ◌, ◌-ℤ◌, ◌<ℤ◌, ◌≤ℤ◌, ◌<◌, ◌≤◌, List, length, get_or, set, refl, sym, ap, arith, subst, inl, inr, FitsSigned, length-set, get_or-set_same, get_or-set_other}
use Rattle.std.specs.Int.{w64, w128}
use Rattle.std.specs.Int.RustNames.{unsigned_abs}
use Rattle.std.proofs.Math.Decide.{dec_lt}
use Rattle.std.proofs.lemmas.Int.{ints, to_z-of_z, to_z_pos}
use Rattle.std.proofs.lemmas.List.{get_or_past}
use Rattle.std.proofs.lemmas.List.Sums.{sum_by-set}
use Rattle.bip_defs.specs.Bottleneck.{IsFull}
use Rattle.bip_defs.specs.Lists.{Among, Lists}
use Rattle.bip_defs.specs.Matrix.{IsEntry, Matrix, Place, cols, column}
use Rattle.bip_defs.proofs.Sets.{among_at, col_pair, entry_col, number_same, place_among, row_pair}
use Rattle.blocktri.specs.Diagonals.{AreNarrow}
use Rattle.blocktri.specs.RowPrices.{AreColumnPrices, AreEnough, AreLow, AreMet, AreRaised, asked, gap, place_at}
use Rattle.integer_diagonal.specs.Prices.{AreFair, price}
use Rattle.sp_pattern.specs.Weights.{Weighing, weight_at, weight_limit}

-- Numbers of 64 bits.

most_narrow : (z : ℤ) → FitsSigned w64 z → z ≤ℤ pos 9223372036854775807
most_narrow z f = grind (arith, ints)

pub narrow_between : (z : ℤ) → z ≤ℤ pos 9223372036854775807 → pos 0 ≤ℤ (z +ℤ pos 9223372036854775808) → FitsSigned w64 z
narrow_between z high low = grind (arith, ints)

narrow_most : (u : List ℤ) → AreNarrow u → (r : ℕ) → price u r ≤ℤ pos weight_limit
narrow_most u a r = by (dec_lt r (length u))
  where
    by : Dec (r < length u) → price u r ≤ℤ pos weight_limit
    by (yes lt) = most_narrow (price u r) (a r lt)
    by (no past) = let e = get_or_past u r (pos 0) (omega (arith, past)) in omega (arith, ints, e)

-- Numbers of 128 bits.

wide_between : (z : ℤ) → z ≤ℤ pos 73786976294838206464 → pos 0 ≤ℤ (z +ℤ pos 73786976294838206464) → FitsSigned w128 z
wide_between z high low = grind (arith, ints)

between_small : (z : ℤ) → unsigned_abs z ≤ 36893488147419103232 → (z ≤ℤ pos 36893488147419103232) × (pos 0 ≤ℤ (z +ℤ pos 36893488147419103232))
between_small z few = (grind (arith, ints), grind (arith, ints))

plain : (n : ℕ) → n < 18446744073709551616 → to_z w128 n ≡ pos n
plain n lt = to_z_pos w128 n (omega (arith, lt))

wide_same : (z y : ℤ) → z ≡ y → y ≤ℤ pos 73786976294838206464 → pos 0 ≤ℤ (y +ℤ pos 73786976294838206464) → to_z w128 (of_z w128 z) ≡ y
wide_same z y e high low = to_z-of_z w128 z (subst (FitsSigned w128) (sym e) (wide_between y high low)) ∙ e

-- the price that is set first
pub first_is : (n : ℕ) → n < 18446744073709551616 → to_z w128 (of_z w128 (to_z w128 n -ℤ pos 9223372036854775807)) ≡ (pos n -ℤ pos weight_limit)
first_is n lt = wide_same (to_z w128 n -ℤ pos 9223372036854775807) (pos n -ℤ pos weight_limit) (ap (λ z. z -ℤ pos 9223372036854775807) (plain n lt)) (omega (arith, ints, lt)) (omega (arith, ints, lt))

within_same : (a : ℤ) → a ≤ℤ pos weight_limit → pos 0 ≤ℤ (a +ℤ pos weight_limit) → to_z w128 (of_z w128 a) ≡ a
within_same a high low = wide_same a a refl (omega (arith, ints, high)) (omega (arith, ints, low))

column_same : (n : ℕ) (a : ℤ) → n < 18446744073709551616 → a ≤ℤ pos weight_limit → pos 0 ≤ℤ (a +ℤ pos weight_limit) → (to_z w128 n -ℤ to_z w128 (of_z w128 a)) ≡ (pos n -ℤ a)
column_same n a lt high low = let e = plain n lt in let f = within_same a high low in λ i. e i -ℤ f i

-- the price of a column
pub column_fits : (n : ℕ) (a : ℤ) → n < 18446744073709551616 → a ≤ℤ pos weight_limit → pos 0 ≤ℤ (a +ℤ pos weight_limit) → FitsSigned w128 (to_z w128 n -ℤ to_z w128 (of_z w128 a))
column_fits n a lt high low = subst (FitsSigned w128) (sym (column_same n a lt high low)) (wide_between (pos n -ℤ a) (omega (arith, ints, lt, low)) (omega (arith, ints, high)))

pub column_is : (n : ℕ) (a : ℤ) → n < 18446744073709551616 → a ≤ℤ pos weight_limit → pos 0 ≤ℤ (a +ℤ pos weight_limit) → to_z w128 (of_z w128 (to_z w128 n -ℤ to_z w128 (of_z w128 a))) ≡ (pos n -ℤ a)
column_is n a lt high low = to_z-of_z w128 (to_z w128 n -ℤ to_z w128 (of_z w128 a)) (column_fits n a lt high low) ∙ column_same n a lt high low

-- what a column asks for
base_same : (n : ℕ) (a : ℤ) → n < 18446744073709551616 → a ≤ℤ pos weight_limit → pos 0 ≤ℤ (a +ℤ pos weight_limit) → (to_z w128 (of_z w128 a) -ℤ to_z w128 n) ≡ (a -ℤ pos n)
base_same n a lt high low = let e = plain n lt in let f = within_same a high low in λ i. f i -ℤ e i

pub base_fits : (n : ℕ) (a : ℤ) → n < 18446744073709551616 → a ≤ℤ pos weight_limit → pos 0 ≤ℤ (a +ℤ pos weight_limit) → FitsSigned w128 (to_z w128 (of_z w128 a) -ℤ to_z w128 n)
base_fits n a lt high low = subst (FitsSigned w128) (sym (base_same n a lt high low)) (wide_between (a -ℤ pos n) (omega (arith, ints, high)) (omega (arith, ints, lt, low)))

pub base_is : (n : ℕ) (a : ℤ) → n < 18446744073709551616 → a ≤ℤ pos weight_limit → pos 0 ≤ℤ (a +ℤ pos weight_limit) → to_z w128 (of_z w128 (to_z w128 (of_z w128 a) -ℤ to_z w128 n)) ≡ (a -ℤ pos n)
base_is n a lt high low = to_z-of_z w128 (to_z w128 (of_z w128 a) -ℤ to_z w128 n) (base_fits n a lt high low) ∙ base_same n a lt high low

-- what an entry asks for
pub asked_is : (n : ℕ) (b : ℤ) → n < 18446744073709551616 → unsigned_abs b ≤ 36893488147419103232 → to_z w128 (of_z w128 (b +ℤ to_z w128 n)) ≡ (b +ℤ pos n)
asked_is n b lt few = let (high, low) = between_small b few in wide_same (b +ℤ to_z w128 n) (b +ℤ pos n) (ap (λ z. b +ℤ z) (plain n lt)) (omega (arith, ints, lt, high)) (omega (arith, ints, low))

-- Raising.

nearer : (a z : ℤ) → a <ℤ z → z ≤ℤ pos weight_limit → unsigned_abs (pos weight_limit -ℤ z) < unsigned_abs (pos weight_limit -ℤ a)
nearer a z lt le = grind (arith, ints)

pub gap_less : (u : List ℤ) (row : ℕ) (z : ℤ) → row < length u → price u row <ℤ z → z ≤ℤ pos weight_limit → gap (set u row z) < gap u
gap_less u row z inside lt le =
    let less = nearer (price u row) z lt le in
    let sums = sum_by-set (λ y. unsigned_abs (pos weight_limit -ℤ y)) u row z (pos 0) inside in
    omega (arith, less, sums)

-- raised once more, or for the first time
pub gap_less_again : (b : Bool) (old u : List ℤ) (row : ℕ) (z : ℤ) → (IsTrue b → gap u < gap old) → (¬ IsTrue b → u ≡ old) → row < length u → price u row <ℤ z → z ≤ℤ pos weight_limit → gap (set u row z) < gap old
gap_less_again true old u row z nearer same inside lt le = let less = gap_less u row z inside lt le in let was = nearer refl in omega (arith, less, was)
gap_less_again false old u row z nearer same inside lt le = let less = gap_less u row z inside lt le in let was = ap gap (same (λ e. true≢false (sym e))) in omega (arith, less, was)

pub gap_kept : (b : Bool) (u new : List ℤ) → (IsTrue b → gap new < gap u) → (¬ IsTrue b → new ≡ u) → gap new ≤ gap u
gap_kept true u new nearer same = let was = nearer refl in omega (arith, was)
gap_kept false u new nearer same = let was = ap gap (same (λ e. true≢false (sym e))) in omega (arith, was)

met_less : (rows weights : List ℕ) (base : ℤ) (k : ℕ) (x : List ℤ) → AreMet rows weights base (k + 1) x → AreMet rows weights base k x
met_less rows weights base k x met i lt = met i (omega (arith, lt))

pub met_more : (rows weights : List ℕ) (base : ℤ) (k row : ℕ) (x : List ℤ) → row ≡ get_or rows k 0 → asked weights base k ≤ℤ price x row → AreMet rows weights base k x → AreMet rows weights base (k + 1) x
met_more rows weights base k row x is le met i lt = by (number_same i k)
  where
    by : (i ≡ k) ⊎ (i ≢ k) → asked weights base i ≤ℤ price x (get_or rows i 0)
    by (inl e) = rw (e, ← is) le
    by (inr ne) = met i (omega (arith, lt, ne))

pub raised_same : (rows weights : List ℕ) (base : ℤ) (k : ℕ) (old new : List ℤ) → AreRaised rows weights base k old new → AreRaised rows weights base (k + 1) old new
raised_same rows weights base k old new a = record { long = a.long; up = a.up; least = λ x above met. a.least x above (met_less rows weights base k x met); within = a.within }

pub raised_more : (rows weights : List ℕ) (base : ℤ) (k row : ℕ) (z : ℤ) (old new : List ℤ) → row ≡ get_or rows k 0 → row < length old → z ≡ asked weights base k → price new row <ℤ z → z ≤ℤ pos weight_limit
    → AreRaised rows weights base k old new → AreRaised rows weights base (k + 1) old (set new row z)
raised_more rows weights base k row z old new is inside what lt le a = record {
  long = length-set new row z ∙ a.long;
  up = λ r. higher r (number_same r row);
  least = λ x above met r within. lower x above met r within (number_same r row);
  within = λ r. most r (number_same r row);
}
  where
    here : (r : ℕ) → r ≡ row → price (set new row z) r ≡ z
    here r e = ap (λ i. price (set new row z) i) e ∙ get_or-set_same new row z (pos 0) (let same = a.long in omega (arith, same, inside))

    higher : (r : ℕ) → (r ≡ row) ⊎ (r ≢ row) → price old r ≤ℤ price (set new row z) r
    higher r (inl e) = let up = a.up r in let at = here r e in let was = ap (price new) e in omega (arith, ints, up, at, was, lt)
    higher r (inr ne) = rw (get_or-set_other new row r z (pos 0) ne) (a.up r)

    lower : (x : List ℤ) → ((r : ℕ) → r < length old → price old r ≤ℤ price x r) → AreMet rows weights base (k + 1) x → (r : ℕ) → r < length old → (r ≡ row) ⊎ (r ≢ row) → price (set new row z) r ≤ℤ price x r
    lower x above met r within (inl e) = let at = here r e in let wants = rw (← what, ← is) at (met k (omega arith)) in let same = ap (price x) e in omega (arith, ints, at, wants, same)
    lower x above met r within (inr ne) = rw (get_or-set_other new row r z (pos 0) ne) (a.least x above (met_less rows weights base k x met) r within)

    most : (r : ℕ) → (r ≡ row) ⊎ (r ≢ row) → price (set new row z) r ≤ℤ pos weight_limit
    most r (inl e) = rw (here r e) le
    most r (inr ne) = rw (get_or-set_other new row r z (pos 0) ne) (a.within r)

-- What fair prices that fit say.

-- the price of a row is at least what an entry in its mate's column asks for
pub fair_asks : (w : Weighing) (m : List Place) (u x y : List ℤ) (mate c r : ℕ) → AreFair w m x y → Among (mate, c) m → IsEntry w.matrix r c → price u mate ≤ℤ price x mate
    → ((price u mate -ℤ pos (weight_at w mate c)) +ℤ pos (weight_at w r c)) ≤ℤ price x r
fair_asks w m u x y mate c r fair pair entry low =
    let covers = fair.covers r c entry in
    let meets = fair.meets mate c pair in
    omega (arith, ints, covers, meets, low)

-- the entries of a pair's column with their weights, and what the pair asks of their rows beside these
pub record IsAskedBy (w : Weighing) (u : List ℤ) (p : Place) (rows weights : List ℕ) (base : ℤ) : Type 0 where
  pub inside : p.0 < w.matrix.rows
  pub column_is : column w.matrix p.1 ≡ rows
  pub entries : (i : ℕ) → i < length rows → IsEntry w.matrix (get_or rows i 0) p.1
  pub each : (i : ℕ) → i < length rows → get_or weights i 0 ≡ weight_at w (get_or rows i 0) p.1
  pub base_is : base ≡ (price u p.0 -ℤ pos (weight_at w p.0 p.1))

pub asked_by : (w : Weighing) (a : Matrix) (u : List ℤ) (p : Place) (rows weights : List ℕ) (base : ℤ) → w.matrix ≡ a → IsEntry a p.0 p.1 → Lists (λ r. IsEntry a r p.1) rows → rows ≡ column a p.1
    → length weights ≡ length (column w.matrix p.1) → ((k : ℕ) → k < length weights → get_or weights k 0 ≡ weight_at w (get_or (column w.matrix p.1) k 0) p.1) → base ≡ (price u p.0 -ℤ pos (weight_at w p.0 p.1)) → IsAskedBy w u p rows weights base
asked_by w a u p rows weights base same entry lists is long each base_is = record {
  inside = let lt = entry.0 in let e = ap (λ (b : Matrix). b.rows) same in omega (arith, lt, e);
  column_is = col;
  entries = λ i lt. subst (λ (b : Matrix). IsEntry b (get_or rows i 0) p.1) (sym same) (lists.sound (get_or rows i 0) (among_at rows i 0 lt));
  each = λ i lt. each i (let size = ap length col in omega (arith, lt, long, size)) ∙ ap (λ (z : List ℕ). weight_at w (get_or z i 0) p.1) col;
  base_is = base_is;
}
  where
    col : column w.matrix p.1 ≡ rows
    col = ap (λ (b : Matrix). column b p.1) same ∙ sym is

low_met : (w : Weighing) (m : List Place) (u x y : List ℤ) (p : Place) (rows weights : List ℕ) (base : ℤ) → AreLow w m u → AreFair w m x y → AreNarrow x → AreNarrow y → Among p m → IsAskedBy w u p rows weights base → AreMet rows weights base (length rows) x
low_met w m u x y p rows weights base low fair nx ny pair a i lt =
    let asks = fair_asks w m u x y p.0 p.1 (get_or rows i 0) fair pair (a.entries i lt) (low.least x y fair nx ny p.0 a.inside) in
    let weight = ap pos (a.each i lt) in
    let is = a.base_is in
    omega (arith, ints, asks, weight, is)

pub low_more : (w : Weighing) (m : List Place) (u new : List ℤ) (p : Place) (rows weights : List ℕ) (base : ℤ) → AreLow w m u → AreRaised rows weights base (length rows) u new → Among p m → IsAskedBy w u p rows weights base → AreLow w m new
low_more w m u new p rows weights base low raised pair a = record {
  long = raised.long ∙ low.long;
  within = raised.within;
  columns = λ r d h. let was = low.columns r d h in let up = raised.up r in omega (arith, ints, was, up);
  least = λ x y fair nx ny r lt. raised.least x (λ s sl. low.least x y fair nx ny s (let l = low.long in omega (arith, l, sl))) (low_met w m u x y p rows weights base low fair nx ny pair a) r (let l = low.long in omega (arith, l, lt));
}

-- an entry asks for more than fits
pub none_past : (w : Weighing) (m : List Place) (u x y : List ℤ) (p : Place) (rows weights : List ℕ) (base : ℤ) (i : ℕ) → AreLow w m u → AreFair w m x y → AreNarrow x → AreNarrow y → Among p m → IsAskedBy w u p rows weights base
    → i < length rows → pos weight_limit <ℤ asked weights base i → ⊥
none_past w m u x y p rows weights base i low fair nx ny pair a lt past =
    let met = low_met w m u x y p rows weights base low fair nx ny pair a i lt in
    let most = narrow_most x nx (get_or rows i 0) in
    omega (arith, ints, met, most, past)

-- one more column asks for no more
pub enough_more : (w : Weighing) (m : List Place) (k : ℕ) (p : Place) (u : List ℤ) (rows weights : List ℕ) (base : ℤ) → p ≡ place_at m k → IsAskedBy w u p rows weights base → AreMet rows weights base (length rows) u → AreEnough w m k u → AreEnough w m (k + 1) u
enough_more w m k p u rows weights base at a met was i r lt entry = by (number_same i k)
  where
    here : IsEntry w.matrix r p.1 → (price u p.0 +ℤ pos (weight_at w r p.1)) ≤ℤ (price u r +ℤ pos (weight_at w p.0 p.1))
    here e =
        let (j, jt, same) = place_among r 0 rows (subst (Among r) a.column_is e.1) in
        let wants = met j jt in
        let weight = ap pos (a.each j jt ∙ ap (λ x. weight_at w x p.1) same) in
        let there = ap (λ x. price u x) same in
        let base_at = a.base_is in
        omega (arith, ints, wants, weight, there, base_at)

    by : (i ≡ k) ⊎ (i ≢ k) → (price u (place_at m i).0 +ℤ pos (weight_at w r (place_at m i).1)) ≤ℤ (price u r +ℤ pos (weight_at w (place_at m i).0 (place_at m i).1))
    by (inl e) =
        let one : p ≡ place_at m i = at ∙ ap (λ j. place_at m j) (sym e) in
        subst (λ (q : Place). (price u q.0 +ℤ pos (weight_at w r q.1)) ≤ℤ (price u r +ℤ pos (weight_at w q.0 q.1))) one (here (subst (λ (q : Place). IsEntry w.matrix r q.1) (sym one) entry))
    by (inr ne) = was i r (omega (arith, lt, ne)) entry

-- The first prices.

pub first_low : (w : Weighing) (m : List Place) (u : List ℤ) → IsFull w.matrix m → ((r c : ℕ) → IsEntry w.matrix r c → weight_at w r c ≤ weight_limit) → length u ≡ w.matrix.rows
    → ((q : Place) → Among q m → price u q.0 ≡ (pos (weight_at w q.0 q.1) -ℤ pos weight_limit)) → AreLow w m u
first_low w m u full small long set = record {
  long = long;
  within = λ r. by r (dec_lt r (length u));
  columns = λ r c h. let e = set (r, c) h in omega (arith, ints, e);
  least = λ x y fair nx ny r lt. let (c, h) = row_pair r m (full.all_rows r lt) in let e = set (r, c) h in let meets = fair.meets r c h in let most = narrow_most y ny c in omega (arith, ints, e, meets, most);
}
  where
    by : (r : ℕ) → Dec (r < length u) → price u r ≤ℤ pos weight_limit
    by r (yes lt) = let (c, h) = row_pair r m (full.all_rows r (omega (arith, lt, long))) in let e = set (r, c) h in let few = small r c (full.matching.entries r c h) in omega (arith, ints, e, few)
    by r (no past) = let e = get_or_past u r (pos 0) (omega (arith, past)) in omega (arith, ints, e)

-- The end.

pub low_fair : (w : Weighing) (m : List Place) (u v : List ℤ) → IsFull w.matrix m → AreLow w m u → AreEnough w m (length m) u → length v ≡ cols w.matrix → AreColumnPrices w m u v → AreFair w m u v
low_fair w m u v full low enough long prices = record {
  by_row = low.long;
  by_col = long;
  covers = λ r c entry.
      let (mate, h) = col_pair c m (full.all_cols c (entry_col w.matrix r c entry)) in
      let (i, lt, is) = place_among {X = Place} (mate, c) (0, 0) m h in
      let asks = subst (λ (q : Place). (price u q.0 +ℤ pos (weight_at w r q.1)) ≤ℤ (price u r +ℤ pos (weight_at w q.0 q.1))) is (enough i r lt (subst (λ (q : Place). IsEntry w.matrix r q.1) (sym is) entry)) in
      let v_is = prices mate c h in
      omega (arith, ints, asks, v_is);
  meets = λ r c h. let v_is = prices r c h in omega (arith, ints, v_is);
}

pub low_narrow : (w : Weighing) (m : List Place) (u : List ℤ) → IsFull w.matrix m → AreLow w m u → AreNarrow u
low_narrow w m u full low r lt =
    let (c, h) = row_pair r m (full.all_rows r (let l = low.long in omega (arith, l, lt))) in
    let high = low.within r in
    let least = low.columns r c h in
    narrow_between (price u r) high (omega (arith, ints, least))

pub low_narrow_columns : (w : Weighing) (m : List Place) (u v : List ℤ) → IsFull w.matrix m → ((r c : ℕ) → IsEntry w.matrix r c → weight_at w r c ≤ weight_limit) → AreLow w m u → length v ≡ cols w.matrix → AreColumnPrices w m u v → AreNarrow v
low_narrow_columns w m u v full small low long prices c lt =
    let (r, h) = col_pair c m (full.all_cols c (omega (arith, lt, long))) in
    let high = low.within r in
    let least = low.columns r c h in
    let v_is = prices r c h in
    narrow_between (price v c) (omega (arith, ints, least, v_is)) (omega (arith, ints, high, v_is))
