-- Both orders of the same places are a pattern.
use Rattle.std.proofs.Common.{◌≡◌, ◌∙◌, ℕ, ◌-◌, ◌<◌, ◌^◌, List, [], length, map, sym, ap, arith, subst, ◌∷◌, inl, inr}
use Rattle.std.specs.List.{AllByRecursion}
use Rattle.sp_ids.specs.Entries.{IsInside}
use Rattle.std.proofs.Math.Decide.{dec_lt}
use Rattle.std.proofs.lemmas.List.{get_or_past, map-id}
use Rattle.bip_defs.specs.Lists.{Among, Lists}
use Rattle.bip_defs.specs.Matching.{transposed_places}
use Rattle.bip_defs.specs.Matrix.{HasPlaces, IsEntry, Matrix, Place, cols}
use Rattle.bip_defs.specs.Pieces.{piece, pieces}
use Rattle.bip_defs.proofs.Pieces.{get_or-pieces, length-pieces}
use Rattle.bip_defs.proofs.Sets.{lists_same}
use Rattle.bip_defs.proofs.Transposed.{turned_among, turned_back, turned_twice}
use Rattle.sp_pattern.specs.Pairs.{AreInside, AreParts, IsOrder, IsOrderOf, IsTurned, Pair}
use Rattle.sp_pattern.specs.Stored.{AreOrders, stored}
use Rattle.sp_pattern.proofs.Orders.{length-inners}
use Rattle.sp_pattern.proofs.Shape.{orders_columns}
use Rattle.sp_pattern.proofs.Sides.{inners_lists, inners_of, order_piece, order_starts, order_table}
use Rattle.sp_pattern.proofs.TransposeLemmas.{order_turned_length, turned_parts}

-- an order of pairs, by its parts
pub order_parts : (m n : ℕ) (ps : List Pair) (starts flat : List ℕ) → IsOrderOf m n ps starts flat → AreParts m (λ i j. Among (i, j) ps) starts flat
order_parts m n ps starts flat o = record {
  long = o.order.long;
  cut = order_starts m n starts flat o.order;
  parts = λ i lt. subst (Lists (λ j. Among (i, j) ps)) (sym (order_piece m n starts flat o.order i lt))
      (lists_same (λ j. Among (i, j) o.order.pairs) (λ j. Among (i, j) ps) (inners_of i o.order.pairs)
      (λ j h. (o.same (i, j)).0 h) (λ j h. (o.same (i, j)).1 h) (inners_lists i o.order.pairs o.order.compressed.rising));
}

module _ (rows cols : ℕ) (P : ℕ → ℕ → Type 0) (cs rs us vs : List ℕ) (by_col : AreParts cols (λ c r. P r c) cs rs) (by_row : AreParts rows P us vs) (inside : (r c : ℕ) → P r c → (r < rows) × (c < cols)) where
  entry_over : (r c : ℕ) → IsEntry (stored cs rs us) r c → P r c
  entry_over r c e = by (dec_lt c cols)
    where
      by : Dec (c < cols) → P r c
      by (yes lt) =
          let long = by_col.long in
          (by_col.parts c lt).sound r (subst (Among r) (get_or-pieces cs rs c [] (omega (arith, long, lt))) e.1)
      by (no nlt) = absurd (subst (Among r) (get_or_past (pieces cs rs) c [] (let n = length-pieces cs rs in let long = by_col.long in omega (arith, n, long))) e.1)

  entry_back : (r c : ℕ) → P r c → IsEntry (stored cs rs us) r c
  entry_back r c p =
      let within = inside r c p in
      let long = by_col.long in
      let tall = by_row.long in
      let below = within.0 in
      let lt = within.1 in
      (omega (arith, tall, below), subst (Among r) (sym (get_or-pieces cs rs c [] (omega (arith, long, lt)))) ((by_col.parts c lt).complete r p))

  pub both_orders : rows < 2 ^ 32 → cols < 2 ^ 32 → length rs < 2 ^ 32 → length vs ≡ length rs → AreOrders cs rs us vs
  both_orders few_rows few_cols few same = record {
    few_cols = let l = by_col.long in omega (arith, l);
    few_rows = let l = by_row.long in omega (arith, l);
    few_entries = few;
    same_length = same;
    by_col = by_col.cut;
    by_row = by_row.cut;
    rows = λ c lt. lists_same (λ r. P r c) (λ r. IsEntry (stored cs rs us) r c) (piece cs rs c) (λ r h. entry_back r c h) (λ r h. entry_over r c h) (by_col.parts c (let l = by_col.long in omega (arith, l)));
    cols = λ r lt. lists_same (λ c. P r c) (λ c. IsEntry (stored cs rs us) r c) (piece us vs r) (λ c h. entry_back r c h) (λ c h. entry_over r c h) (by_row.parts r (let l = by_row.long in omega (arith, l)));
  }

  pub both_places : (ps : List Place) → ((r c : ℕ) → P r c → Among (r, c) ps) → ((r c : ℕ) → Among (r, c) ps → P r c) → AreOrders cs rs us vs → HasPlaces rows cols ps (stored cs rs us)
  both_places ps over back o = record {
    rows_are = let l = by_row.long in omega (arith, l);
    cols_are = let n = length-pieces cs rs in let l = by_col.long in omega (arith, n, l);
    entries = λ r c. ((λ e. over r c (entry_over r c e)), λ h. entry_back r c (back r c h));
    columns = orders_columns cs rs us vs o;
  }

-- A pattern of pairs of a column and a row, and one of pairs of a row and a column.

pub of_columns : (rows cols : ℕ) (ps : List Pair) (cs rs us vs : List ℕ) → IsOrderOf cols rows ps cs rs → IsTurned (length cs - 1) rows cs rs us vs
    → rows < 2 ^ 32 → cols < 2 ^ 32 → length rs < 2 ^ 32 → AreOrders cs rs us vs × HasPlaces rows cols (transposed_places ps) (stored cs rs us)
of_columns rows cols ps cs rs us vs o t few_rows few_cols few =
    let by_col = order_parts cols rows ps cs rs o in
    let long = by_col.long in
    let inside : AreInside cols rows ps = λ p h. o.order.inside p ((o.same p).1 h) in
    let same : length cs - 1 ≡ cols = omega (arith, long) in
    let turned_pairs = t o.order.pairs (rw same (order_table cols rows cs rs o.order)) in
    let by_row = turned_parts cols rows ps cs rs us vs o turned_pairs in
    let within : (r c : ℕ) → Among (c, r) ps → (r < rows) × (c < cols) = λ r c h. ((inside (c, r) h).1, (inside (c, r) h).0) in
    let orders = both_orders rows cols (λ r c. Among (c, r) ps) cs rs us vs by_col by_row within few_rows few_cols few (order_turned_length cols rows cs rs us vs o.order turned_pairs) in
    (orders, both_places rows cols (λ r c. Among (c, r) ps) cs rs us vs by_col by_row within (transposed_places ps) (λ r c h. turned_among c r ps h) (λ r c h. turned_back c r ps h) orders)

-- an order is one of its own pairs
pub order_itself : (m n : ℕ) (starts flat : List ℕ) (o : IsOrder m n starts flat) → IsOrderOf m n o.pairs starts flat
order_itself m n starts flat o = record {
  order = o;
  same = λ p. ((λ h. h), λ h. h);
  few = let same = ap length o.compressed.numbers ∙ length-inners o.pairs in omega (arith, same);
}

pub of_rows : (rows cols : ℕ) (ps : List Pair) (cs rs us vs : List ℕ) → IsOrderOf rows cols ps us vs → IsTurned (length us - 1) cols us vs cs rs
    → rows < 2 ^ 32 → cols < 2 ^ 32 → length vs < 2 ^ 32 → AreOrders cs rs us vs × HasPlaces rows cols ps (stored cs rs us) × (length rs ≡ length vs)
of_rows rows cols ps cs rs us vs o t few_rows few_cols few =
    let by_row = order_parts rows cols ps us vs o in
    let long = by_row.long in
    let same : length us - 1 ≡ rows = omega (arith, long) in
    let turned_pairs = t o.order.pairs (rw same (order_table rows cols us vs o.order)) in
    let by_col = turned_parts rows cols ps us vs cs rs o turned_pairs in
    let same_length = order_turned_length rows cols us vs cs rs o.order turned_pairs in
    let within : (r c : ℕ) → Among (r, c) ps → (r < rows) × (c < cols) = λ r c h. o.order.inside (r, c) ((o.same (r, c)).1 h) in
    let orders = both_orders rows cols (λ r c. Among (r, c) ps) cs rs us vs by_col by_row within few_rows few_cols (omega (arith, same_length, few)) (sym same_length) in
    (orders, both_places rows cols (λ r c. Among (r, c) ps) cs rs us vs by_col by_row within ps (λ r c h. h) (λ r c h. h) orders, same_length)

-- The same, as the calls say it.

abbrev pub itself : ℕ → ℕ
itself x = x

pub made_by_columns : (rows cols : ℕ) (ps : List Pair) (cs rs us vs lent_starts lent_flat : List ℕ) → IsOrderOf cols rows ps cs rs → lent_starts ≡ cs → lent_flat ≡ rs
    → IsTurned (length lent_starts - 1) rows lent_starts (map itself lent_flat) us (map itself vs)
    → rows < 2 ^ 32 → cols < 2 ^ 32 → length rs < 2 ^ 32 → AreOrders cs rs us vs × HasPlaces rows cols (transposed_places ps) (stored cs rs us)
made_by_columns rows cols ps cs rs us vs ss ff o es ef t few_rows few_cols few =
    of_columns rows cols ps cs rs us vs o
    (subst (λ xs. IsTurned (length cs - 1) rows cs xs us vs) (map-id rs)
    (subst (λ xs. IsTurned (length cs - 1) rows cs (map itself xs) us vs) ef
    (subst (λ xs. IsTurned (length xs - 1) rows xs (map itself ff) us vs) es
    (subst (λ xs. IsTurned (length ss - 1) rows ss (map itself ff) us xs) (map-id vs) t))))
    few_rows few_cols few

pub lent_order : (m n : ℕ) (starts flat lent_starts lent_flat : List ℕ) → IsOrder m n starts flat → lent_starts ≡ starts → lent_flat ≡ flat → IsOrder (length lent_starts - 1) n lent_starts (map itself lent_flat)
lent_order m n starts flat ss ff o es ef =
    let long = o.long in
    let same : length starts - 1 ≡ m = omega (arith, long) in
    rw (es, ef, map-id, same) o

pub order_numbers : (m n : ℕ) (ps : List Pair) (starts flat : List ℕ) → IsOrderOf m n ps starts (map itself flat) → IsOrderOf m n ps starts flat
order_numbers m n ps starts flat o = subst (λ xs. IsOrderOf m n ps starts xs) (map-id flat) o

pub made_by_rows : (rows cols : ℕ) (ps : List Pair) (cs rs us vs lent_starts lent_flat : List ℕ) → IsOrderOf rows cols ps us vs → lent_starts ≡ us → lent_flat ≡ vs
    → IsTurned (length lent_starts - 1) cols lent_starts (map itself lent_flat) cs (map itself rs)
    → rows < 2 ^ 32 → cols < 2 ^ 32 → length vs < 2 ^ 32 → AreOrders cs rs us vs × HasPlaces rows cols ps (stored cs rs us) × (length rs ≡ length vs)
made_by_rows rows cols ps cs rs us vs ss ff o es ef t few_rows few_cols few =
    of_rows rows cols ps cs rs us vs o
    (subst (λ xs. IsTurned (length us - 1) cols us xs cs rs) (map-id vs)
    (subst (λ xs. IsTurned (length us - 1) cols us (map itself xs) cs rs) ef
    (subst (λ xs. IsTurned (length xs - 1) cols xs (map itself ff) cs rs) es
    (subst (λ xs. IsTurned (length ss - 1) cols ss (map itself ff) cs xs) (map-id rs) t))))
    few_rows few_cols few

-- What a list of places gives.

pub inside_turned : (rows cols : ℕ) (ps : List Place) → AllByRecursion (IsInside rows cols) ps → AreInside cols rows (transposed_places ps)
inside_turned rows cols [] all p h = elim h [ ]
inside_turned rows cols (q ∷ ps) all p (inl e) = let first = ap (λ (z : Pair). z.0) e in let second = ap (λ (z : Pair). z.1) e in let a = all.0.0 in let b = all.0.1 in (omega (arith, first, b), omega (arith, second, a))
inside_turned rows cols (q ∷ ps) all p (inr h) = inside_turned rows cols ps all.1 p h

pub inside_places : (rows cols : ℕ) (ps : List Place) → AllByRecursion (IsInside rows cols) ps → AreInside rows cols ps
inside_places rows cols [] all p h = elim h [ ]
inside_places rows cols (q ∷ ps) all p (inl e) = let first = ap (λ (z : Pair). z.0) e in let second = ap (λ (z : Pair). z.1) e in let a = all.0.0 in let b = all.0.1 in (omega (arith, first, a), omega (arith, second, b))
inside_places rows cols (q ∷ ps) all p (inr h) = inside_places rows cols ps all.1 p h

pub pairs_turned : (m n : ℕ) (ps : List Pair) → AreInside m n ps → AreInside n m (transposed_places ps)
pairs_turned m n ps inside p h = let within = inside (p.1, p.0) (turned_back p.1 p.0 ps h) in (within.1, within.0)

pub from_turned_twice : (rows cols m n : ℕ) (ps qs : List Place) (a : Matrix) → m ≡ rows → n ≡ cols → ps ≡ qs → HasPlaces m n (transposed_places (transposed_places ps)) a → HasPlaces rows cols qs a
from_turned_twice rows cols m n ps qs a em en same h = rw (← em, ← en, ← same) (subst (λ xs. HasPlaces m n xs a) (turned_twice ps) h)
