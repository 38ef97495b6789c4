-- Where entries stand, and their weights.
use Rattle.std.proofs.Common.{◌≡◌, ◌≢◌, ◌⊎◌, ◌∙◌, ℕ, zero, suc, ◌+◌, ◌-◌, ◌<◌, ◌≤◌, List, [], ◌∷◌, length, get_or, take, drop, nat_eq, if◌then◌else◌, refl, sym, ap, arith, subst, inl, inr, ⊎_elim, sum_by, eq-eqb, false, Ok, Err, is_ok, nat_cmp, true≢false}
use Rattle.std.proofs.Math.Decide.{dec_lt}
use Rattle.std.proofs.Math.Numerals.{suc-eq-add-one}
use Rattle.std.proofs.lemmas.List.{get_or-take, get_or-drop, get_or_default, length-take}
use Rattle.std.proofs.lemmas.List.Sums.{sum_by_more, sum_by-take-le}
use Rattle.std.proofs.lemmas.List.Sorted.{searched}
use Rattle.std.proofs.lemmas.Bool.Decides.{nat_tests}
use Rattle.std.specs.List.{slice_range}
use Rattle.std.specs.List.Sorted.{IsBinarySearchResult}
use Rattle.std.specs.declared.result.Result.{Result}
use Rattle.std.specs.Result.{result_unwrap_or}
use Rattle.bip_defs.specs.Lists.{Among, IsRising, Lists}
use Rattle.bip_defs.specs.Matrix.{IsEntry, Matrix, column, cols, entry_count}
use Rattle.bip_defs.specs.Pieces.{AreStarts, pieces}
use Rattle.bip_defs.proofs.Pieces.{get_or-pieces, length-pieces, length-slice_range, start_within}
use Rattle.bip_defs.proofs.Sets.{among_at, below_each_sound, entry_col, number_same, rising_order}
use Rattle.sp_pattern.specs.Stored.{AreOrders, stored}
use Rattle.sp_pattern.specs.Weights.{Weighing, place_in, position, start_of, weight_at, weights_in}
use Rattle.sp_pattern.proofs.Shape.{col_fits, found_iff, found_nowhere, orders_columns, piece_column}

-- The starts are the numbers of entries before each column.

pub sum_before : {X : Type 0} (starts : List ℕ) (flat : List X) → AreStarts starts flat → (c : ℕ) → c < length starts → sum_by length (take c (pieces starts flat)) ≡ get_or starts c 0
sum_before starts flat s zero lt = sym s.first
sum_before {X = X} starts flat s (suc c) lt =
    let rest = sum_before starts flat s c (omega arith) in
    let inside : c + 1 < length starts = omega (arith, lt) in
    let many = length-pieces starts flat in
    let more = sum_by_more length (pieces starts flat) c [] (omega (arith, many, lt)) in
    let up = s.rise c inside in
    let within = start_within starts flat s (c + 1) inside in
    let long : length (get_or (pieces starts flat) c []) ≡ get_or starts (c + 1) 0 - get_or starts c 0 = ap length (get_or-pieces starts flat c [] inside) ∙ length-slice_range flat (get_or starts c 0) (get_or starts (c + 1) 0) within in
    rw (suc-eq-add-one c) (more ∙ (omega (arith, rest, long, up)))

-- How many numbers stand before one.

pub place_same_here : (x y : ℕ) (ys : List ℕ) → x ≡ y → place_in x (y ∷ ys) ≡ 0
place_same_here x y ys e = ap (λ t. if t then zero else suc (place_in x ys)) (eq-eqb x y e)

pub place_later : (x y : ℕ) (ys : List ℕ) → x ≢ y → place_in x (y ∷ ys) ≡ suc (place_in x ys)
place_later x y ys ne = ap (λ t. if t then zero else suc (place_in x ys)) (test_other x y ne)
  where
    test_other : (x y : ℕ) → x ≢ y → nat_eq x y ≡ false
    test_other x y ne = grind (arith, nat_tests)

-- on a rising list each number stands at its own place
pub place_in_at : (xs : List ℕ) (k : ℕ) → IsRising xs → k < length xs → place_in (get_or xs k 0) xs ≡ k
place_in_at [] k up lt = grind arith
place_in_at (x ∷ xs) zero up lt = place_same_here x x xs refl
place_in_at (x ∷ xs) (suc k) up lt =
    let inside : k < length xs = omega (arith, lt) in
    let above = below_each_sound x (get_or xs k 0) xs up.0 (among_at xs k 0 inside) in
    place_later (get_or xs k 0) x xs (omega (arith, above)) ∙ ap suc (place_in_at xs k up.1 inside)

pub place_in_found : (x : ℕ) (xs : List ℕ) → Among x xs → (place_in x xs < length xs) × (get_or xs (place_in x xs) 0 ≡ x)
place_in_found x [] h = elim h [ ]
place_in_found x (y ∷ ys) h = by (number_same x y) (λ (k : Among x ys). place_in_found x ys k)
  where
    by : (x ≡ y) ⊎ (x ≢ y) → (Among x ys → (place_in x ys < length ys) × (get_or ys (place_in x ys) 0 ≡ x)) → (place_in x (y ∷ ys) < length (y ∷ ys)) × (get_or (y ∷ ys) (place_in x (y ∷ ys)) 0 ≡ x)
    by (inl e) rest = rw (place_same_here x y ys e) (omega arith, sym e)
    by (inr ne) rest = let there = rest (⊎_elim (λ (e : x ≡ y). absurd (ne e)) (λ (k : Among x ys). k) h) in rw (place_later x y ys ne) (let lt = there.0 in omega (arith, lt), there.1)

-- what a binary search answers for a member is its place
pub found_place : (P : ℕ → Type 0) (xs : List ℕ) (x : ℕ) (r : Result ℕ ℕ) → Lists P xs → P x → IsBinarySearchResult (λ y. nat_cmp y x) xs r → result_unwrap_or r 0 ≡ place_in x xs
found_place P xs x (Ok i) l p h =
    let s = searched xs x (Ok i) h (rising_order xs l.rising) in
    sym (ap (λ z. place_in z xs) (sym s.1) ∙ place_in_at xs i l.rising s.0)
found_place P xs x (Err i) l p h = absurd (found_nowhere P xs x i l h p)

-- Positions.

pub start_more : (a : Matrix) (c : ℕ) → c < cols a → start_of a (c + 1) ≡ start_of a c + length (column a c)
start_more a c lt = sum_by_more length a.columns c [] lt

-- a column's part of the flat list begins and ends where its entries do
pub span_column : (cs rs us vs : List ℕ) (a : Matrix) (c : ℕ) → AreOrders cs rs us vs → stored cs rs us ≡ a → c < cols a → slice_range rs (start_of a c) (start_of a (c + 1)) ≡ column a c
span_column cs rs us vs a c o is lt =
    let within = rw (← is) at lt in
    let fits = col_fits cs rs us c within in
    rw (← is)
    ((λ i. slice_range rs (sum_before cs rs o.by_col c (omega (arith, fits)) i) (sum_before cs rs o.by_col (c + 1) fits i)) ∙ piece_column cs rs us c within)

-- looking for an entry there
pub found_in_span : (cs rs us vs : List ℕ) (a : Matrix) (r c from to : ℕ) (found : Result ℕ ℕ) → AreOrders cs rs us vs → stored cs rs us ≡ a → IsEntry a r c → from ≡ start_of a c → to ≡ start_of a (c + 1)
    → IsBinarySearchResult (λ y. nat_cmp y r) (slice_range rs from to) found → result_unwrap_or found 0 ≡ place_in r (column a c)
found_in_span cs rs us vs a r c from to found o is e begins ends h =
    let listed : Lists (λ s. IsEntry a s c) (column a c) = rw (← is) (orders_columns cs rs us vs o c) in
    let rows : slice_range rs from to ≡ column a c = rw (begins, ends) (span_column cs rs us vs a c o is (entry_col a r c e)) in
    found_place (λ s. IsEntry a s c) (column a c) r found listed e (subst (λ xs. IsBinarySearchResult (λ y. nat_cmp y r) xs found) rows h)

-- what is found is an entry, where it stands
pub span_found : (cs rs us vs : List ℕ) (a : Matrix) (r c from to : ℕ) (found : Result ℕ ℕ) (k : ℕ) → AreOrders cs rs us vs → stored cs rs us ≡ a → c < cols a → from ≡ start_of a c → to ≡ start_of a (c + 1)
    → IsBinarySearchResult (λ y. nat_cmp y r) (slice_range rs from to) found → found ≡ Ok k → IsEntry a r c × (from + k ≡ position a r c)
span_found cs rs us vs a r c from to found k o is lt begins ends h ok =
    let listed : Lists (λ s. IsEntry a s c) (column a c) = rw (← is) (orders_columns cs rs us vs o c) in
    let rows : slice_range rs from to ≡ column a c = rw (begins, ends) (span_column cs rs us vs a c o is lt) in
    let here : IsBinarySearchResult (λ y. nat_cmp y r) (column a c) (Ok k) = subst (λ z. IsBinarySearchResult (λ y. nat_cmp y r) (column a c) z) ok (subst (λ xs. IsBinarySearchResult (λ y. nat_cmp y r) xs found) rows h) in
    let s = searched (column a c) r (Ok k) here (rising_order (column a c) listed.rising) in
    let entry : IsEntry a r c = listed.sound r (subst (λ y. Among y (column a c)) s.1 (among_at (column a c) k 0 s.0)) in
    let at : k ≡ place_in r (column a c) = found_place (λ s. IsEntry a s c) (column a c) r (Ok k) listed entry here in
    (entry, λ i. begins i + at i)

pub span_missed : (cs rs us vs : List ℕ) (a : Matrix) (r c from to : ℕ) (found : Result ℕ ℕ) (k : ℕ) → AreOrders cs rs us vs → stored cs rs us ≡ a → from ≡ start_of a c → to ≡ start_of a (c + 1)
    → IsBinarySearchResult (λ y. nat_cmp y r) (slice_range rs from to) found → found ≡ Err k → IsEntry a r c → ⊥
span_missed cs rs us vs a r c from to found k o is begins ends h err e =
    let listed : Lists (λ s. IsEntry a s c) (column a c) = rw (← is) (orders_columns cs rs us vs o c) in
    let rows : slice_range rs from to ≡ column a c = rw (begins, ends) (span_column cs rs us vs a c o is (entry_col a r c e)) in
    let there = (found_iff (λ s. IsEntry a s c) (column a c) r found listed (subst (λ xs. IsBinarySearchResult (λ y. nat_cmp y r) xs found) rows h)).1 e in
    true≢false (sym there ∙ ap is_ok err)

pub start_le : (a : Matrix) (c : ℕ) → start_of a c ≤ entry_count a
start_le a c = sum_by-take-le length a.columns c

pub start_mono : (a : Matrix) (c d : ℕ) → c ≤ d → d ≤ cols a → start_of a c ≤ start_of a d
start_mono a c zero le lt = let e : c ≡ 0 = omega arith in rw e (omega arith)
start_mono a c (suc d) le lt = by (number_same c (suc d)) (λ at. start_mono a c d at (omega arith))
  where
    by : (c ≡ suc d) ⊎ (c ≢ suc d) → (c ≤ d → start_of a c ≤ start_of a d) → start_of a c ≤ start_of a (suc d)
    by (inl e) rest = rw e (omega arith)
    by (inr ne) rest = let up = rest (omega arith) in let more = start_more a d (omega arith) in rw (suc-eq-add-one d) (omega (arith, up, more))

-- an entry's position is among its column's
pub position_in : (a : Matrix) (r c : ℕ) → IsEntry a r c → (position a r c < start_of a (c + 1)) × (start_of a c ≤ position a r c)
position_in a r c e =
    let found = place_in_found r (column a c) e.1 in
    let lt = found.0 in
    let more = start_more a c (entry_col a r c e) in
    (omega (arith, lt, more), omega arith)

pub position_fits : (a : Matrix) (r c : ℕ) → IsEntry a r c → position a r c < entry_count a
position_fits a r c e = let here = (position_in a r c e).0 in let all = start_le a (c + 1) in omega (arith, here, all)

-- a weight that stands at an entry's position is the entry's
pub weight_read : (w : Weighing) (r c : ℕ) → IsEntry w.matrix r c → get_or w.weights (position w.matrix r c) 0 ≡ weight_at w r c
weight_read w r c e =
    let found = (place_in_found r (column w.matrix c) e.1).0 in
    let more = start_more w.matrix c (entry_col w.matrix r c e) in
    let here : place_in r (column w.matrix c) < start_of w.matrix (c + 1) - start_of w.matrix c = omega (arith, found, more) in
    sym (get_or-take (start_of w.matrix (c + 1) - start_of w.matrix c) (drop (start_of w.matrix c) w.weights) (place_in r (column w.matrix c)) 0 here ∙ get_or-drop (start_of w.matrix c) w.weights (place_in r (column w.matrix c)) 0)

pub weight_each : (w : Weighing) (c : ℕ) → IsRising (column w.matrix c) → (k : ℕ) → k < length (column w.matrix c) → get_or (weights_in w c) k 0 ≡ weight_at w (get_or (column w.matrix c) k 0) c
weight_each w c up k lt = sym (ap (λ i. get_or (weights_in w c) i 0) (place_in_at (column w.matrix c) k up lt))

-- positions of entries are in the order of columns, and in a column of rows
pub position_order : (a : Matrix) (r c s d : ℕ) → IsRising (column a c) → IsEntry a r c → IsEntry a s d → position a r c ≤ position a s d → (c < d) ⊎ ((c ≡ d) × (r ≤ s))
position_order a r c s d up e f le = by (dec_lt c d) (number_same c d)
  where
    by : Dec (c < d) → (c ≡ d) ⊎ (c ≢ d) → (c < d) ⊎ ((c ≡ d) × (r ≤ s))
    by (yes lt) same = inl lt
    by (no nlt) (inl same) = inr (same, rows)
      where
        rows : r ≤ s
        rows =
            let here = place_in_found r (column a c) e.1 in
            let there = place_in_found s (column a c) (rw (← same) at f.1) in
            let le' : start_of a c + place_in r (column a c) ≤ start_of a c + place_in s (column a c) = rw (← same) at le in
            let step = rising_order (column a c) up (place_in r (column a c)) (place_in s (column a c)) (omega (arith, le')) there.0 in
            let first = here.1 in
            let second = there.1 in
            omega (arith, step, first, second)
    by (no nlt) (inr ne) =
        let here = (position_in a r c e).1 in
        let there = (position_in a s d f).0 in
        let up' = start_mono a (d + 1) c (omega arith) (let lt = entry_col a r c e in omega (arith, lt)) in
        absurd (omega (arith, here, there, up', le))

pub position_injective : (a : Matrix) (r c s d : ℕ) → IsRising (column a c) → IsRising (column a d) → IsEntry a r c → IsEntry a s d → position a r c ≡ position a s d → (r ≡ s) × (c ≡ d)
position_injective a r c s d up up' e f same = by (position_order a r c s d up e f (omega (arith, same))) (position_order a s d r c up' f e (omega (arith, same)))
  where
    by : (c < d) ⊎ ((c ≡ d) × (r ≤ s)) → (d < c) ⊎ ((d ≡ c) × (s ≤ r)) → (r ≡ s) × (c ≡ d)
    by (inl x) (inl y) = absurd (omega (arith, x, y))
    by (inl x) (inr y) = absurd (let e = y.0 in omega (arith, x, e))
    by (inr x) (inl y) = absurd (let e = x.0 in omega (arith, y, e))
    by (inr x) (inr y) = (let a = x.1 in let b = y.1 in omega (arith, a, b), x.0)

-- the entry at a position
pub at_place : (a : Matrix) (c at r : ℕ) (xs : List ℕ) → IsRising (column a c) → xs ≡ column a c → c < cols a → start_of a c ≤ at → at < start_of a (c + 1) → r ≡ get_or xs (at - start_of a c) r → (Among r xs) × (at ≡ position a r c)
at_place a c at r xs up same lt after before is =
    let more = start_more a c lt in
    let inside : at - start_of a c < length (column a c) = omega (arith, more, after, before) in
    let read : r ≡ get_or (column a c) (at - start_of a c) 0 = is ∙ ap (λ ys. get_or ys (at - start_of a c) r) same ∙ get_or_default (column a c) (at - start_of a c) r 0 inside in
    let there = ap (λ x. place_in x (column a c)) read ∙ place_in_at (column a c) (at - start_of a c) up inside in
    (rw same (subst (λ x. Among x (column a c)) (sym read) (among_at (column a c) (at - start_of a c) 0 inside)), omega (arith, there, after))

pub take_within : {X : Type 0} (n k : ℕ) (xs : List X) → k < length (take n xs) → k < n
take_within n k xs lt = let long = length-take n xs in omega (arith, long, lt)
