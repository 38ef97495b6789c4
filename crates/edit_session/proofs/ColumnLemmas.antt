-- Columns that a search by halves goes through, and what an edit of one leaves of the matrix.
use Rattle.std.proofs.Common.{◌≡◌, ◌↔◌, ◌∙◌, ℕ, zero, suc, ◌+◌, ◌-◌, ◌^◌, ◌<◌, ◌≤◌, false, true, true≢false, List, [], ◌∷◌, ◌++◌, length, get_or, set, take, refl, sym, ap, subst, arith, eq-eqb, ne_eqb, Ok, Err, IfErr, IfOk, IsTrue, MatchResult}
use Rattle.std.specs.Prelude.{Result, is_ok}
use Rattle.std.specs.List.Sorted.{IsBinarySearchResult}
use Rattle.std.specs.Ordering.{nat_cmp}
use Rattle.std.proofs.Math.Decide.{dec_lt}
use Rattle.std.proofs.lemmas.List.{get_or_past, length-set, take_all, take_more}
use Rattle.std.proofs.lemmas.List.Edits.{length-remove}
use Rattle.std.proofs.lemmas.List.Sorted.{searched}
use Rattle.std.specs.List.{insert, remove}
use Rattle.bip_defs.specs.EditedMatrix.{with_number, with_place, without_number, without_place}
use Rattle.bip_defs.specs.Lists.{Among, IsRising, Lists, StandsAt}
use Rattle.bip_defs.specs.Matrix.{IsEntry, Matrix, Place, cols, column, entry_count}
use Rattle.bip_defs.proofs.EditLemmas.{changed_here, with_again, with_count, with_lists, without_absent, without_count, without_lists, without_none}
use Rattle.bip_defs.proofs.Sets.{among_at, below_each_sound, entry_col, place_among, test_is, test_is_not, rising_order}
use Rattle.edit_session.specs.Columns.{IsCounted, IsGap, RoomyMatrix}

with_first : (x y : ℕ) (ys : List ℕ) → x < y → with_number x (y ∷ ys) ≡ x ∷ y ∷ ys
with_first x y ys lt = rw (test_is x y lt) refl

with_later : (x y : ℕ) (ys : List ℕ) → y < x → with_number x (y ∷ ys) ≡ y ∷ with_number x ys
with_later x y ys lt = rw (test_is_not x y (omega arith), ne_eqb x y (λ e. omega (arith, e))) refl

-- a number that is inserted at its gap
pub inserted_number : (xs : List ℕ) (x at : ℕ) → IsGap xs x at → insert xs at x ≡ with_number x xs
inserted_number [] x zero gap = refl
inserted_number [] x (suc n) gap = absurd (let w = gap.within in omega (arith, w))
inserted_number (y ∷ ys) x zero gap = sym (with_first x y ys (gap.greater 0 (omega arith) (omega arith)))
inserted_number (y ∷ ys) x (suc n) gap = ap (λ zs. y ∷ zs) (inserted_number ys x n (record {
  within = (let w = gap.within in omega (arith, w));
  less = λ k lt. gap.less (suc k) (omega arith);
  greater = λ k le lt. gap.greater (suc k) (omega arith) (omega arith);
})) ∙ sym (with_later x y ys (gap.less 0 (omega arith)))

-- and one that is removed where it stands
pub removed_number : (xs : List ℕ) (x at : ℕ) → IsRising xs → StandsAt xs x at → remove xs at ≡ without_number x xs
removed_number [] x at a s = absurd (let lt = s.0 in omega (arith, lt))
removed_number (y ∷ ys) x zero a s = rw (eq-eqb y x s.1) (sym (without_absent x ys a.1 (λ h. let lt = below_each_sound y x ys a.0 h in omega (arith, lt, s.1))))
removed_number (y ∷ ys) x (suc n) a s =
    let few : n < length ys = (let lt = s.0 in omega (arith, lt)) in
    let lt = below_each_sound y x ys a.0 (subst (λ z. Among z ys) s.1 (among_at ys n 0 few)) in
    rw (ne_eqb y x (λ e. omega (arith, lt, e))) (ap (λ zs. y ∷ zs) (removed_number ys x n a.1 (few, s.1)))

-- What the search says.

pub gap_found : (xs : List ℕ) (x : ℕ) (r : Result ℕ ℕ) → IsRising xs → IsBinarySearchResult (λ y. nat_cmp y x) xs r → IfErr r (IsGap xs x)
gap_found xs x r a h = by r (searched xs x r h (rising_order xs a))
  where
    by : (r : Result ℕ ℕ) → MatchResult r (λ i. (i < length xs) × (get_or xs i 0 ≡ x)) (λ i. (i ≤ length xs) × ((k : ℕ) → k < i → get_or xs k 0 < x) × ((k : ℕ) → i ≤ k → k < length xs → x < get_or xs k 0)) → IfErr r (IsGap xs x)
    by (Ok i) h = tt
    by (Err i) h = record { within = h.0; less = h.1; greater = h.2 }

pub stands_found : (xs : List ℕ) (x : ℕ) (r : Result ℕ ℕ) → IsRising xs → IsBinarySearchResult (λ y. nat_cmp y x) xs r → IfOk r (StandsAt xs x)
stands_found xs x r a h = by r (searched xs x r h (rising_order xs a))
  where
    by : (r : Result ℕ ℕ) → MatchResult r (λ i. (i < length xs) × (get_or xs i 0 ≡ x)) (λ i. (i ≤ length xs) × ((k : ℕ) → k < i → get_or xs k 0 < x) × ((k : ℕ) → i ≤ k → k < length xs → x < get_or xs k 0)) → IfOk r (StandsAt xs x)
    by (Ok i) h = h
    by (Err i) h = tt

pub not_in_gap : (xs : List ℕ) (x at : ℕ) → IsGap xs x at → ¬ Among x xs
not_in_gap xs x at gap h = by (dec_lt (place_among x 0 xs h).0 at)
  where
    by : Dec ((place_among x 0 xs h).0 < at) → ⊥
    by (yes lt) = let (k, few, e) = place_among x 0 xs h in let less = gap.less k lt in omega (arith, less, e)
    by (no n) = let (k, few, e) = place_among x 0 xs h in let more = gap.greater k (omega (arith, n)) few in omega (arith, more, e)

pub entry_found : (a : Matrix) (r c : ℕ) (found : Result ℕ ℕ) → Lists (λ s. IsEntry a s c) (column a c) → IfOk found (StandsAt (column a c) r) → IfErr found (IsGap (column a c) r) → IsTrue (is_ok found) ↔ IsEntry a r c
entry_found a r c (Ok at) l here gap = (λ t. l.sound r (subst (λ z. Among z (column a c)) here.1 (among_at (column a c) at 0 here.0)), λ e. refl)
entry_found a r c (Err at) l here gap = (λ (t : false ≡ true). absurd (true≢false (sym t)), λ e. absurd (not_in_gap (column a c) r at gap e.1))

-- Edits.

pub counted_more : (a : Matrix) (n : ℕ) (p : Place) → IsCounted a n → p.0 < a.rows → p.1 < cols a → ¬ IsEntry a p.0 p.1 → entry_count a + 1 < 2 ^ 32 → IsCounted (with_place a p) (n + 1)
counted_more a n p k row col ne few =
    let count = with_count a p ne row col in
    record {
      pattern = record {
        few_rows = k.pattern.few_rows;
        few_cols = rw length-set k.pattern.few_cols;
        few_entries = omega (arith, count, few);
        columns = λ c. with_lists a p c row k.pattern.columns;
      };
      count = omega (arith, count, k.count);
    }

pub counted_less : (a : Matrix) (n : ℕ) (p : Place) → IsCounted a n → IsEntry a p.0 p.1 → IsCounted (without_place a p) (n - 1)
counted_less a n p k e =
    let count = without_count a p (k.pattern.columns p.1) e in
    let few = k.pattern.few_entries in
    record {
      pattern = record {
        few_rows = k.pattern.few_rows;
        few_cols = rw length-set k.pattern.few_cols;
        few_entries = omega (arith, count, few);
        columns = λ c. without_lists a p c k.pattern.columns;
      };
      count = omega (arith, count, k.count);
    }

abbrev pub matrix_of : ℕ → List (List ℕ) → Matrix
matrix_of rows lists = record { rows = rows; columns = lists }

pub put_matrix : (rows : ℕ) (lists lists2 : List (List ℕ)) (row col at : ℕ) → lists2 ≡ set lists col (insert (get_or lists col []) at row) → IsGap (get_or lists col []) row at → matrix_of rows lists2 ≡ with_place (matrix_of rows lists) (row, col)
put_matrix rows lists lists2 row col at e gap = λ i. matrix_of rows ((e ∙ ap (set lists col) (inserted_number (get_or lists col []) row at gap)) i)

pub taken_matrix : (rows : ℕ) (lists lists2 : List (List ℕ)) (row col at : ℕ) → lists2 ≡ set lists col (remove (get_or lists col []) at) → IsRising (get_or lists col []) → StandsAt (get_or lists col []) row at → matrix_of rows lists2 ≡ without_place (matrix_of rows lists) (row, col)
taken_matrix rows lists lists2 row col at e a s = λ i. matrix_of rows ((e ∙ ap (set lists col) (removed_number (get_or lists col []) row at a s)) i)

pub put_sees : (rows : ℕ) (lists lists2 : List (List ℕ)) (room : List ℕ) (row col at : ℕ) (now : RoomyMatrix) → record { matrix = matrix_of rows lists; room = room } ≡ now → lists2 ≡ set lists col (insert (get_or lists col []) at row) → IsGap (column now.matrix col) row at → matrix_of rows lists2 ≡ with_place now.matrix (row, col)
put_sees rows lists lists2 room row col at now view e = subst (λ (w : RoomyMatrix). IsGap (column w.matrix col) row at → matrix_of rows lists2 ≡ with_place w.matrix (row, col)) view (λ gap. put_matrix rows lists lists2 row col at e gap)

pub put_counted : (rows entries : ℕ) (lists lists2 : List (List ℕ)) (room : List ℕ) (row col at : ℕ) (now : RoomyMatrix) → record { matrix = matrix_of rows lists; room = room } ≡ now → IsCounted (matrix_of rows lists) entries → lists2 ≡ set lists col (insert (get_or lists col []) at row)
    → row < now.matrix.rows → col < cols now.matrix → entry_count now.matrix + 1 < 2 ^ 32 → IsGap (column now.matrix col) row at → IsCounted (matrix_of rows lists2) (entries + 1)
put_counted rows entries lists lists2 room row col at now view k e = subst (λ (w : RoomyMatrix). row < w.matrix.rows → col < cols w.matrix → entry_count w.matrix + 1 < 2 ^ 32 → IsGap (column w.matrix col) row at → IsCounted (matrix_of rows lists2) (entries + 1)) view
    (λ in_row in_col few gap. subst (λ a. IsCounted a (entries + 1)) (sym (put_matrix rows lists lists2 row col at e gap)) (counted_more (matrix_of rows lists) entries (row, col) k in_row in_col (λ f. not_in_gap (get_or lists col []) row at gap f.1) few))

pub put_same : (rows entries : ℕ) (lists : List (List ℕ)) (room : List ℕ) (row col : ℕ) (now : RoomyMatrix) → record { matrix = matrix_of rows lists; room = room } ≡ now → IsCounted (matrix_of rows lists) entries → IsEntry now.matrix row col → now.matrix ≡ with_place now.matrix (row, col)
put_same rows entries lists room row col now view k = subst (λ (w : RoomyMatrix). IsEntry w.matrix row col → w.matrix ≡ with_place w.matrix (row, col)) view (λ e. sym (with_again (matrix_of rows lists) (row, col) (k.pattern.columns col) e))

pub taken_sees : (rows entries : ℕ) (lists lists2 : List (List ℕ)) (room : List ℕ) (row col at : ℕ) (now : RoomyMatrix) → record { matrix = matrix_of rows lists; room = room } ≡ now → IsCounted (matrix_of rows lists) entries → lists2 ≡ set lists col (remove (get_or lists col []) at) → StandsAt (column now.matrix col) row at → matrix_of rows lists2 ≡ without_place now.matrix (row, col)
taken_sees rows entries lists lists2 room row col at now view k e = subst (λ (w : RoomyMatrix). StandsAt (column w.matrix col) row at → matrix_of rows lists2 ≡ without_place w.matrix (row, col)) view (λ s. taken_matrix rows lists lists2 row col at e (k.pattern.columns col).rising s)

pub taken_counted : (rows entries : ℕ) (lists lists2 : List (List ℕ)) (room : List ℕ) (row col at : ℕ) (now : RoomyMatrix) → record { matrix = matrix_of rows lists; room = room } ≡ now → IsCounted (matrix_of rows lists) entries → lists2 ≡ set lists col (remove (get_or lists col []) at) → StandsAt (column now.matrix col) row at → IsCounted (matrix_of rows lists2) (entries - 1)
taken_counted rows entries lists lists2 room row col at now view k e = subst (λ (w : RoomyMatrix). StandsAt (column w.matrix col) row at → IsCounted (matrix_of rows lists2) (entries - 1)) view
    (λ s. subst (λ a. IsCounted a (entries - 1)) (sym (taken_matrix rows lists lists2 row col at e (k.pattern.columns col).rising s)) (counted_less (matrix_of rows lists) entries (row, col) k ((k.pattern.columns col).sound row (subst (λ z. Among z (get_or lists col [])) s.1 (among_at (get_or lists col []) at 0 s.0)))))

pub taken_none : (rows entries : ℕ) (lists : List (List ℕ)) (room : List ℕ) (row col : ℕ) (now : RoomyMatrix) → record { matrix = matrix_of rows lists; room = room } ≡ now → IsCounted (matrix_of rows lists) entries → ¬ IsEntry now.matrix row col → now.matrix ≡ without_place now.matrix (row, col)
taken_none rows entries lists room row col now view k = subst (λ (w : RoomyMatrix). ¬ IsEntry w.matrix row col → w.matrix ≡ without_place w.matrix (row, col)) view (λ ne. sym (without_none (matrix_of rows lists) (row, col) (k.pattern.columns col) ne))

taken_room : (lists lists2 : List (List ℕ)) (room room2 : List ℕ) (col at : ℕ) → lists2 ≡ set lists col (remove (get_or lists col []) at) → room2 ≡ room → length (get_or lists col []) ≤ get_or room col 0 → col < length lists → at < length (get_or lists col []) → length (get_or lists2 col []) < get_or room2 col 0
taken_room lists lists2 room room2 col at e f filled lt few =
    let same : get_or lists2 col [] ≡ remove (get_or lists col []) at = ap (λ (ls : List (List ℕ)). get_or ls col []) e ∙ changed_here (matrix_of 0 lists) col (remove (get_or lists col []) at) lt in
    let long = length-remove (get_or lists col []) at few in
    let g = ap (λ rs. get_or rs col 0) f in
    omega (arith, ap length same, long, filled, g)

pub taken_has_room : (rows : ℕ) (lists lists2 : List (List ℕ)) (room room2 : List ℕ) (row col at : ℕ) (now : RoomyMatrix) → record { matrix = matrix_of rows lists; room = room } ≡ now → lists2 ≡ set lists col (remove (get_or lists col []) at) → room2 ≡ room → length (get_or lists col []) ≤ get_or room col 0
    → col < cols now.matrix → StandsAt (column now.matrix col) row at → length (get_or lists2 col []) < get_or room2 col 0
taken_has_room rows lists lists2 room room2 row col at now view e f filled = subst (λ (w : RoomyMatrix). col < cols w.matrix → StandsAt (column w.matrix col) row at → length (get_or lists2 col []) < get_or room2 col 0) view (λ lt s. taken_room lists lists2 room room2 col at e f filled lt s.0)

-- Columns that are copied, one after another.

pub copied_more : (a : Matrix) (n : ℕ) (lists : List (List ℕ)) (rows : List ℕ) → n < cols a → lists ≡ take n a.columns → rows ≡ column a n → lists ++ rows ∷ [] ≡ take (n + 1) a.columns
copied_more a n lists rows lt e f = ap (λ ls. ls ++ rows ∷ []) e ∙ ap (λ r. take n a.columns ++ r ∷ []) f ∙ sym (take_more a.columns n [] lt)

-- the lists of all columns, with the number of their entries
pub copied_counted : (a : Matrix) (n rows entries : ℕ) (lists : List (List ℕ)) → rows ≡ a.rows → n ≡ cols a → rows < 2 ^ 32 → cols a < 2 ^ 32 → entries < 2 ^ 32 → entry_count a ≡ entries → lists ≡ take n a.columns → ((c : ℕ) → c < n → Lists (λ r. IsEntry a r c) (column a c)) → IsCounted (record { rows = rows; columns = lists }) entries
copied_counted a n rows entries lists e f few_rows few_cols few_entries count copied listed = subst (λ (z : Matrix). IsCounted z entries) (λ i. record { rows = (sym e) i; columns = (sym whole) i }) (record {
  pattern = record {
    few_rows = omega (arith, e, few_rows);
    few_cols = few_cols;
    few_entries = omega (arith, count, few_entries);
    columns = λ c. by c (dec_lt c (cols a));
  };
  count = count;
})
  where
    whole : lists ≡ a.columns
    whole = copied ∙ take_all n a.columns (omega (arith, f))

    by : (c : ℕ) → Dec (c < cols a) → Lists (λ r. IsEntry a r c) (column a c)
    by c (yes lt) = listed c (omega (arith, f, lt))
    by c (no nlt) = subst (Lists (λ r. IsEntry a r c)) (sym (get_or_past a.columns c [] (omega (arith, nlt)))) (record { rising = tt; sound = λ r h. elim h [ ]; complete = λ r h. absurd (nlt (entry_col a r c h)) })
