-- What holds of a matrix whose columns and rows are listed, rising.
use Rattle.std.proofs.Common.{◌≡◌, ◌↔◌, ℕ, ◌+◌, ◌<◌, ◌≤◌, List, [], length, get_or, refl, sym, arith, IsTrue, slice_index_or, subst, Ok, Err, is_ok, IsTrue, true≢false, nat_cmp}
use Rattle.std.proofs.lemmas.List.{get_or_past}
use Rattle.std.specs.List.Sorted.{IsBinarySearchResult}
use Rattle.std.proofs.Math.Decide.{dec_lt}
use Rattle.std.proofs.lemmas.List.Sorted.{searched}
use Rattle.std.specs.declared.result.Result.{Result}
use Rattle.bip_defs.specs.Lists.{Among, Lists}
use Rattle.bip_defs.specs.Matrix.{IsEntry, Matrix, column, cols, entry_count, row_list}
use Rattle.bip_defs.specs.Pieces.{piece, pieces}
use Rattle.sp_pattern.specs.Stored.{AreOrders, IsPattern, stored}
use Rattle.bip_defs.proofs.Pieces.{get_or-pieces, length-pieces, sum_by-length-pieces}
use Rattle.bip_defs.proofs.Sets.{among_at, place_among, lists_unique, rising_order}
use Rattle.bip_defs.proofs.Transposed.{row_list_lists}

pub row_list_unique : (a : Matrix) (r : ℕ) (xs : List ℕ) → r < a.rows → Lists (λ c. IsEntry a r c) xs → xs ≡ row_list a r
row_list_unique a r xs lt l = lists_unique (λ c. IsEntry a r c) xs (row_list a r) l (row_list_lists a r lt)

-- Both orders.

pub orders_columns : (cs rs us vs : List ℕ) → AreOrders cs rs us vs → (c : ℕ) → Lists (λ r. IsEntry (stored cs rs us) r c) (column (stored cs rs us) c)
orders_columns cs rs us vs o c = by (dec_lt (c + 1) (length cs))
  where
    by : Dec (c + 1 < length cs) → Lists (λ r. IsEntry (stored cs rs us) r c) (column (stored cs rs us) c)
    by (yes lt) = subst (Lists (λ r. IsEntry (stored cs rs us) r c)) (sym (get_or-pieces cs rs c [] lt)) (o.rows c lt)
    by (no nlt) =
        let one = o.by_col.one in
        let none : column (stored cs rs us) c ≡ [] = get_or_past (pieces cs rs) c [] (rw length-pieces (omega arith)) in
        subst (Lists (λ r. IsEntry (stored cs rs us) r c)) (sym none)
        record { rising = tt; sound = λ x h. elim h [ ]; complete = λ x e. subst (Among x) none e.1 }

pub orders_pattern : (cs rs us vs : List ℕ) → AreOrders cs rs us vs → IsPattern (stored cs rs us)
orders_pattern cs rs us vs o = record {
  few_rows = let one = o.by_row.one in let few = o.few_rows in omega arith;
  few_cols = let one = o.by_col.one in let few = o.few_cols in rw length-pieces (omega arith);
  few_entries = rw (sum_by-length-pieces cs rs o.by_col) o.few_entries;
  columns = orders_columns cs rs us vs o;
}

pub orders_entries : (cs rs us vs : List ℕ) → AreOrders cs rs us vs → entry_count (stored cs rs us) ≡ length rs
orders_entries cs rs us vs o = sum_by-length-pieces cs rs o.by_col

-- the column's part of the flat list
pub col_fits : (cs rs us : List ℕ) (c : ℕ) → c < cols (stored cs rs us) → c + 1 < length cs
col_fits cs rs us c lt = let lt' : c < length (pieces cs rs) = lt in let n = length-pieces cs rs in omega (arith, lt', n)

pub piece_column : (cs rs us : List ℕ) (c : ℕ) → c < cols (stored cs rs us) → piece cs rs c ≡ column (stored cs rs us) c
piece_column cs rs us c lt = sym (get_or-pieces cs rs c [] (col_fits cs rs us c lt))

pub piece_rows : (cs rs us vs : List ℕ) (c : ℕ) → AreOrders cs rs us vs → c < cols (stored cs rs us) → Lists (λ r. IsEntry (stored cs rs us) r c) (piece cs rs c)
piece_rows cs rs us vs c o lt = o.rows c (col_fits cs rs us c lt)

-- Looking for a row.

-- where a search finds none, none is there
pub found_nowhere : (P : ℕ → Type 0) (xs : List ℕ) (x i : ℕ) → Lists P xs → IsBinarySearchResult (λ y. nat_cmp y x) xs (Err i) → ¬ P x
found_nowhere P xs x i l h p = apart (searched xs x (Err i) h (rising_order xs l.rising)) (place_among x 0 xs (l.complete x p))
  where
    apart : (i ≤ length xs) × ((k : ℕ) → k < i → get_or xs k 0 < x) × ((k : ℕ) → i ≤ k → k < length xs → x < get_or xs k 0) → (k : ℕ) × (k < length xs) × (slice_index_or xs k 0 ≡ x) → ⊥
    apart s (k, lt, e) = by (dec_lt k i)
      where
        by : Dec (k < i) → ⊥
        by (yes h) = let below = s.1 k h in omega arith
        by (no nh) = let above = s.2 k (omega arith) lt in omega arith

pub found_iff : (P : ℕ → Type 0) (xs : List ℕ) (x : ℕ) (r : Result ℕ ℕ) → Lists P xs → IsBinarySearchResult (λ y. nat_cmp y x) xs r → IsTrue (is_ok r) ↔ P x
found_iff P xs x (Ok i) l h =
    let s = searched xs x (Ok i) h (rising_order xs l.rising) in
    ((λ _. l.sound x (subst (λ y. Among y xs) s.1 (among_at xs i 0 s.0))), λ _. refl)
found_iff P xs x (Err i) l h = ((λ t. absurd (true≢false (sym t))), λ p. absurd (found_nowhere P xs x i l h p))
