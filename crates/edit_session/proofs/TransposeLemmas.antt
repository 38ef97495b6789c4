-- The transpose of a matrix, under edits too, and how many entries it has.
use Rattle.std.proofs.Common.{◌≡◌, ◌∙◌, ℕ, zero, suc, ◌+◌, ◌^◌, ◌<◌, ◌≤◌, List, [], ◌∷◌, ◌++◌, length, refl, sym, ap, subst, ⊎_elim, arith, sum_by, take, le_antisymm}
use Rattle.std.proofs.Math.Decide.{dec_lt}
use Rattle.std.proofs.lemmas.List.{ext_get_or, get_or_past, take_all, take_more}
use Rattle.bip_defs.specs.EditedMatrix.{with_number, with_place, without_number, without_place}
use Rattle.bip_defs.specs.Lists.{Among, AreDistinct, Lists}
use Rattle.bip_defs.specs.Matrix.{IsEntry, IsTransposeOf, Matrix, Place, cols, column, entry_count, row_list, transpose}
use Rattle.bip_defs.proofs.Counts.{distinct_append}
use Rattle.bip_defs.proofs.EditLemmas.{changed_cols, with_lists, with_place_kept, with_place_new, with_place_over, without_lists, without_place_back, without_place_over}
use Rattle.bip_defs.proofs.Full.{few_below}
use Rattle.bip_defs.proofs.Sets.{among_map_back, entry_col, lists_same, lists_unique, pigeonhole, rising_distinct}
use Rattle.bip_defs.proofs.Transposed.{row_list_lists, transpose_back, transpose_cols, transpose_column, transpose_is}
use Rattle.sp_ids.specs.Limits.{max_entries}
use Rattle.sp_pattern.specs.Stored.{IsPattern}
use Rattle.edit_session.specs.Columns.{IsCounted, column_places, first_places}
use Rattle.edit_session.proofs.PatternLemmas.{first_complete, first_length, first_sound}

-- A matrix of rising lists has one transpose of rising lists.

pub one_transpose : (a b : Matrix) → IsTransposeOf a b → ((r : ℕ) → Lists (λ c. IsEntry b c r) (column b r)) → b ≡ transpose a
one_transpose a b t l = λ i. record { rows = t.rows_are i; columns = same i }
  where
    same : b.columns ≡ (transpose a).columns
    same = ext_get_or [] b.columns (transpose a).columns (t.cols_are ∙ sym (transpose_cols a)) (λ r lt.
        let row : r < a.rows = (let e = t.cols_are in omega (arith, e, lt)) in
        lists_unique (λ c. IsEntry a r c) (column b r) (column (transpose a) r)
        (lists_same (λ c. IsEntry b c r) (λ c. IsEntry a r c) (column b r) (λ c e. t.back r c e) (λ c e. t.over r c e) (l r))
        (subst (Lists (λ c. IsEntry a r c)) (sym (transpose_column a r row)) (row_list_lists a r row)))

pub turned_lists : (a : Matrix) (r : ℕ) → Lists (λ c. IsEntry (transpose a) c r) (column (transpose a) r)
turned_lists a r = by (dec_lt r a.rows)
  where
    by : Dec (r < a.rows) → Lists (λ c. IsEntry (transpose a) c r) (column (transpose a) r)
    by (yes row) = lists_same (λ c. IsEntry a r c) (λ c. IsEntry (transpose a) c r) (column (transpose a) r) (λ c e. (transpose_is a).over r c e) (λ c e. (transpose_is a).back r c e)
        (subst (Lists (λ c. IsEntry a r c)) (sym (transpose_column a r row)) (row_list_lists a r row))
    by (no past) =
        let none : column (transpose a) r ≡ [] = get_or_past (transpose a).columns r [] (let e = transpose_cols a in omega (arith, e, past)) in
        subst (λ cs. Lists (λ c. (c < cols a) × Among c cs) cs) (sym none) (record { rising = tt; sound = λ c h. elim h [ ]; complete = λ c e. e.1 })

-- How many entries there are.

column_distinct : (n : ℕ) (rows : List ℕ) → AreDistinct rows → AreDistinct (column_places n rows)
column_distinct n [] d = tt
column_distinct n (r ∷ rows) d = (λ h. let (s, k, e) = among_map_back (λ (x : ℕ). (x, n)) (r, n) rows h in d.0 (subst (λ x. Among x rows) (ap (λ (p : Place). p.0) e) k), column_distinct n rows d.1)

places_distinct : (a : Matrix) (n : ℕ) → ((c : ℕ) → Lists (λ r. IsEntry a r c) (column a c)) → AreDistinct (first_places a n)
places_distinct a zero l = tt
places_distinct a (suc n) l = distinct_append (first_places a n) (column_places n (column a n)) (places_distinct a n l) (column_distinct n (column a n) (rising_distinct (column a n) (l n).rising))
    (λ p h k. let (s, g, e) = among_map_back (λ (x : ℕ). (x, n)) p (column a n) k in
    let (lt, f) = first_sound a n p.0 p.1 h in
    let same : n ≡ p.1 = ap (λ (q : Place). q.1) e in
    omega (arith, lt, same))

all_length : (a : Matrix) → length (first_places a (cols a)) ≡ entry_count a
all_length a = first_length a (cols a) (omega arith) ∙ ap (sum_by length) (take_all (cols a) a.columns (omega arith))

no_more : (a b : Matrix) → IsTransposeOf a b → ((c : ℕ) → Lists (λ r. IsEntry a r c) (column a c)) → entry_count a ≤ entry_count b
no_more a b t l =
    let few : length (first_places a (cols a)) ≤ length (first_places b (cols b)) = pigeonhole (λ (p q : Place). (q.0 ≡ p.1) × (q.1 ≡ p.0)) (λ x z y f g. λ i. ((sym f.1 ∙ g.1) i, (sym f.0 ∙ g.0) i)) (first_places a (cols a)) (first_places b (cols b)) (places_distinct a (cols a) l)
    (λ p h. let (lt, k) = first_sound a (cols a) p.0 p.1 h in let e = t.over p.0 p.1 ((l p.1).sound p.0 k) in ((p.1, p.0), first_complete b (cols b) p.1 p.0 (entry_col b p.1 p.0 e) e.1, (refl, refl))) in
    omega (arith, few, all_length a, all_length b)

-- the transpose has as many
pub transpose_count : (a : Matrix) → ((c : ℕ) → Lists (λ r. IsEntry a r c) (column a c)) → entry_count (transpose a) ≡ entry_count a
transpose_count a l = le_antisymm (no_more (transpose a) a (transpose_back a (transpose a) (transpose_is a)) (turned_lists a)) (no_more a (transpose a) (transpose_is a) l)

pub transpose_counted : (a : Matrix) (n : ℕ) → IsPattern a → entry_count a ≡ n → IsCounted (transpose a) n
transpose_counted a n k e =
    let count = transpose_count a k.columns in
    let few = k.few_entries in
    record {
      pattern = record {
        few_rows = k.few_cols;
        few_cols = rw transpose_cols k.few_rows;
        few_entries = omega (arith, count, few);
        columns = turned_lists a;
      };
      count = omega (arith, count, e);
    }

pub turned_few : (a b : Matrix) → b ≡ transpose a → IsPattern a → entry_count a < max_entries → entry_count b + 1 < 2 ^ 32
turned_few a b t k few = let count = transpose_count a k.columns in omega (arith, few, count, ap entry_count t)

pub turned_within : (a b : Matrix) (r : ℕ) → b ≡ transpose a → r < a.rows → r < cols b
turned_within a b r t lt = let e = transpose_cols a in omega (arith, lt, e, ap cols t)

-- Edits.

with_over : (a b : Matrix) (p : Place) → ((r c : ℕ) → IsEntry a r c → IsEntry b c r) → p.1 < b.rows → p.0 < cols b → (r c : ℕ) → IsEntry (with_place a p) r c → IsEntry (with_place b (p.1, p.0)) c r
with_over a b p over row col r c e = ⊎_elim
    (λ (f : (r, c) ≡ p). subst (λ (q : Place). IsEntry (with_place b (p.1, p.0)) q.1 q.0) (sym f) (with_place_new b (p.1, p.0) row col))
    (λ g. with_place_kept b (p.1, p.0) c r (over r c g))
    (with_place_over a p r c e)

without_over : (a b : Matrix) (p : Place) → ((r c : ℕ) → IsEntry a r c → IsEntry b c r) → (r c : ℕ) → IsEntry (without_place a p) r c → IsEntry (without_place b (p.1, p.0)) c r
without_over a b p over r c e = let (g, ne) = without_place_over a p r c e in without_place_back b (p.1, p.0) c r (over r c g) (λ f. ne (λ i. ((f i).1, (f i).0)))

-- an entry that is set in a matrix is set in its transpose
pub with_transpose : (a : Matrix) (p : Place) → p.0 < a.rows → p.1 < cols a → with_place (transpose a) (p.1, p.0) ≡ transpose (with_place a p)
with_transpose a p row col =
    let t = transpose_is a in
    let down : p.0 < cols (transpose a) = rw transpose_cols row in
    one_transpose (with_place a p) (with_place (transpose a) (p.1, p.0)) (record {
      rows_are = sym (changed_cols a p.1 (with_number p.0 (column a p.1)));
      cols_are = changed_cols (transpose a) p.0 (with_number p.1 (column (transpose a) p.0)) ∙ transpose_cols a;
      over = λ r c e. with_over a (transpose a) p t.over col down r c e;
      back = λ r c e. with_over (transpose a) a (p.1, p.0) (λ c r f. t.back r c f) row col c r e;
    }) (λ r. with_lists (transpose a) (p.1, p.0) r col (turned_lists a))

pub without_transpose : (a : Matrix) (p : Place) → without_place (transpose a) (p.1, p.0) ≡ transpose (without_place a p)
without_transpose a p =
    let t = transpose_is a in
    one_transpose (without_place a p) (without_place (transpose a) (p.1, p.0)) (record {
      rows_are = sym (changed_cols a p.1 (without_number p.0 (column a p.1)));
      cols_are = changed_cols (transpose a) p.0 (without_number p.1 (column (transpose a) p.0)) ∙ transpose_cols a;
      over = λ r c e. without_over a (transpose a) p t.over r c e;
      back = λ r c e. without_over (transpose a) a (p.1, p.0) (λ c r f. t.back r c f) c r e;
    }) (λ r. without_lists (transpose a) (p.1, p.0) r (turned_lists a))

-- The rows of a pattern, one after another.

pub row_few : (a : Matrix) (r : ℕ) (cs : List ℕ) → IsPattern a → Lists (λ c. IsEntry a r c) cs → length cs < 2 ^ 32
row_few a r cs k l =
    let few = few_below (cols a) cs (rising_distinct cs l.rising) (λ c h. entry_col a r c (l.sound c h)) in
    let all = k.few_cols in
    omega (arith, few, all)

pub next_row : (a : Matrix) (n : ℕ) (lists : List (List ℕ)) (row : List ℕ) → n < a.rows → lists ≡ take n (transpose a).columns → row ≡ row_list a n → lists ++ row ∷ [] ≡ take (n + 1) (transpose a).columns
next_row a n lists row lt e f =
    ap (λ ls. ls ++ row ∷ []) e ∙ ap (λ r. take n (transpose a).columns ++ r ∷ []) (f ∙ sym (transpose_column a n lt))
    ∙ sym (take_more (transpose a).columns n [] (rw transpose_cols lt))

pub all_rows : (a : Matrix) (n : ℕ) (lists : List (List ℕ)) → n ≡ a.rows → lists ≡ take n (transpose a).columns → lists ≡ (transpose a).columns
all_rows a n lists e f = f ∙ take_all n (transpose a).columns (let long = transpose_cols a in omega (arith, long, e))
