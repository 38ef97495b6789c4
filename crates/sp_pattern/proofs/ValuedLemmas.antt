-- The triples of compressed columns with values, one by one, and where their sums stand.
use Rattle.std.proofs.Common.{◌≡◌, ◌≢◌, ◌⊎◌, ◌∙◌, ℕ, ℤ, zero, suc, pos, ◌+◌, ◌-◌, ◌+ℤ◌, ◌<◌, ◌≤◌, List, [], ◌∷◌, length, get_or, set, drop, refl, sym, ap, arith, subst, inl, inr, length-append, take_all, FitsSigned, nat_eq, true, nat_cmp}
use Rattle.std.specs.List.{slice_range}
use Rattle.std.specs.Int.{w64}
use Rattle.std.proofs.lemmas.List.{get_or-map, get_or-take, get_or-drop, get_or_append_left, get_or-append_right, get_or_default}
use Rattle.std.proofs.lemmas.Bool.Decides.{nat_tests}
use Rattle.std.specs.List.Sorted.{IsBinarySearchResult}
use Rattle.std.specs.declared.result.Result.{Result}
use Rattle.std.specs.Result.{result_unwrap_or}
use Rattle.bip_defs.specs.Lists.{Among, IsRising}
use Rattle.bip_defs.specs.Matrix.{IsEntry, Matrix, column, cols}
use Rattle.bip_defs.specs.Pieces.{AreStarts, piece}
use Rattle.bip_defs.proofs.Pieces.{length-slice_range, start_within}
use Rattle.bip_defs.proofs.Sets.{among_at, number_same, upto_mapped}
use Rattle.sp_ids.specs.Entries.{Triple, place, places, values}
use Rattle.sp_pattern.specs.Columns.{AreColumns, matrix_of, rows_given}
use Rattle.sp_pattern.specs.ValuedColumns.{IsFirstId, IsFirstIdPast, entries_given, triples_in, triples_of_first}
use Rattle.sp_pattern.specs.Weights.{AreSums, IsFirstPast, place_in, position, start_of}
use Rattle.sp_pattern.proofs.ColumnLemmas.{given_entry}
use Rattle.sp_pattern.proofs.SumLemmas.{AreSumsSoFar, no_triple, so_far_next}
use Rattle.sp_pattern.proofs.Weighed.{found_place, place_in_at, position_fits}

-- The triples of one column.

in_length : (c : ℕ) (ids : List ℕ) (vs : List ℤ) → length vs ≡ length ids → length (triples_in c ids vs) ≡ length ids
in_length c [] vs e = refl
in_length c (r ∷ ids) [] e = absurd (omega (arith, e))
in_length c (r ∷ ids) (v ∷ vs) e = ap suc (in_length c ids vs (omega (arith, e)))

in_at : (c : ℕ) (ids : List ℕ) (vs : List ℤ) (j : ℕ) → length vs ≡ length ids → j < length ids → get_or (triples_in c ids vs) j no_triple ≡ record { row = get_or ids j 0; col = c; value = get_or vs j (pos 0) }
in_at c [] vs j e lt = absurd (omega (arith, lt))
in_at c (r ∷ ids) [] j e lt = absurd (omega (arith, e))
in_at c (r ∷ ids) (v ∷ vs) zero e lt = refl
in_at c (r ∷ ids) (v ∷ vs) (suc j) e lt = in_at c ids vs j (omega (arith, e)) (omega (arith, lt))

part_at : {X : Type 0} (xs : List X) (d : X) (from to j : ℕ) → from + j < to → get_or (slice_range xs from to) j d ≡ get_or xs (from + j) d
part_at xs d from to j lt = get_or-take (to - from) (drop from xs) j d (omega (arith, lt)) ∙ get_or-drop from xs j d

-- The triples of all columns.

starts_rise : (starts ids : List ℕ) → AreStarts starts ids → (c n : ℕ) → c ≤ n → n < length starts → get_or starts c 0 ≤ get_or starts n 0
starts_rise starts ids s c zero le lt = let e : c ≡ 0 = omega arith in rw e (omega arith)
starts_rise starts ids s c (suc n) le lt = by (number_same c (suc n)) (λ at. starts_rise starts ids s c n at (omega (arith, lt)))
  where
    by : (c ≡ suc n) ⊎ (c ≢ suc n) → (c ≤ n → get_or starts c 0 ≤ get_or starts n 0) → get_or starts c 0 ≤ get_or starts (suc n) 0
    by (inl e) rest = rw e (omega arith)
    by (inr ne) rest =
        let before = rest (omega (arith, le, ne)) in
        let one : suc n ≡ n + 1 = omega arith in
        let step = s.rise n (omega (arith, lt)) in
        rw one (omega (arith, before, step))

piece_long : {X : Type 0} (starts ids : List ℕ) (flat : List X) → AreStarts starts ids → length flat ≡ length ids → (c : ℕ) → c + 1 < length starts → length (piece starts flat c) ≡ get_or starts (c + 1) 0 - get_or starts c 0
piece_long starts ids flat s e c lt = length-slice_range flat (get_or starts c 0) (get_or starts (c + 1) 0) (let w = start_within starts ids s (c + 1) lt in omega (arith, w, e))

first_length : (n : ℕ) (starts ids : List ℕ) (vs : List ℤ) → AreStarts starts ids → length vs ≡ length ids → n < length starts → length (triples_of_first n starts ids vs) ≡ get_or starts n 0
first_length zero starts ids vs s e lt = sym s.first
first_length (suc n) starts ids vs s e lt =
    let one : suc n ≡ n + 1 = omega arith in
    let inside : n + 1 < length starts = omega (arith, lt) in
    let rest = first_length n starts ids vs s e (omega (arith, lt)) in
    let long = piece_long starts ids ids s refl n inside in
    let many = in_length n (piece starts ids n) (piece starts vs n) (piece_long starts ids vs s e n inside ∙ sym long) in
    let rise = s.rise n inside in
    rw (length-append, one) (omega (arith, rest, long, many, rise))

first_at : (n : ℕ) (starts ids : List ℕ) (vs : List ℤ) (c k : ℕ) → AreStarts starts ids → length vs ≡ length ids → n < length starts → c < n → get_or starts c 0 ≤ k → k < get_or starts (c + 1) 0
    → get_or (triples_of_first n starts ids vs) k no_triple ≡ record { row = get_or ids k 0; col = c; value = get_or vs k (pos 0) }
first_at zero starts ids vs c k s e lt cn from to = absurd (omega (arith, cn))
first_at (suc n) starts ids vs c k s e lt cn from to = by (number_same c n) (λ l. first_at n starts ids vs c k s e (omega (arith, lt)) l from to)
  where
    many : length (triples_of_first n starts ids vs) ≡ get_or starts n 0
    many = first_length n starts ids vs s e (omega (arith, lt))

    by : (c ≡ n) ⊎ (c ≢ n) → (c < n → get_or (triples_of_first n starts ids vs) k no_triple ≡ record { row = get_or ids k 0; col = c; value = get_or vs k (pos 0) })
        → get_or (triples_of_first (suc n) starts ids vs) k no_triple ≡ record { row = get_or ids k 0; col = c; value = get_or vs k (pos 0) }
    by (inl same) rest =
        let inside : n + 1 < length starts = omega (arith, lt) in
        let low : get_or starts n 0 ≤ k = subst (λ i. get_or starts i 0 ≤ k) same from in
        let high : k < get_or starts (n + 1) 0 = subst (λ i. k < get_or starts (i + 1) 0) same to in
        let j = k - get_or starts n 0 in
        let back : get_or starts n 0 + j ≡ k = omega (arith, low) in
        let long = piece_long starts ids ids s refl n inside in
        let longs = piece_long starts ids vs s e n inside in
        get_or-append_right (triples_of_first n starts ids vs) (triples_in n (piece starts ids n) (piece starts vs n)) (get_or starts n 0) k no_triple many low
        ∙ in_at n (piece starts ids n) (piece starts vs n) j (longs ∙ sym long) (omega (arith, long, low, high))
        ∙ (λ i. record {
          row = (part_at ids 0 (get_or starts n 0) (get_or starts (n + 1) 0) j (omega (arith, back, high)) ∙ ap (λ m. get_or ids m 0) back) i;
          col = sym same i;
          value = (part_at vs (pos 0) (get_or starts n 0) (get_or starts (n + 1) 0) j (omega (arith, back, high)) ∙ ap (λ m. get_or vs m (pos 0)) back) i;
        })
    by (inr ne) rest =
        let before = starts_rise starts ids s (c + 1) n (omega (arith, cn, ne)) (omega (arith, lt)) in
        get_or_append_left (triples_of_first n starts ids vs) (triples_in n (piece starts ids n) (piece starts vs n)) no_triple k (omega (arith, before, to, many)) ∙ rest (omega (arith, cn, ne))

-- What a column's id adds.

-- the lists are the columns of the matrix, with values
pub record AreValued (a : Matrix) (starts ids : List ℕ) (vs : List ℤ) : Type 0 where
  pub columns : AreColumns a.rows starts ids
  pub matrix_is : a ≡ matrix_of a.rows starts ids
  pub long : length vs ≡ length ids

pub valued_long : (a : Matrix) (starts ids : List ℕ) (vs : List ℤ) → AreValued a starts ids vs → length (entries_given a.rows starts ids vs).items ≡ length ids
valued_long a starts ids vs v =
    let some = v.columns.starts_are.one in
    let last = v.columns.starts_are.last in
    first_length (length starts - 1) starts ids vs v.columns.starts_are v.long (omega (arith, some)) ∙ last

pub valued_cols : (a : Matrix) (starts ids : List ℕ) (vs : List ℤ) → AreValued a starts ids vs → cols a + 1 ≡ length starts
valued_cols a starts ids vs v =
    let some = v.columns.starts_are.one in
    let many = ap cols v.matrix_is ∙ upto_mapped (rows_given a.rows starts ids) (length starts - 1) in
    omega (arith, some, many)

-- an id of a column is the row of an entry
pub valued_entry : (a : Matrix) (starts ids : List ℕ) (vs : List ℤ) (c k : ℕ) → AreValued a starts ids vs → c < cols a → get_or starts c 0 ≤ k → k < get_or starts (c + 1) 0 → IsEntry a (get_or ids k 0) c
valued_entry a starts ids vs c k v lt from to =
    let many = valued_cols a starts ids vs v in
    let inside : c + 1 < length starts = omega (arith, many, lt) in
    let j = k - get_or starts c 0 in
    let back : get_or starts c 0 + j ≡ k = omega (arith, from) in
    let long = piece_long starts ids ids v.columns.starts_are refl c inside in
    let here : Among (get_or ids k 0) (piece starts ids c) = subst (λ x. Among x (piece starts ids c)) (part_at ids 0 (get_or starts c 0) (get_or starts (c + 1) 0) j (omega (arith, back, to)) ∙ ap (λ m. get_or ids m 0) back) (among_at (piece starts ids c) j 0 (omega (arith, long, from, to))) in
    subst (λ (b : Matrix). IsEntry b (get_or ids k 0) c) (sym v.matrix_is) ((given_entry a.rows starts ids (get_or ids k 0) c v.columns).1 (omega (arith, inside), here))

pub valued_inside : (a : Matrix) (starts ids : List ℕ) (vs : List ℤ) (c n : ℕ) → AreValued a starts ids vs → n ≡ cols a → c < n → c + 1 < length starts
valued_inside a starts ids vs c n v e lt = let many = valued_cols a starts ids vs v in omega (arith, many, e, lt)

pub valued_id : (a : Matrix) (starts ids : List ℕ) (vs : List ℤ) (c n k : ℕ) → AreValued a starts ids vs → n ≡ cols a → c < n → k < get_or starts (c + 1) 0 → k < length ids
valued_id a starts ids vs c n k v e lt to = let within = start_within starts ids v.columns.starts_are (c + 1) (valued_inside a starts ids vs c n v e lt) in omega (arith, within, to)

-- where an entry of a column stands
pub valued_place : (a : Matrix) (c first near row : ℕ) (rows : List ℕ) → first ≡ start_of a c → near ≡ place_in row rows → rows ≡ column a c → first + near ≡ position a row c
valued_place a c first near row rows e f g = λ i. e i + (f ∙ ap (place_in row) g) i

-- with its value, the sums of one id more
pub valued_next : (a : Matrix) (starts ids : List ℕ) (vs : List ℤ) (c k at : ℕ) (sums : List ℤ) (old new value : ℤ) → AreValued a starts ids vs → ((d : ℕ) → IsRising (column a d)) → c < cols a → get_or starts c 0 ≤ k → k < get_or starts (c + 1) 0
    → AreSumsSoFar (entries_given a.rows starts ids vs) a k sums → value ≡ get_or vs k (pos 0) → FitsSigned w64 value → at ≡ position a (get_or ids k 0) c → old ≡ get_or sums at (pos 0) → new ≡ old +ℤ value → AreSumsSoFar (entries_given a.rows starts ids vs) a (k + 1) (set sums at new)
valued_next a starts ids vs c k at sums old new value v up lt from to was is fits there read made =
    let t = entries_given a.rows starts ids vs in
    let many = valued_cols a starts ids vs v in
    let all = valued_long a starts ids vs v in
    let within = start_within starts ids v.columns.starts_are (c + 1) (omega (arith, many, lt)) in
    let inside : k < length t.items = omega (arith, all, within, to) in
    let triple = first_at (length starts - 1) starts ids vs c k v.columns.starts_are v.long (omega (arith, many)) (omega (arith, many, lt)) from to in
    let here : (get_or ids k 0, c) ≡ get_or (places t) k (0, 0) = sym (get_or-map place t.items k no_triple (0, 0) inside ∙ ap place triple) in
    let valued : value ≡ get_or (values t) k (pos 0) = is ∙ sym (get_or-map (λ (u : Triple). u.value) t.items k no_triple (pos 0) inside ∙ ap (λ (u : Triple). u.value) triple) in
    so_far_next t a k sums at (get_or ids k 0, c) value old new up (valued_entry a starts ids vs c k v lt from to) was inside here valued fits there read made

-- Where a row stands in a column.

pub found_near : (rows : List ℕ) (k row read : ℕ) → IsRising rows → k < length rows → read ≡ get_or rows k read → nat_eq read row ≡ true → k ≡ place_in row rows
found_near rows k row read up lt is same =
    let at : read ≡ get_or rows k 0 = is ∙ get_or_default rows k read 0 lt in
    let equal : read ≡ row = nat_eq_sound read row same in
    sym (ap (λ x. place_in x rows) (sym equal ∙ at) ∙ place_in_at rows k up lt)
  where
    nat_eq_sound : (x y : ℕ) → nat_eq x y ≡ true → x ≡ y
    nat_eq_sound x y e = grind (arith, nat_tests)

pub found_listed : (rows : List ℕ) (row : ℕ) (found : Result ℕ ℕ) → IsRising rows → Among row rows → IsBinarySearchResult (λ y. nat_cmp y row) rows found → result_unwrap_or found 0 ≡ place_in row rows
found_listed rows row found up h r = found_place (λ x. Among x rows) rows row found (record { rising = up; sound = λ x g. g; complete = λ x g. g }) h r

-- The first place whose sum passes the limit.

pub past_given : (a : Matrix) (starts ids : List ℕ) (vs : List ℤ) (r c : ℕ) → AreValued a starts ids vs → IsFirstPast (entries_given a.rows starts ids vs) a r c → (c + 1 < length starts) × (get_or starts (c + 1) 0 ≤ length ids) × Among r (piece starts ids c)
past_given a starts ids vs r c v past =
    let both = (given_entry a.rows starts ids r c v.columns).0 (subst (λ (b : Matrix). IsEntry b r c) v.matrix_is past.entry) in
    let lt = both.0 in
    let inside : c + 1 < length starts = omega (arith, lt) in (inside, start_within starts ids v.columns.starts_are (c + 1) inside, both.1)

pub past_told : (a : Matrix) (starts ids : List ℕ) (vs : List ℤ) (r c k : ℕ) → AreValued a starts ids vs → IsFirstPast (entries_given a.rows starts ids vs) a r c → IsFirstId starts ids r c k → IsFirstIdPast a.rows starts ids vs k
past_told a starts ids vs r c k v past id = record {
  row = r;
  col = c;
  past = subst (λ (b : Matrix). IsFirstPast (entries_given a.rows starts ids vs) b r c) v.matrix_is past;
  id = id;
}

-- where a column's sum is read and written
pub valued_at : (a : Matrix) (starts ids : List ℕ) (vs sums : List ℤ) (c n k first near row : ℕ) (rows : List ℕ) → AreValued a starts ids vs → n ≡ cols a → c < n → get_or starts c 0 ≤ k → k < get_or starts (c + 1) 0 → AreSumsSoFar (entries_given a.rows starts ids vs) a k sums
    → first ≡ start_of a c → near ≡ place_in row rows → row ≡ get_or ids k 0 → rows ≡ column a c → (first + near ≡ position a (get_or ids k 0) c) × (first + near < length sums)
valued_at a starts ids vs sums c n k first near row rows v e lt from to was begins there is same =
    let at = valued_place a c first near row rows begins there same ∙ ap (λ r. position a r c) is in
    let within = position_fits a (get_or ids k 0) c (valued_entry a starts ids vs c k v (omega (arith, e, lt)) from to) in
    let long = was.sums_are.long in (at, omega (arith, at, within, long))

pub valued_rise : (a : Matrix) (starts ids : List ℕ) (vs : List ℤ) (c n : ℕ) → AreValued a starts ids vs → n ≡ cols a → c < n → get_or starts c 0 ≤ get_or starts (c + 1) 0
valued_rise a starts ids vs c n v e lt = v.columns.starts_are.rise c (valued_inside a starts ids vs c n v e lt)

-- all columns have been added up
pub valued_end : (a : Matrix) (starts ids : List ℕ) (vs : List ℤ) (c n : ℕ) (sums : List ℤ) → AreValued a starts ids vs → n ≡ cols a → c ≡ n → AreSumsSoFar (entries_given a.rows starts ids vs) a (get_or starts c 0) sums → AreSums (entries_given a.rows starts ids vs).items a sums
valued_end a starts ids vs c n sums v e same was =
    let many = valued_cols a starts ids vs v in
    let last : c ≡ length starts - 1 = omega (arith, e, same, many) in
    let all : get_or starts c 0 ≡ length (entries_given a.rows starts ids vs).items = ap (λ i. get_or starts i 0) last ∙ v.columns.starts_are.last ∙ sym (valued_long a starts ids vs v) in
    subst (λ ts. AreSums ts a sums) (take_all (get_or starts c 0) (entries_given a.rows starts ids vs).items (omega (arith, all))) was.sums_are
