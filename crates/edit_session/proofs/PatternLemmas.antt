-- The places of columns, column by column.
use Rattle.std.proofs.Common.{◌≡◌, ◌∙◌, ℕ, zero, suc, ◌+◌, ◌^◌, ◌<◌, ◌≤◌, List, [], length, take, refl, sym, ap, subst, ⊎_elim, arith, sum_by, Ok, Err, IfOk}
use Rattle.std.specs.Prelude.{Result}
use Rattle.std.proofs.lemmas.List.{length-append, length-map}
use Rattle.std.proofs.lemmas.List.Sums.{sum_by-take-le, sum_by_more}
use Rattle.bip_defs.specs.Lists.{Among}
use Rattle.bip_defs.specs.Matrix.{HasPlaces, Matrix, Place, cols, column, entry_count}
use Rattle.bip_defs.proofs.Sets.{among_either, among_left, among_map, among_map_back, among_right, entry_col, number_same}
use Rattle.bip_defs.proofs.Uniqueness.{same_matrix}
use Rattle.sp_pattern.specs.Stored.{IsPattern}
use Rattle.edit_session.specs.Columns.{column_places, first_places}

pub first_length : (a : Matrix) (n : ℕ) → n ≤ cols a → length (first_places a n) ≡ sum_by length (take n a.columns)
first_length a zero le = refl
first_length a (suc n) le =
    let more = sum_by_more length a.columns n [] (omega arith) in
    let e : suc n ≡ n + 1 = omega arith in
    length-append (first_places a n) (column_places n (column a n)) ∙ omega (arith, first_length a n (omega arith), length-map {B = Place} (column a n) (λ r. (r, n)), more, ap (λ k. sum_by length (take k a.columns)) e)

pub first_few : (a : Matrix) (n : ℕ) → n < cols a → length (first_places a n) + length (column a n) ≤ entry_count a
first_few a n lt =
    let more = sum_by_more length a.columns n [] lt in
    let le = sum_by-take-le length a.columns (n + 1) in
    omega (arith, first_length a n (omega arith), more, le)

pub first_sound : (a : Matrix) (n r c : ℕ) → Among (r, c) (first_places a n) → (c < n) × Among r (column a c)
first_sound a zero r c h = elim h [ ]
first_sound a (suc n) r c h = ⊎_elim
    (λ g. let (lt, k) = first_sound a n r c g in (omega (arith, lt), k))
    (λ g. let (s, k, e) = among_map_back (λ (x : ℕ). (x, n)) (r, c) (column a n) g in
    let row : s ≡ r = ap (λ (p : Place). p.0) e in
    let col : n ≡ c = ap (λ (p : Place). p.1) e in
    (omega (arith, col), subst (λ d. Among r (column a d)) col (subst (λ x. Among x (column a n)) row k)))
    (among_either (r, c) (first_places a n) (column_places n (column a n)) h)

pub first_complete : (a : Matrix) (n r c : ℕ) → c < n → Among r (column a c) → Among (r, c) (first_places a n)
first_complete a zero r c lt h = absurd (omega arith)
first_complete a (suc n) r c lt h = ⊎_elim
    (λ (e : c ≡ n). among_right (r, c) (first_places a n) (column_places n (column a n)) (subst (λ d. Among (r, d) (column_places n (column a n))) (sym e) (among_map (λ (x : ℕ). (x, n)) r (column a n) (subst (λ d. Among r (column a d)) e h))))
    (λ ne. among_left (r, c) (first_places a n) (column_places n (column a n)) (first_complete a n r c (omega (arith, ne, lt)) h))
    (number_same c n)

pub all_places : (a : Matrix) (n : ℕ) → IsPattern a → n ≡ cols a → HasPlaces a.rows (cols a) (first_places a n) a
all_places a n k e = record {
  rows_are = refl;
  cols_are = refl;
  entries = λ r c. (
    λ g. let col = entry_col a r c g in first_complete a n r c (omega (arith, col, e)) g.1,
    λ g. let (lt, h) = first_sound a n r c g in (k.columns c).sound r h,
  );
  columns = k.columns;
}

pub places_fit : (a : Matrix) (n long : ℕ) (items : List Place) (rows : List ℕ) → IsPattern a → n < cols a → items ≡ first_places a n → length items ≡ long → rows ≡ column a n → long + length rows < 2 ^ 32
places_fit a n long items rows k lt e f g =
    let few = first_few a n lt in
    let all = k.few_entries in
    omega (arith, few, all, ap length e, f, ap length g)

pub placed_matrix : (a : Matrix) (rows width n : ℕ) (ps : List Place) → IsPattern a → rows ≡ a.rows → width ≡ cols a → n ≡ cols a → ps ≡ first_places a n → HasPlaces rows width ps a
placed_matrix a rows width n ps k row col all e = subst (λ r. HasPlaces r width ps a) (sym row) (subst (λ w. HasPlaces a.rows w ps a) (sym col) (subst (λ qs. HasPlaces a.rows (cols a) qs a) (sym e) (all_places a n k all)))

pub same_pattern : {E : Type 0} (r : Result Matrix E) (rows width : ℕ) (ps : List Place) (a : Matrix) → HasPlaces rows width ps a → IfOk r (HasPlaces rows width ps) → IfOk r (λ b. b ≡ a)
same_pattern (Ok b) rows width ps a h k = same_matrix rows width ps b a k h
same_pattern (Err e) rows width ps a h k = tt
