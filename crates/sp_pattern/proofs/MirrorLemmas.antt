-- Places with their mirror images, and flat lists that grow part by part.
use Rattle.std.proofs.Common.{◌≡◌, ◌≢◌, ◌⊎◌, ◌∙◌, ℕ, ◌+◌, ◌-◌, ◌<◌, ◌≤◌, List, [], ◌∷◌, ◌++◌, length, filter, get_or, map, nat_lt, take, drop, refl, sym, ap, arith, inl, inr, ⊎_elim, take_all, append_assoc, if◌then◌else◌}
use Rattle.std.proofs.Math.Decide.{dec_lt}
use Rattle.std.proofs.Math.Seq.{drop-append_seam, get_or-append_seam}
use Rattle.std.proofs.lemmas.List.{drop-append-le, get_or_append_left, length-append, length-drop, take-append-le, take_more, get_or_default, get_or-map, length-map}
use Rattle.std.specs.List.{slice_range}
use Rattle.bip_defs.specs.Lists.{Among}
use Rattle.bip_defs.specs.Matrix.{Place}
use Rattle.bip_defs.proofs.Pieces.{length-slice_range, start_within}
use Rattle.bip_defs.proofs.Sets.{among_either, among_left, among_right, number_same, test_is, test_is_not}
use Rattle.bip_defs.proofs.Slices.{slice_none}
use Rattle.sp_pattern.specs.Mirror.{AreSymmetric, HasPieces, IsBehindMirror, both_sides, lower, lowered}
use Rattle.bip_defs.specs.Matching.{transposed_places}
use Rattle.bip_defs.specs.Pieces.{AreStarts, piece}
use Rattle.bip_defs.proofs.Transposed.{turned_length}
use Rattle.sp_pattern.specs.Pairs.{pair_at}
use Rattle.std.proofs.lemmas.List.Sums.{count_by-le-length, length-filter}

-- Places beside their mirror images.

symmetric_append : (xs ys : List Place) → AreSymmetric xs → AreSymmetric ys → AreSymmetric (xs ++ ys)
symmetric_append xs ys sx sy r c h = ⊎_elim (λ (k : Among (r, c) xs). among_left (c, r) xs ys (sx r c k)) (λ (k : Among (r, c) ys). among_right (c, r) xs ys (sy r c k)) (among_either (r, c) xs ys h)

symmetric_one : (p : Place) → p.0 ≡ p.1 → AreSymmetric (p ∷ [])
symmetric_one p e r c (inl k) = inl (λ t. ((ap (λ (z : Place). z.1) k ∙ sym e) t, (ap (λ (z : Place). z.0) k ∙ e) t))
symmetric_one p e r c (inr k) = elim k [ ]

symmetric_two : (p q : Place) → q.0 ≡ p.1 → q.1 ≡ p.0 → AreSymmetric (p ∷ q ∷ [])
symmetric_two p q a b r c (inl k) = inr (inl (λ t. ((ap (λ (z : Place). z.1) k ∙ sym a) t, (ap (λ (z : Place). z.0) k ∙ sym b) t)))
symmetric_two p q a b r c (inr (inl k)) = inl (λ t. ((ap (λ (z : Place). z.1) k ∙ b) t, (ap (λ (z : Place). z.0) k ∙ a) t))
symmetric_two p q a b r c (inr (inr k)) = elim k [ ]

pub row_read : (ps : List Place) (k : ℕ) (d : Place) (r : ℕ) → k < length ps → r ≡ (get_or ps k d).0 → r ≡ (get_or ps k (0, 0)).0
row_read ps k d r lt e = e ∙ ap (λ (z : Place). z.0) (get_or_default ps k d (0, 0) lt)

pub col_read : (ps : List Place) (k : ℕ) (d : Place) (c : ℕ) → k < length ps → c ≡ (get_or ps k d).1 → c ≡ (get_or ps k (0, 0)).1
col_read ps k d c lt e = e ∙ ap (λ (z : Place). z.1) (get_or_default ps k d (0, 0) lt)

-- the places up to what stands behind one and its mirror image
pub symmetric_more : (ps : List Place) (k next : ℕ) → k < length ps → IsBehindMirror ps k next → AreSymmetric (take k ps) → AreSymmetric (take next ps)
symmetric_more ps k next lt (inl h) s =
    rw (h.0, take_more ps k (0, 0) lt) (symmetric_append (take k ps) (get_or ps k (0, 0) ∷ []) s (symmetric_one (get_or ps k (0, 0)) h.1))
symmetric_more ps k next lt (inr h) s =
    let p = get_or ps k (0, 0) in
    let q = get_or ps (k + 1) (0, 0) in
    let is = h.0 in
    let le = h.1 in
    let both : take (k + 1 + 1) ps ≡ (take k ps ++ p ∷ []) ++ q ∷ [] = take_more ps (k + 1) (0, 0) (omega (arith, is, le)) ∙ ap (λ xs. xs ++ q ∷ []) (take_more ps k (0, 0) lt) in
    let end : next ≡ k + 1 + 1 = omega (arith, is) in
    rw (end, both, append_assoc) (symmetric_append (take k ps) (p ∷ q ∷ []) s (symmetric_two p q (ap (λ (z : Place). z.0) h.2) (ap (λ (z : Place). z.1) h.2)))

-- what stands behind a place is not behind the end
pub behind_within : (ps : List Place) (k next : ℕ) → k < length ps → IsBehindMirror ps k next → (k < next) × (next ≤ length ps)
behind_within ps k next lt (inl h) = let is = h.0 in (omega (arith, is), omega (arith, is, lt))
behind_within ps k next lt (inr h) = let is = h.0 in let le = h.1 in (omega (arith, is), le)

-- Places on and below the diagonal.

pub lower_above : (p : Place) → p.0 < p.1 → lower p ≡ (p.1, p.0)
lower_above p lt = ap (λ b. if b then (p.1, p.0) else p) (test_is p.0 p.1 lt)

pub lower_same : (p : Place) → p.1 ≤ p.0 → lower p ≡ p
lower_same p le = ap (λ b. if b then (p.1, p.0) else p) (test_is_not p.0 p.1 le)

lower_at : (ps : List Place) (k : ℕ) → k < length ps → pair_at (transposed_places (lowered ps)) k ≡ ((lower (get_or ps k (0, 0))).1, (lower (get_or ps k (0, 0))).0)
lower_at ps k lt =
    let long = length-map {B = Place} ps lower in
    get_or-map (λ (q : Place). (q.1, q.0)) (lowered ps) k (0, 0) (0, 0) (omega (arith, lt, long)) ∙ ap (λ (q : Place). (q.1, q.0)) (get_or-map lower ps k (0, 0) (0, 0) lt)

pub length-lowered : (ps : List Place) → length (transposed_places (lowered ps)) ≡ length ps
length-lowered ps = turned_length (lowered ps) ∙ length-map ps lower

-- what is read of a place
pub read_lower : (ps : List Place) (k : ℕ) (d e : Place) (r c : ℕ) → k < length ps → r ≡ (get_or ps k d).0 → c ≡ (get_or ps k e).1 → ◌≡◌ {A = Place} ((lower (r, c)).1, (lower (r, c)).0) (pair_at (transposed_places (lowered ps)) k)
read_lower ps k d e r c lt row col =
    let a = row_read ps k d r lt row in
    let b = col_read ps k e c lt col in
    let same : ◌≡◌ {A = Place} (r, c) (get_or ps k (0, 0)) = λ t. (a t, b t) in
    ap (λ (p : Place). ((lower p).1, (lower p).0)) same ∙ sym (lower_at ps k lt)

pub read_lower_at : (ps : List Place) (k : ℕ) (d e : Place) (r c : ℕ) → k < length (transposed_places (lowered ps)) → r ≡ (get_or ps k d).0 → c ≡ (get_or ps k e).1 → ◌≡◌ {A = Place} ((lower (r, c)).1, (lower (r, c)).0) (pair_at (transposed_places (lowered ps)) k)
read_lower_at ps k d e r c lt row col = let long = length-lowered ps in read_lower ps k d e r c (omega (arith, lt, long)) row col

-- a place and its mirror image are the same one on or below the diagonal
pub lower_mirror : (r c : ℕ) → lower (c, r) ≡ lower (r, c)
lower_mirror r c = by (dec_lt r c)
  where
    by : Dec (r < c) → lower (c, r) ≡ lower (r, c)
    by (yes lt) = lower_same (c, r) (omega arith) ∙ sym (lower_above (r, c) lt)
    by (no nlt) = over (dec_lt c r)
      where
        over : Dec (c < r) → lower (c, r) ≡ lower (r, c)
        over (yes below) = lower_above (c, r) below ∙ sym (lower_same (r, c) (omega arith))
        over (no nbelow) = let same : r ≡ c = omega arith in rw same refl

-- Flat lists that grow.

slice_prefix : {X : Type 0} (xs ys : List X) (a b : ℕ) → b ≤ length xs → slice_range (xs ++ ys) a b ≡ slice_range xs a b
slice_prefix xs ys a b le = by (dec_lt b a)
  where
    by : Dec (b < a) → slice_range (xs ++ ys) a b ≡ slice_range xs a b
    by (yes lt) = slice_none (xs ++ ys) a b (omega arith) ∙ sym (slice_none xs a b (omega arith))
    by (no nlt) =
        let long = length-drop a xs in
        ap (take (b - a)) (drop-append-le a xs ys (omega arith)) ∙ take-append-le (b - a) (drop a xs) ys (omega (arith, long))

slice_back : {X : Type 0} (xs ys : List X) (b : ℕ) → b ≡ length (xs ++ ys) → slice_range (xs ++ ys) (length xs) b ≡ ys
slice_back xs ys b e =
    let both = length-append xs ys in
    ap (take (b - length xs)) (drop-append_seam xs ys) ∙ take_all (b - length xs) ys (omega (arith, e, both))

-- one part more
pub pieces_more : (m : ℕ) (pieces : ℕ → List ℕ) (starts flat part : List ℕ) (end : ℕ) → HasPieces m pieces starts flat → part ≡ pieces m → end ≡ length (flat ++ part) → HasPieces (m + 1) pieces (starts ++ end ∷ []) (flat ++ part)
pieces_more m pieces starts flat part end h is e = record {
  long = let n = length-append starts (end ∷ []) in let l = h.long in omega (arith, n, l);
  cut = record {
    one = let n = length-append starts (end ∷ []) in omega (arith, n);
    first = let l = h.long in before 0 (omega (arith, l)) ∙ h.cut.first;
    rise = rises;
    last = let n = length-append starts (end ∷ []) in let at : length (starts ++ end ∷ []) - 1 ≡ length starts = omega (arith, n) in rw at (get_or-append_seam starts end [] 0 ∙ e);
  };
  parts = all;
}
  where
    before : (i : ℕ) → i < length starts → get_or (starts ++ end ∷ []) i 0 ≡ get_or starts i 0
    before i lt = get_or_append_left starts (end ∷ []) 0 i lt

    last : get_or starts m 0 ≡ length flat
    last = let l = h.long in let at : length starts - 1 ≡ m = omega (arith, l) in ap (λ i. get_or starts i 0) (sym at) ∙ h.cut.last

    after : get_or (starts ++ end ∷ []) (m + 1) 0 ≡ end
    after = ap (λ i. get_or (starts ++ end ∷ []) i 0) (sym h.long) ∙ get_or-append_seam starts end [] 0

    rises : (i : ℕ) → i + 1 < length (starts ++ end ∷ []) → get_or (starts ++ end ∷ []) i 0 ≤ get_or (starts ++ end ∷ []) (i + 1) 0
    rises i lt = by (number_same i m)
      where
        by : (i ≡ m) ⊎ (i ≢ m) → get_or (starts ++ end ∷ []) i 0 ≤ get_or (starts ++ end ∷ []) (i + 1) 0
        by (inl same) = let l = h.long in let a = before m (omega (arith, l)) in let n = length-append flat part in rw same (omega (arith, a, last, after, n, e))
        by (inr ne) =
            let l = h.long in
            let n = length-append starts (end ∷ []) in
            let a = before i (omega (arith, l, n, lt, ne)) in
            let b = before (i + 1) (omega (arith, l, n, lt, ne)) in
            let up = h.cut.rise i (omega (arith, l, n, lt, ne)) in
            omega (arith, a, b, up)

    all : (i : ℕ) → i < m + 1 → piece (starts ++ end ∷ []) (flat ++ part) i ≡ pieces i
    all i lt = by (number_same i m)
      where
        by : (i ≡ m) ⊎ (i ≢ m) → piece (starts ++ end ∷ []) (flat ++ part) i ≡ pieces i
        by (inl same) =
            let l = h.long in
            let a = before m (omega (arith, l)) ∙ last in
            rw (same, a, after) (slice_back flat part end e ∙ is)
        by (inr ne) =
            let l = h.long in
            let a = before i (omega (arith, l, lt, ne)) in
            let b = before (i + 1) (omega (arith, l, lt, ne)) in
            rw (a, b) (slice_prefix flat part (get_or starts i 0) (get_or starts (i + 1) 0) (start_within starts flat h.cut (i + 1) (omega (arith, l, lt, ne))) ∙ h.parts i (omega (arith, lt, ne)))

-- how long what stands of one number is
pub both_length : (cs rs us vs : List ℕ) (i : ℕ) → AreStarts cs rs → AreStarts us vs → i + 1 < length cs → i + 1 < length us → length (both_sides cs rs us vs i) + (get_or us i 0 + get_or cs i 0) ≤ get_or us (i + 1) 0 + get_or cs (i + 1) 0
both_length cs rs us vs i by_col by_row lt below =
    let first = length-filter (λ j. nat_lt j i) (piece us vs i) in
    let few = count_by-le-length (λ j. nat_lt j i) (piece us vs i) in
    let row = length-slice_range vs (get_or us i 0) (get_or us (i + 1) 0) (start_within us vs by_row (i + 1) below) in
    let col = length-slice_range rs (get_or cs i 0) (get_or cs (i + 1) 0) (start_within cs rs by_col (i + 1) lt) in
    let both = length-append (filter (λ j. nat_lt j i) (piece us vs i)) (piece cs rs i) in
    let up = by_row.rise i below in
    let across = by_col.rise i lt in
    omega (arith, first, few, row, col, both, up, across)

-- the numbers after a part more
pub both_more : {X : Type 0} (f : X → ℕ) (cs rs us vs : List ℕ) (i : ℕ) (old : List ℕ) (before after : List X) (row col : List ℕ) → row ≡ piece us vs i → col ≡ piece cs rs i → map f before ≡ old ++ filter (λ j. nat_lt j i) row → map f after ≡ map f before ++ col → map f after ≡ old ++ both_sides cs rs us vs i
both_more f cs rs us vs i old before after row col er ec b a =
    a ∙ (λ t. (b ∙ ap (λ xs. old ++ filter (λ j. nat_lt j i) xs) er) t ++ ec t) ∙ append_assoc old (filter (λ j. nat_lt j i) (piece us vs i)) (piece cs rs i)
