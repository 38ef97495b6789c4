-- Closed sets of columns, and classes that are split by them.
use Rattle.std.proofs.Common.{◌≡◌, ◌≢◌, ◌⊎◌, ◌∙◌, ℕ, ◌+◌, ◌<◌, ◌≤◌, Bool, true, false, cond, if◌then◌else◌, List, [], ◌∷◌, filter, length, nat_eq, get_or, set, slice_index_or, take, length-set, get_or-set_same, get_or-set_other, refl, sym, ap, subst, inl, inr, ⊎_elim, arith}
use Rattle.std.specs.List.{list_any}
use Rattle.std.proofs.Math.Decide.{dec_lt}
use Rattle.bip_defs.specs.Lists.{Among, AreDistinct}
use Rattle.bip_defs.specs.Matching.{IsMatching, IsMaximum, cols_of, rows_of}
use Rattle.bip_defs.specs.Matrix.{Matrix, Place, cols}
use Rattle.bip_defs.specs.Parts.{IsHorizontalCol, IsVerticalCol}
use Rattle.bip_defs.specs.Queues.{Queue, at, heads}
use Rattle.bip_defs.proofs.Queues.{place_of}
use Rattle.std.proofs.lemmas.List.{take_more}
use Rattle.bip_defs.proofs.Square.{cols_apart, horizontal_mate, vertical_mate}
use Rattle.bip_defs.proofs.Sets.{among_last, among_left, among_right, among_test, col_pair, entry_col, filter_complete, filter_sound, number_among, number_same, one_col, one_row, pigeonhole, row_among, row_pair}
use Rattle.least_match.specs.Classes.{AreClasses, HaveParts, IsOther, IsInTail, IsSplit, class_of, number_of_part}
use Rattle.least_match.specs.Extensions.{Excludes, Extends}
use Rattle.least_match.specs.Outcomes.{AreParted, IsIn}
use Rattle.least_match.specs.declared.parts.ColPart.{ColPart}
use Rattle.least_match.specs.declared.parts.ColPart.TheVariants.{Horizontal, Square, Vertical}
use Rattle.least_match.specs.Trees.{IsScanned, IsScannedBack, IsTree}
use Rattle.least_match.proofs.ExtensionLemmas.{extends_itself, extends_less}

-- where the rows of m at some columns have their mates in n among these columns, no others of m have theirs there
stays : (a : Matrix) (m n : List Place) (xs : List ℕ) (r c d : ℕ) → IsMatching a m → IsMatching a n → AreDistinct xs → ((y : ℕ) → Among y xs → (z : ℕ) × Among z xs × ((t : ℕ) × Among (t, y) m × Among (t, z) n)) → Among (r, c) m → Among (r, d) n → Among d xs → Among c xs
stays a m n xs r c d k l distinct images p q on = ⊎_elim (λ h. h) (λ off. absurd (one_more off)) (number_among c xs)
  where
    image : (y : ℕ) → Among y (c ∷ xs) → (z : ℕ) × Among z xs × ((t : ℕ) × Among (t, y) m × Among (t, z) n)
    image y (inl e) = (d, on, (r, subst (λ x. Among (r, x) m) (sym e) p, q))
    image y (inr h) = images y h

    one_more : ¬ Among c xs → ⊥
    one_more off = omega (
      arith,
      pigeonhole (λ (y z : ℕ). (t : ℕ) × Among (t, y) m × Among (t, z) n)
          (λ x w z g h. one_col m k.rows_differ g.0 x w g.1 (subst (λ t. Among (t, w) m) (one_row n l.cols_differ h.0 g.0 z h.2 g.2) h.1))
          (c ∷ xs) xs (off, distinct) image,
    )

-- a row whose mate in one extension is in its tail has no other mate in another one
tail_mate : (a : Matrix) (m : List Place) (j : ℕ) (classes : List ℕ) (count : ℕ) (n o : List Place) (t y z : ℕ) → AreClasses a m j classes count → Extends a m j n → Extends a m j o → IsInTail a classes j y → Among (t, y) n → Among (t, z) o → ¬ IsOther classes j z
tail_mate a m j classes count n o t y z k x w in_tail p q other = ⊎_elim before (λ ne. by ne (dec_lt z j)) other
  where
    before : z < j → ⊥
    before lt =
        let same : z ≡ y = one_col n x.maximum.matching.rows_differ t z y ((x.agrees t z lt).0 ((w.agrees t z lt).1 q)) p in
        let from = in_tail.from in
        omega arith

    by : class_of classes z ≢ class_of classes j → Dec (z < j) → ⊥
    by ne (yes lt) = before lt
    by ne (no nlt) = ne (sym (k.stays o w t z (omega arith) q) ∙ k.stays n x t y in_tail.from p ∙ in_tail.class)

module _ (a : Matrix) (m : List Place) (j : ℕ) (classes : List ℕ) (count first : ℕ) (q : Queue) (k : AreClasses a m j classes count) (max : IsMaximum a m) (in_range : j < cols a) (tree : IsTree a m classes j first q) where
  -- A tree all of whose rows are matched, outside the horizontal part.

  module _ (scanned : (i : ℕ) → i < length q → IsScanned a m classes j q (at q i).0) (inner : ¬ IsHorizontalCol a j) where
    all_scanned : (y : ℕ) → Among y (heads q) → IsScanned a m classes j q y
    all_scanned y h = let (i, lt, e) = place_of q y h in subst (λ c. IsScanned a m classes j q c) e (scanned i lt)

    -- each extension pairs its columns with the rows of its pairs
    pub forward_rows : (n : List Place) → Extends a m j n → (r c : ℕ) → Among (r, c) n → Among c (heads q) → (x : ℕ) × Among x (heads q) × Among (r, x) m
    forward_rows n x r c p on =
        let (d, mate, s) = all_scanned c on r (x.maximum.matching.entries r c p) in
        (d, ⊎_elim (λ other. absurd (tail_mate a m j classes count n m r c d k x (extends_itself a m j max) (tree.tail c on) p mate other)) (λ h. h) s, mate)

    -- and no others
    pub forward_cols : (n : List Place) → Extends a m j n → (r c x : ℕ) → Among (r, c) n → Among (r, x) m → Among x (heads q) → Among c (heads q)
    forward_cols n x r c d p mate on = stays a n m (heads q) r c d x.maximum.matching max.matching tree.distinct images p mate on
      where
        covered : (y : ℕ) → Among y (heads q) → Among y (cols_of n)
        covered y h = ⊎_elim (λ g. g) (λ missed. let in_tail = tree.tail y h in absurd (inner (k.horizontal y j in_tail.within in_range in_tail.class (in_tail.within, n, x.maximum, missed)))) (number_among y (cols_of n))

        images : (y : ℕ) → Among y (heads q) → (z : ℕ) × Among z (heads q) × ((t : ℕ) × Among (t, y) n × Among (t, z) m)
        images y h =
            let (t, g) = col_pair y n (covered y h) in
            let (z, l, w) = forward_rows n x t y g h in
            (z, l, (t, g, w))

  -- A tree with all columns that have entries in the rows of its pairs, outside the vertical part.

  module _ (scanned : (i : ℕ) → i < length q → IsScannedBack a m classes j q (at q i).0) (inner : ¬ IsVerticalCol a j) where
    all_scanned_back : (y : ℕ) → Among y (heads q) → IsScannedBack a m classes j q y
    all_scanned_back y h = let (i, lt, e) = place_of q y h in subst (λ c. IsScannedBack a m classes j q c) e (scanned i lt)

    not_vertical : (y : ℕ) → Among y (heads q) → ¬ IsVerticalCol a y
    not_vertical y h v = let in_tail = tree.tail y h in inner (k.vertical y j in_tail.within in_range in_tail.class v)

    -- each extension pairs the rows of its pairs with its columns
    pub backward_cols : (n : List Place) → Extends a m j n → (r c x : ℕ) → Among (r, c) n → Among (r, x) m → Among x (heads q) → Among c (heads q)
    backward_cols n x r c d p mate on = ⊎_elim (λ other. absurd (tail_mate a m j classes count m n r d c k (extends_itself a m j max) x (tree.tail d on) mate p other)) (λ h. h) (all_scanned_back d on r c mate (x.maximum.matching.entries r c p))

    -- and no others
    pub backward_rows : (n : List Place) → Extends a m j n → (r c : ℕ) → Among (r, c) n → Among c (heads q) → (x : ℕ) × Among x (heads q) × Among (r, x) m
    backward_rows n x r c p on =
        let (d, mate) = row_pair r m matched in
        (d, stays a m n (heads q) r d c max.matching x.maximum.matching tree.distinct images mate p on, mate)
      where
        matched : Among r (rows_of m)
        matched = ⊎_elim (λ g. g) (λ missed. let e = x.maximum.matching.entries r c p in absurd (not_vertical c on (r, (e.0, m, max, missed), e))) (number_among r (rows_of m))

        covered : (t y : ℕ) → Among y (heads q) → Among (t, y) m → Among t (rows_of n)
        covered t y h g = ⊎_elim (λ l. l) (λ missed. let e = max.matching.entries t y g in absurd (not_vertical y h (t, (e.0, n, x.maximum, missed), e))) (number_among t (rows_of n))

        images : (y : ℕ) → Among y (heads q) → (z : ℕ) × Among z (heads q) × ((t : ℕ) × Among (t, y) m × Among (t, z) n)
        images y h =
            let (t, g) = col_pair y m (tree.matched y h) in
            let (z, w) = row_pair t n (covered t y h g) in
            (z, backward_cols n x t z y w g h, (t, g, w))

-- Classes.

-- the rows of m's pairs at some columns
rows_at : List Place → List ℕ → List ℕ
rows_at m xs = rows_of (filter (λ (p : Place). list_any (nat_eq p.1) xs) m)

rows_at_sound : (m : List Place) (xs : List ℕ) (r : ℕ) → Among r (rows_at m xs) → (x : ℕ) × Among x xs × Among (r, x) m
unfolding rows_at
rows_at_sound m xs r h =
    let (x, p) = row_pair r (filter (λ (p : Place). list_any (nat_eq p.1) xs) m) h in
    let (g, e) = filter_sound (λ (p : Place). list_any (nat_eq p.1) xs) (r, x) m p in
    (x, (among_test x xs).0 e, g)

rows_at_complete : (m : List Place) (xs : List ℕ) (r x : ℕ) → Among x xs → Among (r, x) m → Among r (rows_at m xs)
unfolding rows_at
rows_at_complete m xs r x h g = row_among r x (filter (λ (p : Place). list_any (nat_eq p.1) xs) m) (filter_complete (λ (p : Place). list_any (nat_eq p.1) xs) (r, x) m g ((among_test x xs).1 h))

-- no extension pairs a row of these columns' pairs with another column, or one of these columns with another row
pub record IsTight (a : Matrix) (m : List Place) (j : ℕ) (xs : List ℕ) : Type 0 where
  pub rows : (n : List Place) → Extends a m j n → (r c : ℕ) → Among (r, c) n → Among c xs → (x : ℕ) × Among x xs × Among (r, x) m
  pub cols : (n : List Place) → Extends a m j n → (r c x : ℕ) → Among (r, c) n → Among (r, x) m → Among x xs → Among c xs

pub split_classes : (a : Matrix) (m : List Place) (j : ℕ) (classes new : List ℕ) (count : ℕ) (xs : List ℕ) → AreClasses a m j classes count → IsSplit classes count xs new → ((x : ℕ) → Among x xs → IsInTail a classes j x) → IsTight a m j xs → AreClasses a m j new (count + 1)
split_classes a m j classes new count xs k s tail tight = record {
  long = s.long ∙ k.long;
  below = λ c lt. ⊎_elim (λ h. omega (arith, s.split c h)) (λ nh. omega (arith, s.kept c nh, k.below c lt)) (number_among c xs);
  row_class = row_class;
  stays = λ n x r c le p. by n x r c le p (number_among c xs) (number_among r (rows_at m xs));
  horizontal = λ c d lt ld e. k.horizontal c d lt ld (old_class c d lt ld e);
  vertical = λ c d lt ld e. k.vertical c d lt ld (old_class c d lt ld e);
}
  where
    row_class : ℕ → ℕ
    row_class r = if list_any (nat_eq r) (rows_at m xs) then count else k.row_class r

    in_class : (r : ℕ) → Among r (rows_at m xs) → row_class r ≡ count
    in_class r h = rw ((among_test r (rows_at m xs)).1 h) refl

    out_class : (r : ℕ) → ¬ Among r (rows_at m xs) → row_class r ≡ k.row_class r
    out_class r nh = by (list_any (nat_eq r) (rows_at m xs)) refl
      where
        by : (b : Bool) → list_any (nat_eq r) (rows_at m xs) ≡ b → cond b count (k.row_class r) ≡ k.row_class r
        by true e = absurd (nh ((among_test r (rows_at m xs)).0 e))
        by false e = refl

    by : (n : List Place) → Extends a m j n → (r c : ℕ) → j ≤ c → Among (r, c) n → Among c xs ⊎ (¬ Among c xs) → Among r (rows_at m xs) ⊎ (¬ Among r (rows_at m xs)) → row_class r ≡ class_of new c
    by n x r c le p (inl h) (inl g) = in_class r g ∙ sym (s.split c h)
    by n x r c le p (inl h) (inr ng) = absurd (ng (let (y, on, q) = tight.rows n x r c p h in rows_at_complete m xs r y on q))
    by n x r c le p (inr nh) (inl g) = absurd (nh (let (y, on, q) = rows_at_sound m xs r g in tight.cols n x r c y p q on))
    by n x r c le p (inr nh) (inr ng) = out_class r ng ∙ k.stays n x r c le p ∙ sym (s.kept c nh)

    old_class : (c d : ℕ) → c < cols a → d < cols a → class_of new c ≡ class_of new d → class_of classes c ≡ class_of classes d
    old_class c d lt ld e = cases (number_among c xs) (number_among d xs)
      where
        cases : Among c xs ⊎ (¬ Among c xs) → Among d xs ⊎ (¬ Among d xs) → class_of classes c ≡ class_of classes d
        cases (inl h) (inl g) = (tail c h).class ∙ sym (tail d g).class
        cases (inl h) (inr ng) = absurd (omega (arith, s.split c h, s.kept d ng, e, k.below d ld))
        cases (inr nh) (inl g) = absurd (omega (arith, s.split d g, s.kept c nh, e, k.below c lt))
        cases (inr nh) (inr ng) = sym (s.kept c nh) ∙ e ∙ s.kept d ng

-- classes hold on where the column j is settled
pub classes_more : (a : Matrix) (m m2 : List Place) (j : ℕ) (classes : List ℕ) (count : ℕ) → AreClasses a m j classes count → Extends a m j m2 → AreClasses a m2 (j + 1) classes count
classes_more a m m2 j classes count k x = record {
  long = k.long;
  below = k.below;
  row_class = k.row_class;
  stays = λ n y r c le p. k.stays n (extends_less a m m2 n j x y) r c (omega arith) p;
  horizontal = k.horizontal;
  vertical = k.vertical;
}

-- What is excluded at column j.

-- the row of a pair before j
pub fixed_excluded : (a : Matrix) (m : List Place) (j r d : ℕ) → Among (r, d) m → d < j → Excludes a m j r
fixed_excluded a m j r d p lt n x h = let e = one_col n x.maximum.matching.rows_differ r d j ((x.agrees r d lt).0 p) h in omega arith

-- the row of a column before j or of another class
pub other_excluded : (a : Matrix) (m : List Place) (j r d : ℕ) (classes : List ℕ) (count : ℕ) → AreClasses a m j classes count → IsMaximum a m → j < cols a → Among (r, d) m → IsOther classes j d → Excludes a m j r
other_excluded a m j r d classes count k max lt p other n x h = tail_mate a m j classes count n m r j d k x (extends_itself a m j max) (record { from = omega arith; within = lt; class = refl }) h p other

-- the row of a column of a tight set to which j does not belong, or the other way round
pub tight_excluded : (a : Matrix) (m : List Place) (j r d : ℕ) (xs : List ℕ) → IsTight a m j xs → Among (r, d) m → Among d xs → ¬ Among j xs → Excludes a m j r
tight_excluded a m j r d xs tight p on off n x h = off (tight.cols n x r j d h p on)

pub tight_excluded_back : (a : Matrix) (m : List Place) (j r d : ℕ) (xs : List ℕ) → IsMatching a m → IsTight a m j xs → Among (r, d) m → ¬ Among d xs → Among j xs → Excludes a m j r
tight_excluded_back a m j r d xs k tight p off on n x h = let (y, g, q) = tight.rows n x r j h on in off (subst (λ z. Among z xs) (one_col m k.rows_differ r y d q p) g)

-- Numbers, column by column.

pub split_more : (old cur xs : List ℕ) (n k x : ℕ) → IsSplit old n (take k xs) cur → k < length xs → get_or xs k 0 ≡ x → x < length old → IsSplit old n (take (k + 1) xs) (set cur x n)
split_more old cur xs n k x s lt e within = record {
  long = length-set cur x n ∙ s.long;
  split = λ c h. ⊎_elim (λ (f : c ≡ x). here c f) (λ ne. get_or-set_other cur x c n 0 ne ∙ s.split c (⊎_elim (λ g. g) (λ g. absurd (ne (g ∙ e))) (is_old c h))) (number_same c x);
  kept = λ c nh. get_or-set_other cur x c n 0 (λ f. nh (back c (inr (f ∙ sym e)))) ∙ s.kept c (λ g. nh (back c (inl g)));
}
  where
    is_old : (c : ℕ) → Among c (take (k + 1) xs) → Among c (take k xs) ⊎ (c ≡ get_or xs k 0)
    is_old c h = among_last c (get_or xs k 0) (take k xs) (subst (Among c) (take_more xs k 0 lt) h)

    back : (c : ℕ) → Among c (take k xs) ⊎ (c ≡ get_or xs k 0) → Among c (take (k + 1) xs)
    back c g = subst (Among c) (sym (take_more xs k 0 lt)) (⊎_elim (λ h. among_left c (take k xs) (get_or xs k 0 ∷ []) h) (λ h. among_right c (take k xs) (get_or xs k 0 ∷ []) (inl h)) g)

    here : (c : ℕ) → c ≡ x → class_of (set cur x n) c ≡ n
    here c f = ap (class_of (set cur x n)) f ∙ get_or-set_same cur x n 0 (omega (arith, s.long))

-- The classes of the parts.

-- where two maximum matchings have a row, they have it in one part
part_same : (a : Matrix) (n o : List Place) (r c d : ℕ) → IsMaximum a n → IsMaximum a o → Among (r, c) n → Among (r, d) o → (IsHorizontalCol a c → ¬ ¬ IsHorizontalCol a d) × (IsVerticalCol a c → ¬ ¬ IsVerticalCol a d)
part_same a n o r c d x y p q = (λ h. horizontal_mate a o r d y (c, h, x.matching.entries r c p) q, λ v none. vertical_mate a n r c x v p (λ w. none (r, w, y.matching.entries r d q)))

-- the number of a part, by the part in which the column is
numbered : (a : Matrix) (c d : ℕ) (p q : ColPart) → IsIn a c p → IsIn a d q → (IsHorizontalCol a c → ¬ ¬ IsHorizontalCol a d) × (IsVerticalCol a c → ¬ ¬ IsVerticalCol a d) → (IsHorizontalCol a d → ¬ ¬ IsHorizontalCol a c) × (IsVerticalCol a d → ¬ ¬ IsVerticalCol a c) → number_of_part p ≡ number_of_part q
numbered a c d Horizontal Horizontal h k f g = refl
numbered a c d Horizontal Square h k f g = absurd (f.0 h k.0)
numbered a c d Horizontal Vertical h k f g = absurd (f.0 h (λ z. cols_apart a d z k))
numbered a c d Square Horizontal h k f g = absurd (g.0 k h.0)
numbered a c d Square Square h k f g = refl
numbered a c d Square Vertical h k f g = absurd (g.1 k h.1)
numbered a c d Vertical Horizontal h k f g = absurd (g.0 k (λ z. cols_apart a c z h))
numbered a c d Vertical Square h k f g = absurd (f.1 h k.1)
numbered a c d Vertical Vertical h k f g = refl

number_small : (p : ColPart) → number_of_part p < 3
number_small Horizontal = omega arith
number_small Square = omega arith
number_small Vertical = omega arith

-- columns of parts of one number are of one part
same_part : (a : Matrix) (c d : ℕ) (p q : ColPart) → IsIn a c p → IsIn a d q → number_of_part p ≡ number_of_part q → (IsHorizontalCol a c → IsHorizontalCol a d) × (IsVerticalCol a c → IsVerticalCol a d)
same_part a c d Horizontal Horizontal h k e = (λ z. k, λ v. absurd (cols_apart a c h v))
same_part a c d Horizontal Square h k e = absurd (omega (arith, e))
same_part a c d Horizontal Vertical h k e = absurd (omega (arith, e))
same_part a c d Square Horizontal h k e = absurd (omega (arith, e))
same_part a c d Square Square h k e = (λ z. absurd (h.0 z), λ z. absurd (h.1 z))
same_part a c d Square Vertical h k e = absurd (omega (arith, e))
same_part a c d Vertical Horizontal h k e = absurd (omega (arith, e))
same_part a c d Vertical Square h k e = absurd (omega (arith, e))
same_part a c d Vertical Vertical h k e = (λ z. absurd (cols_apart a c z h), λ z. k)

pub first_classes : (a : Matrix) (m : List Place) (parts : List ColPart) (classes : List ℕ) → IsMaximum a m → AreParted a parts → HaveParts parts (length parts) classes → AreClasses a m 0 classes 3
first_classes a m parts classes max parted has = record {
  long = has.long ∙ parted.long;
  below = λ c lt. rw (is_number c lt) (number_small (slice_index_or parts c Square));
  row_class = row_class;
  stays = λ n x r c le p. by n x r c p (number_among r (rows_of m));
  horizontal = λ c d lc ld e. (one c d lc ld e).0;
  vertical = λ c d lc ld e. (one c d lc ld e).1;
}
  where
    is_number : (c : ℕ) → c < cols a → class_of classes c ≡ number_of_part (slice_index_or parts c Square)
    is_number c lt = has.each c (omega (arith, parted.long))

    one : (c d : ℕ) → c < cols a → d < cols a → class_of classes c ≡ class_of classes d → (IsHorizontalCol a c → IsHorizontalCol a d) × (IsVerticalCol a c → IsVerticalCol a d)
    one c d lc ld e = same_part a c d (slice_index_or parts c Square) (slice_index_or parts d Square) (parted.each c lc) (parted.each d ld) (sym (is_number c lc) ∙ e ∙ is_number d ld)

    row_class_by : (r : ℕ) → Among r (rows_of m) ⊎ (¬ Among r (rows_of m)) → ℕ
    row_class_by r (inl h) = class_of classes (row_pair r m h).0
    row_class_by r (inr nh) = 2

    row_class : ℕ → ℕ
    row_class r = row_class_by r (number_among r (rows_of m))

    vertical_number : (c : ℕ) (p : ColPart) → IsIn a c p → IsVerticalCol a c → number_of_part p ≡ 2
    vertical_number c Horizontal h v = absurd (cols_apart a c h v)
    vertical_number c Square h v = absurd (h.1 v)
    vertical_number c Vertical h v = refl

    by : (n : List Place) → Extends a m 0 n → (r c : ℕ) → Among (r, c) n → (s : Among r (rows_of m) ⊎ (¬ Among r (rows_of m))) → row_class_by r s ≡ class_of classes c
    by n x r c p (inl h) =
        let (d, q) = row_pair r m h in
        let e = x.maximum.matching.entries r c p in
        let lc = entry_col a r c e in
        let ld = entry_col a r d (max.matching.entries r d q) in
        is_number d ld ∙ numbered a d c (slice_index_or parts d Square) (slice_index_or parts c Square) (parted.each d ld) (parted.each c lc) (part_same a m n r d c max x.maximum q p) (part_same a n m r c d x.maximum max p q) ∙ sym (is_number c lc)
    by n x r c p (inr nh) =
        let e = x.maximum.matching.entries r c p in
        let lc = entry_col a r c e in
        sym (vertical_number c (slice_index_or parts c Square) (parted.each c lc) (r, (e.0, m, max, nh), e)) ∙ sym (is_number c lc)
