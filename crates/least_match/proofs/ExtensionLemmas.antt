-- Maximum matchings that agree on the first columns, and the order of their codes.
use Rattle.std.proofs.Common.{◌≡◌, ◌≢◌, ◌⊎◌, ◌∙◌, ℕ, zero, suc, ◌+◌, ◌<◌, ◌≤◌, List, [], ◌∷◌, length, slice_index, sym, subst, inl, inr, ⊎_elim, arith}
use Rattle.std.proofs.Math.Decide.{dec_lt}
use Rattle.bip_defs.specs.LeastMatching.{IsLeastMaximum, mate_or}
use Rattle.bip_defs.specs.Lists.{Among, IsRising, Lists}
use Rattle.bip_defs.specs.Matching.{IsMatching, IsMaximum, cols_of}
use Rattle.bip_defs.specs.Matrix.{IsEntry, Matrix, Place, cols}
use Rattle.bip_defs.proofs.LeastMatching.{mate_of_none, mate_of_pair, not_after, pair_of_mate}
use Rattle.bip_defs.proofs.Sets.{among_at, below_each_sound, col_among, col_pair, number_among, number_same, place_among}
use Rattle.least_match.specs.Extensions.{AgreeBelow, ComesBefore, Excludes, Extends, HasAt, IsLeastBelow}

pub agree_itself : (j : ℕ) (m : List Place) → AgreeBelow j m m
agree_itself j m r c lt = (λ h. h, λ h. h)

pub agree_on : (j : ℕ) (m n o : List Place) → AgreeBelow j m n → AgreeBelow j n o → AgreeBelow j m o
agree_on j m n o f g r c lt = (λ h. (g r c lt).0 ((f r c lt).0 h), λ h. (f r c lt).1 ((g r c lt).1 h))

pub agree_back : (j : ℕ) (m n : List Place) → AgreeBelow j m n → AgreeBelow j n m
agree_back j m n f r c lt = ((f r c lt).1, (f r c lt).0)

agree_less : (j : ℕ) (m n : List Place) → AgreeBelow (j + 1) m n → AgreeBelow j m n
agree_less j m n f r c lt = f r c (omega arith)

pub extends_itself : (a : Matrix) (m : List Place) (j : ℕ) → IsMaximum a m → Extends a m j m
extends_itself a m j max = record { maximum = max; agrees = agree_itself j m }

-- what agrees with m2 up to column j agrees with m below it
pub extends_less : (a : Matrix) (m m2 n : List Place) (j : ℕ) → Extends a m j m2 → Extends a m2 (j + 1) n → Extends a m j n
extends_less a m m2 n j x y = record { maximum = y.maximum; agrees = agree_on j m m2 n x.agrees (agree_less j m2 n y.agrees) }

-- the mate of a column, by what each of two matchings has there
mate_same : (none c : ℕ) (m n : List Place) → ((r : ℕ) → Among (r, c) m → Among (r, c) n) → ((r : ℕ) → Among (r, c) n → Among (r, c) m) → (a : Matrix) → IsMatching a m → IsMatching a n → mate_or none m c ≡ mate_or none n c
mate_same none c m n over back a k l = ⊎_elim
    (λ h. let (r, p) = col_pair c m h in mate_of_pair none m r c k.cols_differ p ∙ sym (mate_of_pair none n r c l.cols_differ (over r p)))
    (λ nh. mate_of_none none m c nh ∙ sym (mate_of_none none n c (λ h. let (r, p) = col_pair c n h in nh (col_among r c m (back r p)))))
    (number_among c (cols_of m))

pub mates_agree : (a : Matrix) (j x : ℕ) (m n : List Place) → IsMatching a m → IsMatching a n → AgreeBelow j m n → x < j → mate_or a.rows m x ≡ mate_or a.rows n x
mates_agree a j x m n k l f lt = mate_same a.rows x m n (λ r. (f r x lt).0) (λ r. (f r x lt).1) a k l

-- columns of one mate have the same pair
pair_same : (a : Matrix) (m n : List Place) (r c : ℕ) → IsMatching a m → mate_or a.rows m c ≡ mate_or a.rows n c → Among (r, c) m → Among (r, c) n
pair_same a m n r c k e p = pair_of_mate a.rows n r c (sym e ∙ mate_of_pair a.rows m r c k.cols_differ p) (λ f. let lt = (k.entries r c p).0 in omega (arith, f))

agree_more : (a : Matrix) (j : ℕ) (m n : List Place) → IsMatching a m → IsMatching a n → AgreeBelow j m n → mate_or a.rows m j ≡ mate_or a.rows n j → AgreeBelow (j + 1) m n
agree_more a j m n k l f e r c lt = ⊎_elim
    (λ (g : c ≡ j). (λ h. subst (λ x. Among (r, x) n) (sym g) (pair_same a m n r j k e (subst (λ x. Among (r, x) m) g h)), λ h. subst (λ x. Among (r, x) m) (sym g) (pair_same a n m r j l (sym e) (subst (λ x. Among (r, x) n) g h))))
    (λ (ne : c ≢ j). f r c (omega arith))
    (number_same c j)

-- one column more: no matching that agrees below it has a lesser mate there
pub least_more : (a : Matrix) (j : ℕ) (m m2 : List Place) → IsLeastBelow a j m → Extends a m j m2 → ((n : List Place) → Extends a m j n → mate_or a.rows m2 j ≤ mate_or a.rows n j) → IsLeastBelow a (j + 1) m2
least_more a j m m2 old x least = record { maximum = x.maximum; least = λ n max. ⊎_elim (λ f. inl_or n max f) (λ h. inr (h.0, (let lt = h.1 in omega arith), moved n h.0 h.1 h.2)) (old.least n max) }
  where
    k : IsMatching a m2
    k = x.maximum.matching

    moved : (n : List Place) (i : ℕ) → i < j → ComesBefore a.rows m n i → ComesBefore a.rows m2 n i
    moved n i lt h =
        let same : (y : ℕ) → y < j → mate_or a.rows m2 y ≡ mate_or a.rows m y = λ y l. mates_agree a j y m2 m k old.maximum.matching (agree_back j m m2 x.agrees) l in
        (rw (same i lt) h.0, λ y l. same y (omega arith) ∙ h.1 y l)

    inl_or : (n : List Place) → IsMaximum a n → AgreeBelow j m n → AgreeBelow (j + 1) m2 n ⊎ ((i : ℕ) × (i < j + 1) × ComesBefore a.rows m2 n i)
    inl_or n max f = ⊎_elim
        (λ e. inl (agree_more a j m2 n k max.matching both e))
        (λ ne. inr (j, omega arith, ((let le = least n (record { maximum = max; agrees = f }) in omega arith), λ y lt. mates_agree a j y m2 n k max.matching both lt)))
        (number_same (mate_or a.rows m2 j) (mate_or a.rows n j))
      where
        both : AgreeBelow j m2 n
        both = agree_on j m2 m n (agree_back j m m2 x.agrees) f

pub least_start : (a : Matrix) (m : List Place) → IsMaximum a m → IsLeastBelow a 0 m
least_start a m max = record { maximum = max; least = λ n k. inl (λ r c lt. absurd (omega arith)) }

pub least_end : (a : Matrix) (m : List Place) → IsLeastBelow a (cols a) m → IsLeastMaximum a m
least_end a m h = record { maximum = h.maximum; least = λ n max. not_after a m n (⊎_elim (λ f. inl (λ x lt. mates_agree a (cols a) x m n h.maximum.matching max.matching f lt)) (λ g. inr g) (h.least n max)) }

-- The rows of a column.

rising_places : (xs : List ℕ) (k p : ℕ) → IsRising xs → k ≤ p → p < length xs → slice_index xs k ≤ slice_index xs p
rising_places [] k p a le lt = absurd (omega arith)
rising_places (x ∷ xs) zero zero a le lt = omega arith
rising_places (x ∷ xs) zero (suc p) a le lt = let below = below_each_sound x (slice_index xs p) xs a.0 (among_at xs p 0 (omega arith)) in omega arith
rising_places (x ∷ xs) (suc k) zero a le lt = absurd (omega arith)
rising_places (x ∷ xs) (suc k) (suc p) a le lt = rising_places xs k p a.1 (omega arith) (omega arith)

-- the first k rows of the list are excluded
abbrev pub AreExcluded : Matrix → List Place → ℕ → List ℕ → ℕ → Type 0
AreExcluded a m j rows k = (i : ℕ) → i < k → i < length rows → Excludes a m j (slice_index rows i)

-- the row at the place k is the least that the column can have
pub least_at : (a : Matrix) (m m2 : List Place) (j k : ℕ) (rows : List ℕ) → Lists (λ r. IsEntry a r j) rows → AreExcluded a m j rows k → k < length rows → HasAt a m j (slice_index rows k) m2 → (n : List Place) → Extends a m j n → mate_or a.rows m2 j ≤ mate_or a.rows n j
least_at a m m2 j k rows listed before lt has n x = ⊎_elim matched free (number_among j (cols_of n))
  where
    row : ℕ
    row = slice_index rows k

    mate : mate_or a.rows m2 j ≡ slice_index rows k
    mate = mate_of_pair a.rows m2 (slice_index rows k) j has.extends.maximum.matching.cols_differ has.at

    free : ¬ Among j (cols_of n) → mate_or a.rows m2 j ≤ mate_or a.rows n j
    free nh = let in_range = (has.extends.maximum.matching.entries (slice_index rows k) j has.at).0 in omega (arith, mate, mate_of_none a.rows n j nh)

    matched : Among j (cols_of n) → mate_or a.rows m2 j ≤ mate_or a.rows n j
    matched h =
        let (s, p) = col_pair j n h in
        let (i, within, e) = place_among s 0 rows (listed.complete s (x.maximum.matching.entries s j p)) in
        let after : k ≤ i = by s p i within e (dec_lt i k) in
        omega (arith, mate, e, rising_places rows k i listed.rising after within, mate_of_pair a.rows n s j x.maximum.matching.cols_differ p)
      where
        by : (s : ℕ) → Among (s, j) n → (i : ℕ) → i < length rows → slice_index rows i ≡ s → Dec (i < k) → k ≤ i
        by s p i within e (yes l) = absurd (before i l within n x (subst (λ r. Among (r, j) n) (sym e) p))
        by s p i within e (no nl) = omega arith

-- no row is left, so the column has no mate, in this matching and the others
pub least_none : (a : Matrix) (m : List Place) (j k : ℕ) (rows : List ℕ) → IsMaximum a m → Lists (λ r. IsEntry a r j) rows → AreExcluded a m j rows k → length rows ≤ k → (n : List Place) → Extends a m j n → mate_or a.rows m j ≤ mate_or a.rows n j
least_none a m j k rows max listed before le n x = omega (arith, mate_of_none a.rows m j (unmatched m (extends_itself a m j max)), mate_of_none a.rows n j (unmatched n x))
  where
    unmatched : (o : List Place) → Extends a m j o → ¬ Among j (cols_of o)
    unmatched o y h =
        let (s, p) = col_pair j o h in
        let (i, within, e) = place_among s 0 rows (listed.complete s (y.maximum.matching.entries s j p)) in
        before i (omega arith) within o y (subst (λ r. Among (r, j) o) (sym e) p)
