-- A symmetric matrix from its entries on and below the diagonal.
use Rattle.std.proofs.Common.{◌≡◌, ◌⊎◌, ◌∙◌, ℕ, ◌+◌, ◌-◌, ◌<◌, ◌≤◌, ◌^◌, List, [], ◌∷◌, ◌++◌, length, filter, map, nat_lt, refl, sym, ap, arith, subst, inl, inr, ⊎_elim}
use Rattle.std.proofs.Math.Decide.{dec_lt}
use Rattle.std.proofs.lemmas.Bool.Decides.{nat_tests}
use Rattle.std.proofs.lemmas.List.{map-id}
use Rattle.bip_defs.specs.Lists.{Among, IsRising, Lists}
use Rattle.bip_defs.specs.Matrix.{HasPlaces, IsEntry, Matrix, Place, cols, entry_count}
use Rattle.bip_defs.specs.Pieces.{piece, pieces}
use Rattle.bip_defs.proofs.Pieces.{length-pieces}
use Rattle.bip_defs.proofs.Sets.{among_either, among_left, among_map, among_map_back, among_right, below_each_from, below_each_sound, entry_col, filter_complete, filter_sound, lists_same, rising_filter, test_is}
use Rattle.sp_pattern.specs.Mirror.{AreSymmetric, HasPieces, IsLower, both_sides, lower, lowered}
use Rattle.sp_pattern.specs.Pairs.{AreInside, AreParts}
use Rattle.sp_pattern.specs.Stored.{AreOrders, stored}
use Rattle.sp_pattern.proofs.Both.{both_orders, both_places, itself}
use Rattle.sp_pattern.proofs.MirrorLemmas.{lower_above, lower_same}
use Rattle.sp_pattern.proofs.Shape.{orders_entries}

-- Places on and below the diagonal.

-- such a place and its mirror image are among symmetric places
lowered_back : (ps : List Place) (r c : ℕ) → AreSymmetric ps → Among (r, c) (lowered ps) → Among (r, c) ps
lowered_back ps r c s h = by (among_map_back lower (r, c) ps h)
  where
    by : (p : Place) × Among p ps × (lower p ≡ (r, c)) → Among (r, c) ps
    by (p, k, e) = over (dec_lt p.0 p.1)
      where
        over : Dec (p.0 < p.1) → Among (r, c) ps
        over (yes lt) =
            let same : (p.1, p.0) ≡ (r, c) = sym (lower_above p lt) ∙ e in
            subst (λ (q : Place). Among q ps) same (s p.0 p.1 k)
        over (no nlt) = subst (λ (q : Place). Among q ps) (sym (lower_same p (omega arith)) ∙ e) k

lowered_over : (ps : List Place) (r c : ℕ) → Among (r, c) ps → Among (r, c) (lowered ps) ⊎ Among (c, r) (lowered ps)
lowered_over ps r c h = by (dec_lt r c)
  where
    by : Dec (r < c) → Among (r, c) (lowered ps) ⊎ Among (c, r) (lowered ps)
    by (yes lt) = inr (subst (λ (q : Place). Among q (lowered ps)) (lower_above (r, c) lt) (among_map lower (r, c) ps h))
    by (no nlt) = inl (subst (λ (q : Place). Among q (lowered ps)) (lower_same (r, c) (omega arith)) (among_map lower (r, c) ps h))

-- no place of them is above the diagonal
lowered_below : (ps : List Place) (r c : ℕ) → Among (r, c) (lowered ps) → c ≤ r
lowered_below ps r c h = by (among_map_back lower (r, c) ps h)
  where
    by : (p : Place) × Among p ps × (lower p ≡ (r, c)) → c ≤ r
    by (p, k, e) = over (dec_lt p.0 p.1)
      where
        over : Dec (p.0 < p.1) → c ≤ r
        over (yes lt) =
            let same : (p.1, p.0) ≡ (r, c) = sym (lower_above p lt) ∙ e in
            let first = ap (λ (z : Place). z.0) same in
            let second = ap (λ (z : Place). z.1) same in
            omega (arith, first, second, lt)
        over (no nlt) =
            let same = sym (lower_same p (omega arith)) ∙ e in
            let first = ap (λ (z : Place). z.0) same in
            let second = ap (λ (z : Place). z.1) same in
            omega (arith, first, second, nlt)

pub lowered_lower : (n : ℕ) (ps : List Place) (a : Matrix) → HasPlaces n n (lowered ps) a → IsLower a
lowered_lower n ps a h r c e = lowered_below ps r c ((h.entries r c).0 e)

pub lowered_inside : (n : ℕ) (ps : List Place) → AreInside n n ps → AreInside n n (lowered ps)
lowered_inside n ps inside q h = by (among_map_back lower q ps h)
  where
    by : (p : Place) × Among p ps × (lower p ≡ q) → (q.0 < n) × (q.1 < n)
    by (p, k, e) = over (dec_lt p.0 p.1)
      where
        over : Dec (p.0 < p.1) → (q.0 < n) × (q.1 < n)
        over (yes lt) = let within = inside p k in subst (λ (z : Place). (z.0 < n) × (z.1 < n)) (sym (lower_above p lt) ∙ e) (within.1, within.0)
        over (no nlt) = subst (λ (z : Place). (z.0 < n) × (z.1 < n)) (sym (lower_same p (omega arith)) ∙ e) (inside p k)

-- Both sides of the diagonal.

rising_joined : (xs ys : List ℕ) → IsRising xs → IsRising ys → ((x y : ℕ) → Among x xs → Among y ys → x < y) → IsRising (xs ++ ys)
rising_joined [] ys a b across = b
rising_joined (x ∷ xs) ys a b across = (
  below_each_from x (xs ++ ys) (λ y h. ⊎_elim (λ (k : Among y xs). below_each_sound x y xs a.0 k) (λ (k : Among y ys). across x y (inl refl) k) (among_either y xs ys h)),
  rising_joined xs ys a.1 b (λ p q h k. across p q (inr h) k),
)

module _ (cs rs us vs ns nf : List ℕ) (o : AreOrders cs rs us vs) (square : length us - 1 ≡ length cs - 1) (is_lower : IsLower (stored cs rs us)) (h : HasPieces (length cs - 1) (both_sides cs rs us vs) ns nf) where
  abbrev IsEither : ℕ → ℕ → Type 0
  IsEither r c = IsEntry (stored cs rs us) r c ⊎ IsEntry (stored cs rs us) c r

  either_lists : (i : ℕ) → i < length cs - 1 → Lists (IsEither i) (both_sides cs rs us vs i)
  either_lists i lt = record {
    rising = rising_joined before (piece cs rs i) (rising_filter (λ j. nat_lt j i) (piece us vs i) row.rising) col.rising
        (λ x y k l. let below = (filter_sound (λ j. nat_lt j i) x (piece us vs i) k).1 in let le = is_lower y i (col.sound y l) in grind (arith, nat_tests, below, le));
    sound = λ x k. ⊎_elim (λ (l : Among x before). inl (row.sound x (filter_sound (λ j. nat_lt j i) x (piece us vs i) l).0)) (λ (l : Among x (piece cs rs i)). inr (col.sound x l)) (among_either x before (piece cs rs i) k);
    complete = complete;
  }
    where
      before : List ℕ
      before = filter (λ j. nat_lt j i) (piece us vs i)

      row : Lists (λ c. IsEntry (stored cs rs us) i c) (piece us vs i)
      row = o.cols i (omega (arith, lt, square))

      col : Lists (λ r. IsEntry (stored cs rs us) r i) (piece cs rs i)
      col = o.rows i (omega (arith, lt))

      complete : (x : ℕ) → IsEither i x → Among x (before ++ piece cs rs i)
      complete x (inl e) = by (dec_lt x i)
        where
          by : Dec (x < i) → Among x (before ++ piece cs rs i)
          by (yes l) = among_left x before (piece cs rs i) (filter_complete (λ j. nat_lt j i) x (piece us vs i) (row.complete x e) (test_is x i l))
          by (no nl) = let le = is_lower i x e in let same : i ≡ x = omega (arith, le, nl) in among_right x before (piece cs rs i) (col.complete x (subst (λ y. IsEntry (stored cs rs us) y i) same (subst (λ y. IsEntry (stored cs rs us) i y) (sym same) e)))
      complete x (inr e) = among_right x before (piece cs rs i) (col.complete x e)

  by_row : AreParts (length cs - 1) IsEither ns nf
  by_row = record { long = h.long; cut = h.cut; parts = λ i lt. subst (Lists (IsEither i)) (sym (h.parts i lt)) (either_lists i lt) }

  turned : (r c : ℕ) → IsEither r c → IsEither c r
  turned r c (inl e) = inr e
  turned r c (inr e) = inl e

  by_col : AreParts (length cs - 1) (λ c r. IsEither r c) ns nf
  by_col = record { long = h.long; cut = h.cut; parts = λ i lt. lists_same (IsEither i) (λ r. IsEither r i) (piece ns nf i) (λ r k. turned i r k) (λ r k. turned r i k) (by_row.parts i lt) }

  entry_inside : (r c : ℕ) → IsEntry (stored cs rs us) r c → (r < length cs - 1) × (c < length cs - 1)
  entry_inside r c e =
      let row = e.0 in
      let col = entry_col (stored cs rs us) r c e in
      let n = length-pieces cs rs in
      (omega (arith, row, square), omega (arith, col, n))

  inside : (r c : ℕ) → IsEither r c → (r < length cs - 1) × (c < length cs - 1)
  inside r c (inl e) = entry_inside r c e
  inside r c (inr e) = let i = entry_inside c r e in (i.1, i.0)

  pub mirror_orders : length nf < 2 ^ 32 → AreOrders ns nf ns nf
  mirror_orders few =
      let few_cols = o.few_cols in
      let one = o.by_col.one in
      both_orders (length cs - 1) (length cs - 1) IsEither ns nf ns nf by_col by_row inside (omega (arith, few_cols, one)) (omega (arith, few_cols, one)) few refl

  pub mirror_places : length nf < 2 ^ 32 → (ps : List Place) → AreSymmetric ps → HasPlaces (length us - 1) (length cs - 1) (lowered ps) (stored cs rs us) → HasPlaces (length us - 1) (length cs - 1) ps (stored ns nf ns)
  mirror_places few ps s half =
      rw square (both_places (length cs - 1) (length cs - 1) IsEither ns nf ns nf by_col by_row inside ps over back (mirror_orders few))
    where
      over : (r c : ℕ) → IsEither r c → Among (r, c) ps
      over r c (inl e) = lowered_back ps r c s ((half.entries r c).0 e)
      over r c (inr e) = s c r (lowered_back ps c r s ((half.entries c r).0 e))

      back : (r c : ℕ) → Among (r, c) ps → IsEither r c
      back r c k = ⊎_elim (λ (l : Among (r, c) (lowered ps)). inl ((half.entries r c).1 l)) (λ (l : Among (c, r) (lowered ps)). inr ((half.entries c r).1 l)) (lowered_over ps r c k)

-- The same, as the calls say it.
pub mirror_made : (a : Matrix) (cs rs us vs ss ff tt gg ns nf rs_again rc : List ℕ) → AreOrders cs rs us vs → stored cs rs us ≡ a → a.rows ≡ cols a → IsLower a → ss ≡ cs → ff ≡ rs → tt ≡ us → gg ≡ vs
    → HasPieces (length ss - 1) (both_sides ss ff tt gg) ns (map itself nf) → length nf < 2 ^ 32 → rs_again ≡ ns → rc ≡ nf
    → AreOrders ns nf rs_again rc × ((ps : List Place) → AreSymmetric ps → HasPlaces a.rows (cols a) (lowered ps) a → HasPlaces a.rows (cols a) ps (stored ns nf rs_again))
mirror_made a cs rs us vs ss ff tt gg ns nf rs_again rc o is square is_lower es ef et eg h few ea ec =
    subst (λ (z : Matrix). z.rows ≡ cols z → IsLower z → AreOrders ns nf rs_again rc × ((ps : List Place) → AreSymmetric ps → HasPlaces z.rows (cols z) (lowered ps) z → HasPlaces z.rows (cols z) ps (stored ns nf rs_again))) is made square is_lower
  where
    pieces_are : HasPieces (length cs - 1) (both_sides cs rs us vs) ns nf
    pieces_are = rw (es, ef, et, eg, map-id) at h

    made : length us - 1 ≡ length (pieces cs rs) → IsLower (stored cs rs us)
        → AreOrders ns nf rs_again rc × ((ps : List Place) → AreSymmetric ps → HasPlaces (length us - 1) (length (pieces cs rs)) (lowered ps) (stored cs rs us) → HasPlaces (length us - 1) (length (pieces cs rs)) ps (stored ns nf rs_again))
    made sq low =
        let same = sq ∙ length-pieces cs rs in (
          rw (ea, ec) (mirror_orders cs rs us vs ns nf o same low pieces_are few),
          λ ps s half. rw (ea, length-pieces) (mirror_places cs rs us vs ns nf o same low pieces_are few ps s (rw length-pieces at half)),
        )

-- what both halves need
pub mirror_square : (a : Matrix) (cs rs us vs ss tt : List ℕ) → AreOrders cs rs us vs → stored cs rs us ≡ a → a.rows ≡ cols a → ss ≡ cs → tt ≡ us → length tt ≡ length ss
mirror_square a cs rs us vs ss tt o is square es et =
    let rows = ap (λ (z : Matrix). z.rows) is in
    let columns = ap (λ (z : Matrix). cols z) is in
    let n = length-pieces cs rs in
    let one = o.by_col.one in
    let some = o.by_row.one in
    rw (es, et) (omega (arith, rows, columns, n, one, some, square))

pub mirror_few : (a : Matrix) (cs rs us vs ff gg : List ℕ) → AreOrders cs rs us vs → stored cs rs us ≡ a → entry_count a < 2 ^ 31 → ff ≡ rs → gg ≡ vs → length gg + length ff < 2 ^ 32
mirror_few a cs rs us vs ff gg o is few ef eg =
    let count = ap (λ (z : Matrix). entry_count z) is in
    let all = orders_entries cs rs us vs o in
    let same = o.same_length in
    rw (ef, eg) (omega (arith, count, all, same, few))
