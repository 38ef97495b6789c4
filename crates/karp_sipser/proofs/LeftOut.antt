-- The sums after a pair was taken.
use Rattle.std.proofs.Common.{◌≡◌, ◌≢◌, ◌⊎◌, ◌∙◌, ℕ, ◌+◌, ◌%◌, ◌^◌, ◌<◌, Bool, true, false, not, Option, None, Some, IfSome, MatchOption, List, [], ◌∷◌, length, map, slice_index, slice_set, take, refl, ap, sym, subst, inl, inr, ⊎_elim, arith}
use Rattle.std.proofs.lemmas.Bool.{cases_eq}
use Rattle.std.proofs.lemmas.List.{get_or-set_other, get_or-set_same}
use Rattle.bip_defs.proofs.Sets.{col_among, entry_col, few_distinct, number_among, rising_distinct}
use Rattle.bip_defs.specs.Lists.{Among, IsRising, Lists}
use Rattle.bip_defs.specs.Matching.{cols_of}
use Rattle.bip_defs.specs.Matrix.{cols, column, IsEntry, Matrix, Place}
use Rattle.bip_defs.specs.Start.{ColOfOne, IsFree, IsOnly}
use Rattle.karp_sipser.specs.NeighbourSums.{AreSums, HoldsOnes, HoldsOnesBut, IsRest, IsShort, IsSum, LeavesOut, LooksLikeOne, wrapping_sub}
use Rattle.karp_sipser.specs.declared.neighbour_sums.NeighbourSums.{NeighbourSums}
use Rattle.karp_sipser.proofs.Free.{Adds, cols_kept, free_after, free_before}
use Rattle.karp_sipser.proofs.Prefixes.{IsChanged, changed_next, flips, front_next}
use Rattle.karp_sipser.proofs.Sums.{looks_only, one_looks, sum_same, sum_without}

-- some that have E, rising, and among them all but one that have F
pub record AreBeside (E F : ℕ → Type 0) (mate : ℕ) (ids : List ℕ) : Type 0 where
  pub rising : IsRising ids
  pub sound : (x : ℕ) → Among x ids → E x
  pub complete : (x : ℕ) → F x → x ≢ mate → Among x ids

pub beside_same : (E F G H : ℕ → Type 0) (mate : ℕ) (ids : List ℕ) → ((x : ℕ) → E x → G x) → ((x : ℕ) → H x → F x) → AreBeside E F mate ids → AreBeside G H mate ids
beside_same E F G H mate ids to from b = record { rising = b.rising; sound = λ x h. to x (b.sound x h); complete = λ x f ne. b.complete x (from x f) ne }

pub either : (b : Bool) → (b ≡ true) ⊎ (b ≡ false)
either true = inl refl
either false = inr refl

-- none, or the one of which this is known
pub one_known : (o : Option ℕ) (ids : List ℕ) (Q : ℕ → Type 0) → MatchOption o (ids ≡ []) (λ x. ids ≡ x ∷ []) → IfSome o Q → (ids ≡ []) ⊎ ((x : ℕ) × (ids ≡ x ∷ []) × Q x)
one_known None ids Q is q = inl is
one_known (Some x) ids Q is q = inr (x, is, q)

-- a whole list, or the other one that is known to be alone, or none where none is left
pub beside_of : (E F : ℕ → Type 0) (mate : ℕ) (all alone ids : List ℕ) (wanted : Bool) → Lists E all → ((x : ℕ) → F x → E x)
    → (wanted ≡ true → length alone ≡ 0 → ids ≡ all) → (wanted ≡ true → 0 < length alone → ids ≡ map (λ (x : ℕ). x) alone) → (wanted ≡ false → ids ≡ [])
    → (wanted ≡ false → IsOnly F mate) → (alone ≡ []) ⊎ ((x : ℕ) × (alone ≡ x ∷ []) × IsOnly (λ y. F y × (y ≢ mate)) x) → AreBeside E F mate ids
beside_of E F mate all alone ids wanted lists entry whole one none only known = elim (either wanted) [
  | inl on ↦ elim known [
    | inl empty ↦ subst (AreBeside E F mate) (sym (whole on (ap length empty))) (record { rising = lists.rising; sound = lists.sound; complete = λ x f ne. lists.complete x (entry x f) })
    | inr k ↦
        let (x, is, left) = k in
        let some : length alone ≡ 1 = ap length is in
        let are : ids ≡ x ∷ [] = one on (omega (arith, some)) ∙ ap (map (λ (y : ℕ). y)) is in
        subst (AreBeside E F mate) (sym are) (record {
          rising = (tt, tt);
          sound = λ y (h : Among y (x ∷ [])). elim h [ inl e ↦ subst E (sym e) (entry x left.0.0) | inr h ↦ absurd h ];
          complete = λ y f ne. inl (left.1 y (f, ne));
        })
  ]
  | inr off ↦ subst (AreBeside E F mate) (sym (none off)) (record { rising = tt; sound = λ x h. absurd h; complete = λ x f ne. absurd (ne ((only off).1 x f)) })
]

-- a column that is unmatched after a pair was taken was so before, and is not the pair's
unmatched_before : (p : Place) (old new : List Place) (c : ℕ) → Adds p old new → ¬ Among c (cols_of new) → (c ≢ p.1) × (¬ Among c (cols_of old))
unmatched_before p old new c adds apart = (
  (λ e. apart (subst (λ z. Among z (cols_of new)) (sym e) (col_among p.0 p.1 new ((adds p).1 (inl refl))))),
  (λ h. apart (cols_kept p old new c adds h)),
)

-- what is known of a pair that is taken, where these are beside its column
pub record IsTaking (a : Matrix) (p : Place) (old new : List Place) (ids : List ℕ) : Type 0 where
  pub adds : Adds p old new
  pub free : IsFree a old p.0 p.1
  pub beside : AreBeside (λ c. IsEntry a p.0 c) (λ c. IsFree a old p.0 c) p.1 ids

-- a column that is not beside the pair's keeps what was free
kept_free : (a : Matrix) (p : Place) (old new : List Place) (ids : List ℕ) (c : ℕ) → IsTaking a p old new ids → ¬ Among c ids → c ≢ p.1 → (r : ℕ) → IsFree a old r c → IsFree a new r c
kept_free a p old new ids c k off ne r g = free_after a p old new r c k.adds g (λ e. off (k.beside.complete c (subst (λ z. IsFree a old z c) e g) ne)) ne

sum_after : (a : Matrix) (p : Place) (old new : List Place) (ids : List ℕ) (s t : NeighbourSums) → IsTaking a p old new ids → LeavesOut p.1 p.0 ids s t
    → (c : ℕ) → ¬ Among c (cols_of new) → IsSum s.unit (λ r. IsFree a old r c) (slice_index s.words.items c) → IsSum s.unit (λ r. IsFree a new r c) (slice_index t.words.items c)
sum_after a p old new ids s t k after c apart sum =
    let (ne, had) = unmatched_before p old new c k.adds apart in
    elim (number_among c ids) [
      | inl h ↦
          let f : IsFree a old p.0 c = (k.beside.sound c h, k.free.1, had) in
          subst (IsSum s.unit (λ r. IsFree a new r c)) (sym (after.left_out.lowered c ne h))
          (sum_without s.unit (λ r. IsFree a old r c) (λ r. IsFree a new r c) (slice_index s.words.items c) p.0 sum f (λ r g. let b = free_before a p old new r c k.adds g in (b.0, b.1)) (λ r g ner. free_after a p old new r c k.adds g ner ne))
      | inr off ↦ subst (IsSum s.unit (λ r. IsFree a new r c)) (sym (after.kept c ne off))
          (sum_same s.unit (λ r. IsFree a old r c) (λ r. IsFree a new r c) (slice_index s.words.items c) (kept_free a p old new ids c k off ne) (λ r g. (free_before a p old new r c k.adds g).0) sum)
    ]

pub sums_after : (a : Matrix) (p : Place) (old new : List Place) (ids : List ℕ) (s t : NeighbourSums) → AreSums a old s → IsTaking a p old new ids → LeavesOut p.1 p.0 ids s t → AreSums a new t
sums_after a p old new ids s t sums k after = record {
  of_unit = rw after.unit sums.of_unit;
  long = after.long ∙ sums.long;
  bound = after.bound ∙ sums.bound;
  sums = λ c lt apart. rw after.unit (sum_after a p old new ids s t k after c apart (sums.sums c lt (unmatched_before p old new c k.adds apart).1));
  short = rw (after.unit, after.some_long) sums.short;
}

-- the sum of an unmatched column with exactly one unmatched neighbour looks like one number's
pub col_looks : (a : Matrix) (m : List Place) (s : NeighbourSums) (c : ℕ) → AreSums a m s → ColOfOne a m c → LooksLikeOne s.unit (slice_index s.words.items c)
col_looks a m s c sums o =
    let lt = entry_col a o.0 c o.1.0.0 in
    one_looks s.unit (λ r. IsFree a m r c) (slice_index s.words.items c) o.0 sums.of_unit.fits (omega (arith, o.1.0.0.0, sums.of_unit.rows_below)) (sums.sums c lt o.1.0.2) o.1

-- where the list is short, a sum that looks like one number's is
pub col_only : (a : Matrix) (m : List Place) (s : NeighbourSums) (c : ℕ) → AreSums a m s → c < cols a → ¬ Among c (cols_of m) → IsShort s.unit (length (column a c)) → LooksLikeOne s.unit (slice_index s.words.items c)
    → IsOnly (λ r. IsFree a m r c) (wrapping_sub (slice_index s.words.items c) s.unit)
col_only a m s c sums lt apart short looks =
    let k = sums.sums c lt apart in
    looks_only s.unit (λ r. IsFree a m r c) (slice_index s.words.items c) (length (column a c)) sums.of_unit.positive sums.of_unit.fits k (λ r f. omega (arith, f.0.0, sums.of_unit.rows_below))
    (few_distinct k.having (column a c) (rising_distinct k.having k.lists.rising) (λ r h. (k.lists.sound r h).0.1)) short looks

-- what a word that was looked at says
pub only_known : (a : Matrix) (m : List Place) (s : NeighbourSums) (r c n x y : ℕ) → AreSums a m s → IsFree a m r c → x ≡ c → y ≡ r → n ≡ length (column a c) → wrapping_sub (slice_index s.words.items x) s.unit ≡ y
    → (s.some_long ≡ false) ⊎ IsShort s.unit n → IsOnly (λ z. IsFree a m z c) r
only_known a m s r c n x y sums free is_c is_r is_n word short =
    let lt = entry_col a r c free.0 in
    let here : wrapping_sub (slice_index s.words.items c) s.unit ≡ r = ap (λ z. wrapping_sub (slice_index s.words.items z) s.unit) (sym is_c) ∙ word ∙ is_r in
    let fits : IsShort s.unit (length (column a c)) = elim short [ inl off ↦ sums.short off c lt | inr e ↦ subst (IsShort s.unit) is_n e ] in
    subst (IsOnly (λ z. IsFree a m z c)) here (col_only a m s c sums lt free.2 fits (omega (arith, here, free.0.0, sums.of_unit.rows_below)))

-- what a word that was looked at says without the mate
pub rest_known : (a : Matrix) (m : List Place) (s : NeighbourSums) (r c x y z : ℕ) → AreSums a m s → IsFree a m r c → x ≡ c → y ≡ r → IsRest s.unit (slice_index s.words.items x) y z
    → (s.some_long ≡ false) ⊎ IsShort s.unit (length (column a x)) → IsOnly (λ d. IsFree a m d c × (d ≢ r)) z
rest_known a m s r c x y z sums free is_c is_r rest short =
    let lt = entry_col a r c free.0 in
    let w : ℕ = slice_index s.words.items c in
    let fits : IsShort s.unit (length (column a c)) = elim short [ inl off ↦ sums.short off c lt | inr e ↦ subst (λ k. IsShort s.unit (length (column a k))) is_c e ] in
    let here : IsRest s.unit w r z = subst (λ k. IsRest s.unit w k z) is_r (subst (λ k. IsRest s.unit (slice_index s.words.items k) y z) is_c rest) in
    let k : IsSum s.unit (λ d. IsFree a m d c × (d ≢ r)) (wrapping_sub w ((s.unit + r) % 2 ^ 32)) = sum_without s.unit (λ d. IsFree a m d c) (λ d. IsFree a m d c × (d ≢ r)) w r (sums.sums c lt free.2) free (λ d f. f) (λ d f ne. (f, ne)) in
    subst (IsOnly (λ d. IsFree a m d c × (d ≢ r))) here.1
    (looks_only s.unit (λ d. IsFree a m d c × (d ≢ r)) (wrapping_sub w ((s.unit + r) % 2 ^ 32)) (length (column a c)) sums.of_unit.positive sums.of_unit.fits k (λ d f. omega (arith, f.0.0.0, sums.of_unit.rows_below))
    (few_distinct k.having (column a c) (rising_distinct k.having k.lists.rising) (λ d h. (k.lists.sound d h).0.0.1)) fits here.0)

both_known : (o : Option ℕ) (P Q R : ℕ → Type 0) → ((x : ℕ) → P x → Q x → R x) → IfSome o P → IfSome o Q → IfSome o R
both_known None P Q R to p q = tt
both_known (Some x) P Q R to p q = to x p q

-- the list that is left out beside a mate, by what the word of its column was found to say
pub beside_known : (a : Matrix) (m : List Place) (s : NeighbourSums) (r c x y : ℕ) (sure : Bool) (o : Option ℕ) (alone ids : List ℕ) → AreSums a m s → IsFree a m r c → x ≡ c → y ≡ r → Lists (λ z. IsEntry a z c) (column a c)
    → (sure ≡ true → wrapping_sub (slice_index s.words.items x) s.unit ≡ y) → (sure ≡ true → (s.some_long ≡ false) ⊎ IsShort s.unit (length (column a x)))
    → IfSome o (λ z. IsRest s.unit (slice_index s.words.items x) y z) → IfSome o (λ z. (s.some_long ≡ false) ⊎ IsShort s.unit (length (column a x))) → MatchOption o (alone ≡ []) (λ z. alone ≡ z ∷ [])
    → (not sure ≡ true → length alone ≡ 0 → ids ≡ column a x) → (not sure ≡ true → 0 < length alone → ids ≡ map (λ (z : ℕ). z) alone) → (not sure ≡ false → ids ≡ [])
    → AreBeside (λ z. IsEntry a z c) (λ z. IsFree a m z c) r ids
beside_known a m s r c x y sure o alone ids sums free is_c is_r lists word short rest fits is whole one none =
    let Left : ℕ → Type 0 = λ z. IsOnly (λ d. IsFree a m d c × (d ≢ r)) z in
    let left : IfSome o Left = both_known o (λ z. IsRest s.unit (slice_index s.words.items x) y z) (λ z. (s.some_long ≡ false) ⊎ IsShort s.unit (length (column a x))) Left (λ z k f. rest_known a m s r c x y z sums free is_c is_r k f) rest fits in
    beside_of (λ z. IsEntry a z c) (λ z. IsFree a m z c) r (column a c) alone ids (not sure) lists (λ z f. f.0) (λ on e. whole on e ∙ ap (column a) is_c) one none
    (λ off. let t = flips sure off in only_known a m s r c (length (column a x)) x y sums free is_c is_r (ap (λ k. length (column a k)) is_c) (word t) (short t))
    (one_known o alone Left is left)

-- numbers that are the same
pub after_at : (x y matched mate : ℕ) (ids : List ℕ) (s t : NeighbourSums) → x ≡ matched → y ≡ mate → LeavesOut x y ids s t → LeavesOut matched mate ids s t
after_at x y matched mate ids s t is_x is_y after = subst (λ z. LeavesOut matched z ids s t) is_y (subst (λ z. LeavesOut z y ids s t) is_x after)

pub ones_after : (a : Matrix) (p : Place) (old new : List Place) (ids : List ℕ) (s t : NeighbourSums) → AreSums a old s → IsTaking a p old new ids → LeavesOut p.1 p.0 ids s t
    → HoldsOnesBut p.1 a old s.of_one.members → HoldsOnes a new t.of_one.members
ones_after a p old new ids s t sums k after ones c o =
    let (ne, had) = unmatched_before p old new c k.adds o.1.0.2 in
    elim (number_among c ids) [
      | inl h ↦ after.left_out.ones c h (rw after.unit at (col_looks a new t c (sums_after a p old new ids s t sums k after) o))
      | inr off ↦ after.grows c (ones c ne (o.0, ((free_before a p old new o.0 c k.adds o.1.0).0, λ r g. o.1.1 r (kept_free a p old new ids c k off ne r g))))
    ]

-- of a prefix the sums are lowered, and those that look like one number's then are among the members
pub record IsLowering (unit by : ℕ) (old new before members prefix : List ℕ) : Type 0 where
  pub lowered : IsChanged (λ s. wrapping_sub s by) old new prefix
  pub ones : (x : ℕ) → Among x prefix → LooksLikeOne unit (slice_index new x) → Among x members
  pub grows : (x : ℕ) → Among x before → Among x members

pub lowering_next : (unit by : ℕ) (old new ones members more xs : List ℕ) (i x n : ℕ) → IsRising xs → i < length xs → slice_index xs i ≡ x → x < length old → IsLowering unit by old new ones members (take i xs)
    → n ≡ wrapping_sub (slice_index new x) by → ((y : ℕ) → Among y members → Among y more) → (LooksLikeOne unit n → Among x more) → IsLowering unit by old (slice_set new x n) ones more (take (i + 1) xs)
lowering_next unit by old new ones members more xs i x n up lt at inside l is grows looks =
    let room : x < length new = omega (arith, l.lowered.long, inside) in
    record {
      lowered = changed_next (λ s. wrapping_sub s by) old new xs i x n up lt at inside l.lowered is;
      ones = λ y h one. elim (cases_eq y x) [
        | inl e ↦ rw e (looks (subst (LooksLikeOne unit) (ap (slice_index (slice_set new x n)) e ∙ get_or-set_same new x n 0 room) one))
        | inr ne ↦ grows y (l.ones y (⊎_elim (λ k. k) (λ e. absurd (ne (e ∙ at))) (front_next y i xs lt h)) (subst (LooksLikeOne unit) (get_or-set_other new x y n 0 ne) one))
      ];
      grows = λ y h. grows y (l.grows y h);
    }
