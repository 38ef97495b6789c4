-- The pairs that were taken so far, in order: whatever the rest leaves from here is what the whole leaves from the start.
use Rattle.std.proofs.Common.{◌≡◌, ◌∙◌, ℕ, suc, ◌≤◌, List, [], ◌∷◌, length, refl, ap, sym, subst, inl, inr, arith}
use Rattle.std.proofs.lemmas.List.{length-map}
use Rattle.bip_defs.proofs.Sets.{col_among, col_pair, entry_col, few_distinct, rising_distinct, row_among, row_pair, upto_length, upto_lists}
use Rattle.bip_defs.specs.Lists.{Among, AreDistinct, IsRising}
use Rattle.bip_defs.specs.Matching.{cols_of, IsMatching, rows_of}
use Rattle.bip_defs.specs.Matrix.{AreEntries, cols, IsEntry, Matrix, Place, upto}
use Rattle.bip_defs.specs.Start.{by_any, by_col, by_row, ColOfOne, ColOfSome, IsChoice, IsFree, IsLeast, IsStart, next, over, Repeats, RowOfOne}
use Rattle.karp_sipser.proofs.Free.{Adds}

-- Two lists with the same pairs leave the same free, and have the same choice.

abbrev pub HaveSame : List Place → List Place → Type 0
HaveSame m n = (p : Place) → Among p m → Among p n

pub free_same : (a : Matrix) (m n : List Place) → HaveSame n m → (r c : ℕ) → IsFree a m r c → IsFree a n r c
free_same a m n back r c f =
    (f.0, (λ h. let (d, k) = row_pair r n h in f.1 (row_among r d m (back (r, d) k))), (λ h. let (s, k) = col_pair c n h in f.2 (col_among s c m (back (s, c) k))))

least_same : (P Q : ℕ → Type 0) (x : ℕ) → ((y : ℕ) → P y → Q y) → ((y : ℕ) → Q y → P y) → IsLeast P x → IsLeast Q x
least_same P Q x to from l = (to x l.0, λ y q. l.1 y (from y q))

col_of_one_same : (a : Matrix) (m n : List Place) → HaveSame m n → HaveSame n m → (c : ℕ) → ColOfOne a m c → ColOfOne a n c
col_of_one_same a m n to back c o = (o.0, (free_same a m n back o.0 c o.1.0, λ y f. o.1.1 y (free_same a n m to y c f)))

row_of_one_same : (a : Matrix) (m n : List Place) → HaveSame m n → HaveSame n m → (r : ℕ) → RowOfOne a m r → RowOfOne a n r
row_of_one_same a m n to back r o = (o.0, (free_same a m n back r o.0 o.1.0, λ y f. o.1.1 y (free_same a n m to r y f)))

choice_same : (a : Matrix) (m n : List Place) {p : Place} → HaveSame m n → HaveSame n m → IsChoice a m p → IsChoice a n p
choice_same a m n to back (by_col r c l f) =
    by_col r c (least_same (ColOfOne a m) (ColOfOne a n) c (col_of_one_same a m n to back) (col_of_one_same a n m back to) l) (free_same a m n back r c f)
choice_same a m n to back (by_row r c none l f) =
    by_row r c (λ d o. none d (col_of_one_same a n m back to d o)) (least_same (RowOfOne a m) (RowOfOne a n) r (row_of_one_same a m n to back) (row_of_one_same a n m back to) l) (free_same a m n back r c f)
choice_same a m n to back (by_any r c no_col no_row l k) =
    by_any r c (λ d o. no_col d (col_of_one_same a n m back to d o)) (λ s o. no_row s (row_of_one_same a n m back to s o))
    (least_same (ColOfSome a m) (ColOfSome a n) c (λ d o. (o.0, free_same a m n back o.0 d o.1)) (λ d o. (o.0, free_same a n m to o.0 d o.1)) l)
    (least_same (λ s. IsFree a m s c) (λ s. IsFree a n s c) r (λ s f. free_same a m n back s c f) (λ s f. free_same a n m to s c f) k)

pub choice_free : (a : Matrix) (m : List Place) {p : Place} → IsChoice a m p → IsFree a m p.0 p.1
choice_free a m (by_col r c l f) = f
choice_free a m (by_row r c none l f) = f
choice_free a m (by_any r c no_col no_row l k) = k.0

-- The run from the empty matching.

pub record IsUnderWay (a : Matrix) (pairs : List Place) : Type 0 where
  pub taken : List Place
  pub leads : (n : List Place) → Repeats a taken n → Repeats a [] n
  pub to : HaveSame taken pairs
  pub back : HaveSame pairs taken
  pub distinct : AreDistinct (cols_of taken)
  pub entries : AreEntries a taken
  pub size : length taken ≡ length pairs

pub way_begins : (a : Matrix) (pairs : List Place) → pairs ≡ [] → IsUnderWay a pairs
way_begins a pairs none = rw none (record { taken = []; leads = λ n r. r; to = λ p h. h; back = λ p h. h; distinct = tt; entries = λ r c h. absurd h; size = refl })

pub way_goes_on : (a : Matrix) (pairs more : List Place) (p : Place) → IsUnderWay a pairs → IsChoice a pairs p → Adds p pairs more → length more ≡ suc (length pairs) → IsUnderWay a more
way_goes_on a pairs more p w choice adds longer =
    let choice' = choice_same a pairs w.taken w.back w.to choice in
    let free = choice_free a w.taken choice' in
    record {
      taken = p ∷ w.taken;
      leads = λ n r. w.leads n (next w.taken n p choice' r);
      to = λ q (h : Among q (p ∷ w.taken)). elim h [ inl e ↦ (adds q).1 (inl e) | inr k ↦ (adds q).1 (inr (w.to q k)) ];
      back = λ q h. elim ((adds q).0 h) [ inl e ↦ inl e | inr k ↦ inr (w.back q k) ];
      distinct = (free.2, w.distinct);
      entries = λ r c (h : Among (r, c) (p ∷ w.taken)). elim h [ inl e ↦ subst (λ (q : Place). IsEntry a q.0 q.1) (sym e) free.0 | inr k ↦ w.entries r c k ];
      size = ap suc w.size ∙ sym longer;
    }

-- there are at most as many pairs as columns
pub way_room : (a : Matrix) (pairs : List Place) → IsUnderWay a pairs → length pairs ≤ cols a
way_room a pairs w =
    let few = few_distinct (cols_of w.taken) (upto (cols a)) w.distinct (λ c h. let (r, k) = col_pair c w.taken h in (upto_lists (cols a)).complete c (entry_col a r c (w.entries r c k))) in
    omega (arith, few, upto_length 0 (cols a), length-map w.taken (λ (p : Place). p.1), w.size)

pub way_ends : (a : Matrix) (pairs : List Place) → IsUnderWay a pairs → ((r c : ℕ) → ¬ IsFree a pairs r c) → IsStart a pairs
way_ends a pairs w none = (w.taken, w.leads w.taken (over w.taken (λ r c f. none r c (free_same a w.taken pairs w.back r c f))), w.back, w.to)

pub way_matching : (a : Matrix) (pairs : List Place) → IsUnderWay a pairs → AreDistinct (rows_of pairs) → IsRising (cols_of pairs) → IsMatching a pairs
way_matching a pairs w rows rising = record { entries = λ r c h. w.entries r c (w.back (r, c) h); rows_differ = rows; cols_differ = rising_distinct (cols_of pairs) rising }
