-- Horizontal columns by walks, from one maximum matching.
use Rattle.std.proofs.Common.{◌≡◌, ◌≢◌, ◌↔◌, ◌∙◌, ℕ, zero, suc, ◌+◌, ◌<◌, Bool, false, IsTrue, List, [], ◌∷◌, ◌++◌, length, get_or, sym, ap, subst, inl, inr, ⊎_elim, arith, length-append}
use Rattle.std.proofs.Math.Seq.{get_or-append_seam}
use Rattle.std.proofs.lemmas.List.{get_or_append_left}
use Rattle.bip_defs.specs.Lists.{Among, AreDistinct, IsMarked}
use Rattle.bip_defs.specs.Marks.{Marks}
use Rattle.bip_defs.specs.Matching.{IsMatching, IsMaximum, cols_of, rows_of}
use Rattle.bip_defs.specs.Matrix.{Matrix, Place, cols}
use Rattle.bip_defs.specs.Parts.{IsHorizontalCol, IsHorizontalRow, MarkHorizontalRows}
use Rattle.bip_defs.specs.Walks.{IsLed, stay}
use Rattle.bip_defs.proofs.Exchange.{adds_pair, drops_pair}
use Rattle.bip_defs.proofs.Full.{few_below}
use Rattle.bip_defs.proofs.Reaching.{led_horizontal, same_size_maximum, walk_on}
use Rattle.bip_defs.proofs.Sets.{Drops, col_among, col_pair, drops_cols, drops_gone, drops_kept, drops_length, drops_only, drops_rows, entry_col, number_among, number_same, one_col, row_pair, taken}

-- n, which misses the column, is turned into m row by row: the rows that were turned have their mates of m
record IsTurned (a : Matrix) (m n : List Place) (c : ℕ) (rs : List ℕ) : Type 0 where
  pub maximum : IsMaximum a n
  pub below : c < cols a
  pub misses : ¬ Among c (cols_of n)
  pub differ : AreDistinct rs
  pub turned : (r : ℕ) → Among r rs → (r < a.rows) × ((x : ℕ) → Among (r, x) m → Among (r, x) n)

turn_row : (a : Matrix) (m n o : List Place) (c r d : ℕ) (rs : List ℕ) → IsMatching a m → IsTurned a m n c rs → Among (r, c) m → Among (r, d) n → Drops (r, d) n o → IsTurned a m ((r, c) ∷ o) d (r ∷ rs)
turn_row a m n o c r d rs k t p q out = record {
  maximum = same_size_maximum a n ((r, c) ∷ o) t.maximum (adds_pair a r c o (drops_pair a out t.maximum.matching) (k.entries r c p) (drops_gone (drops_rows out) t.maximum.matching.rows_differ) (λ h. t.misses (drops_only (drops_cols out) c h))) (sym (drops_length out));
  below = entry_col a r d (t.maximum.matching.entries r d q);
  misses = λ h. ⊎_elim (λ (e : d ≡ c). t.misses (subst (λ x. Among x (cols_of n)) e (col_among r d n q))) (drops_gone (drops_cols out) t.maximum.matching.cols_differ) h;
  differ = (fresh, t.differ);
  turned = still;
}
  where
    fresh : ¬ Among r rs
    fresh h = t.misses (col_among r c n ((t.turned r h).1 c p))

    still : (s : ℕ) → Among s (r ∷ rs) → (s < a.rows) × ((x : ℕ) → Among (s, x) m → Among (s, x) ((r, c) ∷ o))
    still s (inl e) = (subst (λ y. y < a.rows) (sym e) (k.entries r c p).0, λ x h. inl (ap (λ y. (y, x)) e ∙ ap (λ y. (r, y)) (one_col m k.rows_differ r x c (subst (λ y. Among {X = Place} (y, x) m) e h) p)))
    still s (inr g) = ((t.turned s g).0, λ x h. ⊎_elim (λ (e : (s, x) ≡ (r, d)). absurd (fresh (subst (λ y. Among y rs) (ap (λ (z : Place). z.0) e) g))) (λ w. inr w) (drops_kept out (s, x) ((t.turned s g).1 x h)))

-- the mate in n of a row whose mate in m the longest matching n misses
other_mate : (a : Matrix) (m n : List Place) (c r : ℕ) (rs : List ℕ) → IsMatching a m → IsTurned a m n c rs → Among (r, c) m → (d : ℕ) × Among (r, d) n
other_mate a m n c r rs k t p = row_pair r n (⊎_elim (λ h. h) (λ off. absurd (longer off)) (number_among r (rows_of n)))
  where
    longer : ¬ Among r (rows_of n) → ⊥
    longer off = let le = t.maximum.longest ((r, c) ∷ n) (adds_pair a r c n t.maximum.matching (k.entries r c p) off t.misses) in omega arith

-- walks lead to the column that n misses from one that m misses
turned_led : (k : ℕ) (a : Matrix) (m n : List Place) (c : ℕ) (rs : List ℕ) → IsMatching a m → IsTurned a m n c rs → a.rows < k + length rs → IsLed a m c
turned_led zero a m n c rs km t few = let le = few_below a.rows rs t.differ (λ r h. (t.turned r h).0) in absurd (omega arith)
turned_led (suc k) a m n c rs km t few = ⊎_elim (λ on.
    let (r, p) = col_pair c m on in
    let (d, q) = other_mate a m n c r rs km t p in
    let (o, out) = taken (r, d) n q in
    let (s, below, free, walk) = turned_led k a m ((r, c) ∷ o) d (r ∷ rs) km (turn_row a m n o c r d rs km t p q out) (omega arith) in
    (s, below, free, walk_on a m r walk (t.maximum.matching.entries r d q) p)) (λ off. (c, t.below, off, stay)) (number_among c (cols_of m))

-- walks from the columns that a matching misses lead to each horizontal column
pub horizontal_led : (a : Matrix) (m : List Place) (c : ℕ) → IsMatching a m → IsHorizontalCol a c → IsLed a m c
horizontal_led a m c k h = turned_led (suc a.rows) a m h.1 c [] k (record { maximum = h.2; below = h.0; misses = h.3; differ = tt; turned = λ r none. absurd none }) (omega arith)

-- the mate of a horizontal row is horizontal
pub mate_led : (a : Matrix) (m : List Place) (r c : ℕ) → IsMaximum a m → IsHorizontalRow a r → Among (r, c) m → IsHorizontalCol a c
mate_led a m r c max h p = let (s, below, free, walk) = horizontal_led a m h.0 max.matching h.1 in led_horizontal a m c max (s, below, free, walk_on a m r walk h.2 p)

-- What marks of the horizontal rows tell of a column.

pub mate_tells : (a : Matrix) (m : List Place) (marks : List Bool) (r c : ℕ) → IsMaximum a m → MarkHorizontalRows a marks → Among (r, c) m → IsMarked marks r ↔ IsHorizontalCol a c
mate_tells a m marks r c max k p = let e = max.matching.entries r c p in (λ h. mate_led a m r c max ((k.exact r e.0).0 h) p, λ h. (k.exact r e.0).1 (c, h, e))

-- one number more
pub marks_last : (P : ℕ → Type 0) (n : ℕ) (marks : List Bool) (b : Bool) → Marks n P marks → IsTrue b ↔ P n → Marks (n + 1) P (marks ++ b ∷ [])
marks_last P n marks b k tells = record { long = let e = k.long in omega (arith, length-append marks (b ∷ [])); exact = exact }
  where
    at_end : get_or (marks ++ b ∷ []) n false ≡ b
    at_end = subst (λ i. get_or (marks ++ b ∷ []) i false ≡ b) k.long (get_or-append_seam marks b [] false)

    exact : (i : ℕ) → i < n + 1 → IsMarked (marks ++ b ∷ []) i ↔ P i
    exact i lt = ⊎_elim (λ (e : i ≡ n). (λ h. subst P (sym e) (tells.0 (sym at_end ∙ subst (λ j. IsMarked (marks ++ b ∷ []) j) e h)), λ h. subst (λ j. IsMarked (marks ++ b ∷ []) j) (sym e) (at_end ∙ tells.1 (subst P e h))))
        (λ (ne : i ≢ n).
        let below : i < n = omega arith in
        let same = get_or_append_left marks (b ∷ []) false i (let long = k.long in omega arith) in
        (λ h. (k.exact i below).0 (sym same ∙ h), λ h. same ∙ (k.exact i below).1 h)) (number_same i n)
