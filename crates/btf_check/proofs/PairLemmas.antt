-- Pairs made into a matching, one after another.
use Rattle.std.proofs.Common.{◌≡◌, ◌∙◌, ◌⊎◌, ◌↔◌, ℕ, zero, suc, ◌+◌, ◌<◌, ◌≤◌, List, [], ◌∷◌, ◌++◌, length, map, get_or, take, take_all, sym, ap, subst, inl, inr, ⊎_elim, arith}
use Rattle.std.proofs.lemmas.List.{map-append, take_more}
use Rattle.bip_defs.specs.Lists.{Among, AreDistinct, IsRising}
use Rattle.bip_defs.specs.Matching.{IsMatching, cols_of, rows_of}
use Rattle.bip_defs.specs.Matrix.{IsEntry, Matrix, Place, cols}
use Rattle.bip_defs.proofs.Sets.{among_at, among_last, among_left, among_map, among_right, col_among, col_pair, rising_distinct, row_among, row_pair, distinct_last}
use Rattle.bip_defs.proofs.LeastMatching.{rising_pairs}
use Rattle.bip_graph.specs.Matching.{Pairing}
use Rattle.btf_check.specs.Reasons.{ArePaired}

-- what stands at a place is not at an earlier one
fresh : (f : Place → ℕ) (ps : List Place) (k : ℕ) (d : Place) → AreDistinct (map f ps) → k < length ps → ¬ Among (f (get_or ps k d)) (map f (take k ps))
fresh f [] k d distinct lt h = absurd (omega arith)
fresh f (p ∷ ps) zero d distinct lt h = elim h [ ]
fresh f (p ∷ ps) (suc k) d distinct lt (inl e) = distinct.0 (subst (λ x. Among x (map f ps)) e (among_map f (get_or ps k d) ps (among_at ps k d (omega arith))))
fresh f (p ∷ ps) (suc k) d distinct lt (inr h) = fresh f ps k d distinct.1 (omega arith) h

-- the first k pairs are those of the matching
pub record IsPairingUp (a : Matrix) (ps : List Place) (k : ℕ) (m : Pairing) : Type 0 where
  pub rows : m.rows ≡ a.rows
  pub cols_are : m.cols ≡ cols a
  pub over : (p : Place) → Among p m.pairs → Among p (take k ps)
  pub back : (p : Place) → Among p (take k ps) → Among p m.pairs
  pub paired : ArePaired a (take k ps)

pub column_free : (a : Matrix) (ps : List Place) (k : ℕ) (d : Place) (m : Pairing) (r c : ℕ) → IsRising (cols_of ps) → k < length ps → get_or ps k d ≡ (r, c) → IsPairingUp a ps k m → ¬ Among c (cols_of m.pairs)
column_free a ps k d m r c rising lt e is h =
    let (s, p) = col_pair c m.pairs h in
    fresh (λ (p : Place). p.1) ps k d (rising_distinct (cols_of ps) rising) lt (subst (λ z. Among z (cols_of (take k ps))) (sym (ap (λ (p : Place). p.1) e)) (col_among s c (take k ps) (is.over (s, c) p)))

pub pairing_more : (a : Matrix) (ps : List Place) (k : ℕ) (d : Place) (m n : Pairing) (r c : ℕ) → k < length ps → get_or ps k d ≡ (r, c) → IsEntry a r c → ¬ Among r (rows_of m.pairs) → ((p : Place) → Among p n.pairs ↔ ((p ≡ (r, c)) ⊎ Among p m.pairs)) → (n.rows ≡ m.rows) × (n.cols ≡ m.cols) → IsPairingUp a ps k m → IsPairingUp a ps (k + 1) n
pairing_more a ps k d m n r c lt e entry free added sizes is = record {
  rows = sizes.0 ∙ is.rows;
  cols_are = sizes.1 ∙ is.cols_are;
  over = λ p h. subst (Among p) (sym more) (⊎_elim (λ (s : p ≡ (r, c)). among_right p (take k ps) ((r, c) ∷ []) (inl s)) (λ (g : Among p m.pairs). among_left p (take k ps) ((r, c) ∷ []) (is.over p g)) ((added p).0 h));
  back = λ p h. (added p).1 (⊎_elim (λ (g : Among p (take k ps)). inr (is.back p g)) (λ (s : p ≡ (r, c)). inl s) (among_last p (r, c) (take k ps) (subst (Among p) more h)));
  paired = subst (ArePaired a) (sym more) (record {
    entries = λ s d h. ⊎_elim (λ (g : Among (s, d) (take k ps)). is.paired.entries s d g) (λ (f : (s, d) ≡ (r, c)). subst (λ (q : Place). IsEntry a q.0 q.1) (sym f) entry) (among_last (s, d) (r, c) (take k ps) h);
    rows_differ = subst AreDistinct (sym (map-append (λ (q : Place). q.0) (take k ps) ((r, c) ∷ []))) (distinct_last (rows_of (take k ps)) r is.paired.rows_differ (λ h. let (s, p) = row_pair r (take k ps) h in free (row_among r s m.pairs (is.back (r, s) p))));
  });
}
  where
    more : take (k + 1) ps ≡ take k ps ++ (r, c) ∷ []
    more = take_more ps k d lt ∙ ap (λ (z : Place). take k ps ++ z ∷ []) e

-- a place that is no entry
pub no_entry : (a : Matrix) (ps : List Place) (k : ℕ) (d : Place) (r c : ℕ) → k < length ps → get_or ps k d ≡ (r, c) → ¬ IsEntry a r c → ¬ ArePaired a ps
no_entry a ps k d r c lt e none all = none (all.entries r c (subst (λ (p : Place). Among p ps) e (among_at ps k d lt)))

-- a row that an earlier pair has
pub row_taken : (a : Matrix) (ps : List Place) (k : ℕ) (d : Place) (m : Pairing) (r c s : ℕ) → k < length ps → get_or ps k d ≡ (r, c) → Among (r, s) m.pairs → IsPairingUp a ps k m → ¬ ArePaired a ps
row_taken a ps k d m r c s lt e h is all = fresh (λ (p : Place). p.0) ps k d all.rows_differ lt (subst (λ z. Among z (rows_of (take k ps))) (sym (ap (λ (p : Place). p.0) e)) (row_among r s (take k ps) (is.over (r, s) h)))

pub pairing_end : (a : Matrix) (ps : List Place) (k : ℕ) (m : Pairing) → length ps ≤ k → IsRising (cols_of ps) → IsRising (cols_of m.pairs) → IsPairingUp a ps k m → (m.pairs ≡ ps) × ArePaired a ps
pairing_end a ps k m le rising rises is = (rising_pairs m.pairs ps rises rising (λ p h. subst (Among p) whole (is.over p h)) (λ p h. is.back p (subst (Among p) (sym whole) h)), subst (ArePaired a) whole is.paired)
  where
    whole : take k ps ≡ ps
    whole = take_all k ps le

pub paired_matching : (a : Matrix) (m ps : List Place) → m ≡ ps → IsRising (cols_of ps) → ArePaired a ps → IsMatching a m
paired_matching a m ps e rising paired = subst (IsMatching a) (sym e) (record { entries = paired.entries; rows_differ = paired.rows_differ; cols_differ = rising_distinct (cols_of ps) rising })
