-- Paths from a root to where a search stands.
use Rattle.std.proofs.Common.{◌≡◌, ◌≢◌, ◌∙◌, ℕ, suc, ◌<◌, ◌≤◌, Bool, true, false, List, [], ◌∷◌, ◌++◌, length, slice_index, refl, sym, ap, subst, inl, inr, ⊎_elim, arith}
use Rattle.bip_defs.specs.Lists.{Among, IsMarked}
use Rattle.bip_defs.specs.Matching.{cols_of, rows_of}
use Rattle.bip_defs.specs.Matrix.{AreEntries, IsEntry, Matrix, Place, column}
use Rattle.bip_defs.specs.Paths.{Alternates, BeginsUnmatched}
use Rattle.bip_defs.proofs.Sets.{number_same, place_among, row_among}
use Rattle.bip_defs.specs.Marks.{IsExplored}
use Rattle.bip_defs.specs.Walks.{Walk, stay, step}
use Rattle.path_search.specs.Trails.{HasPassed, Trail, read_place}
use Rattle.path_search.proofs.MarkLemmas.{Grows}

-- Lists.

pub rows_last : (path : List Place) (p : Place) → rows_of (path ++ p ∷ []) ≡ rows_of path ++ p.0 ∷ []
rows_last [] p = refl
rows_last (q ∷ path) p = ap (λ (xs : List ℕ). q.0 ∷ xs) (rows_last path p)

-- Places.

pub passed_none : (reversed : Bool) (marks : List Bool) (rows : List ℕ) → HasPassed reversed marks rows 0
passed_none reversed marks rows j lt within = absurd (omega arith)

pub passed_more : (reversed : Bool) (marks : List Bool) (rows : List ℕ) (k : ℕ) → HasPassed reversed marks rows k → IsMarked marks (slice_index rows (read_place reversed (length rows) k)) → HasPassed reversed marks rows (suc k)
passed_more reversed marks rows k p h j lt within = ⊎_elim (λ (e : j ≡ k). subst (λ i. IsMarked marks (slice_index rows (read_place reversed (length rows) i))) (sym e) h) (λ (ne : j ≢ k). p j (omega arith) within) (number_same j k)

pub passed_grows : (reversed : Bool) (old new : List Bool) (rows : List ℕ) (k : ℕ) → Grows old new → HasPassed reversed old rows k → HasPassed reversed new rows k
passed_grows reversed old new rows k g p j lt within = g _ (p j lt within)

-- reading from the end twice is reading from the start
read_back : (reversed : Bool) (n i : ℕ) → i < n → (read_place reversed n i < n) × (read_place reversed n (read_place reversed n i) ≡ i)
read_back true n i lt = (omega arith, omega arith)
read_back false n i lt = (lt, refl)

pub passed_all : (a : Matrix) (reversed : Bool) (marks : List Bool) (c k : ℕ) → length (column a c) ≤ k → HasPassed reversed marks (column a c) k → IsExplored a marks c
passed_all a reversed marks c k le p r e =
    let (i, lt, at) = place_among r 0 (column a c) e.1 in
    let (within, back) = read_back reversed (length (column a c)) i lt in
    subst (λ x. IsMarked marks x) (ap (λ j. slice_index (column a c) j) back ∙ at) (p (read_place reversed (length (column a c)) i) (omega arith) within)

-- Trails.

pub trail_grows : (a : Matrix) (m : List Place) (reversed : Bool) (old new : List Bool) (from to : ℕ) (path : List Place) (places : List ℕ) → Grows old new → Trail a m reversed old from path places to → Trail a m reversed new from path places to
trail_grows a m reversed old new from to [] [] g t = t
trail_grows a m reversed old new from to [] (k ∷ places) g t = elim t [ ]
trail_grows a m reversed old new from to (p ∷ path) [] g t = elim t [ ]
trail_grows a m reversed old new from to (p ∷ path) (k ∷ places) g t = (t.0, t.1, passed_grows reversed old new (column a p.1) k g t.2, t.3, t.4, trail_grows a m reversed old new t.3 to path places g t.5)

-- it is a walk
pub trail_walk : (a : Matrix) (m : List Place) (reversed : Bool) (marks : List Bool) (from to : ℕ) (path : List Place) (places : List ℕ) → Trail a m reversed marks from path places to → Walk a m from to
trail_walk a m reversed marks from to [] [] t = subst (λ x. Walk a m from x) t stay
trail_walk a m reversed marks from to [] (k ∷ places) t = elim t [ ]
trail_walk a m reversed marks from to (p ∷ path) [] t = elim t [ ]
trail_walk a m reversed marks from to (p ∷ path) (k ∷ places) t = subst (λ x. Walk a m x to) t.0 (step p.0 t.1 t.4 (trail_walk a m reversed marks t.3 to path places t.5))

-- one pair more at its end
pub trail_on : (a : Matrix) (m : List Place) (reversed : Bool) (marks : List Bool) (from to r d k : ℕ) (path : List Place) (places : List ℕ) → Trail a m reversed marks from path places to → IsEntry a r to → HasPassed reversed marks (column a to) k → Among (r, d) m → Trail a m reversed marks from (path ++ (r, to) ∷ []) (places ++ k ∷ []) d
trail_on a m reversed marks from to r d k [] [] t e p h = (sym t, e, p, d, h, refl)
trail_on a m reversed marks from to r d k [] (j ∷ places) t e p h = elim t [ ]
trail_on a m reversed marks from to r d k (q ∷ path) [] t e p h = elim t [ ]
trail_on a m reversed marks from to r d k (q ∷ path) (j ∷ places) t e p h = (t.0, t.1, t.2, t.3, t.4, trail_on a m reversed marks t.3 to r d k path places t.5 e p h)

-- and one less
pub trail_back : (a : Matrix) (m : List Place) (reversed : Bool) (marks : List Bool) (from to k : ℕ) (p : Place) (path : List Place) (places : List ℕ) → Trail a m reversed marks from (path ++ p ∷ []) (places ++ k ∷ []) to → Trail a m reversed marks from path places p.1 × IsEntry a p.0 p.1 × HasPassed reversed marks (column a p.1) k × Among (p.0, to) m
trail_back a m reversed marks from to k p [] [] t = (sym t.0, t.1, t.2, subst (λ d. Among (p.0, d) m) t.5 t.4)
trail_back a m reversed marks from to k p [] (j ∷ []) t = absurd t.5
trail_back a m reversed marks from to k p [] (j ∷ i ∷ places) t = absurd t.5
trail_back a m reversed marks from to k p (q ∷ []) [] t = absurd t.5
trail_back a m reversed marks from to k p (q ∷ s ∷ path) [] t = absurd t.5
trail_back a m reversed marks from to k p (q ∷ path) (j ∷ places) t = let rest = trail_back a m reversed marks t.3 to k p path places t.5 in ((t.0, t.1, t.2, t.3, t.4, rest.0), rest.1, rest.2, rest.3)

pub trail_length : (a : Matrix) (m : List Place) (reversed : Bool) (marks : List Bool) (from to : ℕ) (path : List Place) (places : List ℕ) → Trail a m reversed marks from path places to → length path ≡ length places
trail_length a m reversed marks from to [] [] t = refl
trail_length a m reversed marks from to [] (k ∷ places) t = elim t [ ]
trail_length a m reversed marks from to (p ∷ path) [] t = elim t [ ]
trail_length a m reversed marks from to (p ∷ path) (k ∷ places) t = ap suc (trail_length a m reversed marks t.3 to path places t.5)

pub trail_empty : (a : Matrix) (m : List Place) (reversed : Bool) (marks : List Bool) (from to : ℕ) (places : List ℕ) → Trail a m reversed marks from [] places to → from ≡ to
trail_empty a m reversed marks from to [] t = t
trail_empty a m reversed marks from to (k ∷ places) t = elim t [ ]

pub trail_entries : (a : Matrix) (m : List Place) (reversed : Bool) (marks : List Bool) (from to : ℕ) (path : List Place) (places : List ℕ) → Trail a m reversed marks from path places to → AreEntries a path
trail_entries a m reversed marks from to [] places t r c h = elim h [ ]
trail_entries a m reversed marks from to (p ∷ path) [] t r c h = elim t [ ]
trail_entries a m reversed marks from to (p ∷ path) (k ∷ places) t r c (inl e) = subst (λ (q : Place). IsEntry a q.0 q.1) (sym e) t.1
trail_entries a m reversed marks from to (p ∷ path) (k ∷ places) t r c (inr h) = trail_entries a m reversed marks t.3 to path places t.5 r c h

pub trail_matched : (a : Matrix) (m : List Place) (reversed : Bool) (marks : List Bool) (from to : ℕ) (path : List Place) (places : List ℕ) (r : ℕ) → Trail a m reversed marks from path places to → Among r (rows_of path) → Among r (rows_of m)
trail_matched a m reversed marks from to [] places r t h = elim h [ ]
trail_matched a m reversed marks from to (p ∷ path) [] r t h = elim t [ ]
trail_matched a m reversed marks from to (p ∷ path) (k ∷ places) r t (inl e) = subst (λ x. Among x (rows_of m)) (sym e) (row_among p.0 t.3 m t.4)
trail_matched a m reversed marks from to (p ∷ path) (k ∷ places) r t (inr h) = trail_matched a m reversed marks t.3 to path places r t.5 h

-- with an unmatched row at its end it alternates
pub trail_alternates : (a : Matrix) (m : List Place) (reversed : Bool) (marks : List Bool) (from to r : ℕ) (path : List Place) (places : List ℕ) → Trail a m reversed marks from path places to → ¬ Among r (rows_of m) → Alternates m (path ++ (r, to) ∷ [])
trail_alternates a m reversed marks from to r [] places t free = free
trail_alternates a m reversed marks from to r (q ∷ path) [] t free = elim t [ ]
trail_alternates a m reversed marks from to r (q ∷ []) (j ∷ []) t free = (subst (λ d. Among (q.0, d) m) t.5 t.4, free)
trail_alternates a m reversed marks from to r (q ∷ []) (j ∷ i ∷ places) t free = absurd t.5
trail_alternates a m reversed marks from to r (q ∷ s ∷ path) (j ∷ []) t free = absurd t.5
trail_alternates a m reversed marks from to r (q ∷ s ∷ path) (j ∷ i ∷ places) t free = (subst (λ d. Among (q.0, d) m) (sym t.5.0) t.4, trail_alternates a m reversed marks t.3 to r (s ∷ path) (i ∷ places) t.5 free)

pub trail_begins : (a : Matrix) (m : List Place) (reversed : Bool) (marks : List Bool) (from to r : ℕ) (path : List Place) (places : List ℕ) → Trail a m reversed marks from path places to → ¬ Among from (cols_of m) → BeginsUnmatched m (path ++ (r, to) ∷ [])
trail_begins a m reversed marks from to r [] [] t free = subst (λ c. ¬ Among c (cols_of m)) t free
trail_begins a m reversed marks from to r [] (j ∷ places) t free = elim t [ ]
trail_begins a m reversed marks from to r (q ∷ path) [] t free = elim t [ ]
trail_begins a m reversed marks from to r (q ∷ path) (j ∷ places) t free = subst (λ c. ¬ Among c (cols_of m)) (sym t.0) free

pub trail_root : (a : Matrix) (m : List Place) (reversed : Bool) (marks : List Bool) (from to r : ℕ) (path : List Place) (places : List ℕ) → Trail a m reversed marks from path places to → Among from (cols_of (path ++ (r, to) ∷ []))
trail_root a m reversed marks from to r [] [] t = inl t
trail_root a m reversed marks from to r [] (j ∷ places) t = elim t [ ]
trail_root a m reversed marks from to r (q ∷ path) [] t = elim t [ ]
trail_root a m reversed marks from to r (q ∷ path) (j ∷ places) t = inl (sym t.0)
