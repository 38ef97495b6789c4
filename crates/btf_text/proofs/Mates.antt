-- Pairs, column by column.
use Rattle.std.proofs.Common.{codes, decimal, ◌≡◌, ◌≢◌, ◌⊎◌, ◌<◌, ◌+◌, ℕ, suc, Bool, true, false, List, [], ◌∷◌, ◌++◌, map, filter, length, nat_eq, nat_lt, refl, sym, ap, ap₂, ◌∙◌, subst, inl, inr, arith, le-ltb, lt-ltb, eq-eqb}
use Rattle.std.proofs.lemmas.List.{map-append}
use Rattle.std.proofs.lemmas.Bool.Decides.{eqb_tells, leb_tells}
use Rattle.bip_defs.specs.Lists.{Among, IsBelowEach, IsRising}
use Rattle.bip_defs.specs.Matching.{cols_of}
use Rattle.bip_defs.specs.Matrix.{Place}
use Rattle.bip_defs.proofs.Sets.{below_each_sound, col_among}
use Rattle.bip_graph.specs.Texts.{TextLine, line, pair_line}
use Rattle.btf_text.specs.Columns.{pairs_at, pairs_before}

-- the line of a pair, from its digits
pub same_pair : {word : List ℕ} {r c row col : ℕ} → word ≡ decimal (r + 1) → r ≡ row → c ≡ col → line word ((c + 1) ∷ []) ∷ [] ≡ pair_line (row, col) ∷ []
same_pair {row = row} {col = col} word_is row_is col_is =
    ap₂ (λ (w : List ℕ) (n : ℕ). line w (n ∷ []) ∷ []) (word_is ∙ ap (λ (n : ℕ). decimal n) (omega (arith, row_is))) (omega (arith, col_is))

filter_all : (test : Place → Bool) (m : List Place) → ((p : Place) → Among p m → test p ≡ true) → filter test m ≡ m
filter_all test [] h = refl
filter_all test (p ∷ m) h = rw (h p (inl refl)) (ap (λ (ps : List Place). p ∷ ps) (filter_all test m (λ q on. h q (inr on))))

filter_none : (test : Place → Bool) (m : List Place) → ((p : Place) → Among p m → test p ≡ false) → filter test m ≡ []
filter_none test [] h = refl
filter_none test (p ∷ m) h = rw (h p (inl refl)) (filter_none test m (λ q on. h q (inr on)))

differs : (x c : ℕ) → x ≢ c → nat_eq x c ≡ false
differs x c ne = elim (eqb_tells x c) [ inl t ↦ absurd (ne t.1) | inr t ↦ t.0 ]

later_col : (p : Place) (m : List Place) (q : Place) → IsBelowEach p.1 (cols_of m) → Among q m → p.1 < q.1
later_col p m q below on = below_each_sound p.1 q.1 (cols_of m) below (col_among q.0 q.1 m on)

-- a column that has no mate
pub none_at : (c : ℕ) (m : List Place) → ¬ Among c (cols_of m) → pairs_at c m ≡ []
none_at c m free = filter_none (λ (p : Place). nat_eq p.1 c) m (λ p on. differs p.1 c (λ e. free (subst (λ x. Among x (cols_of m)) e (col_among p.0 p.1 m on))))

-- the one pair of a column
pub one_at : (r c : ℕ) (m : List Place) → IsRising (cols_of m) → Among (r, c) m → (r, c) ∷ [] ≡ pairs_at c m
one_at r c [] rising on = elim on [ ]
one_at r c (p ∷ m) rising (inl e) =
    subst (λ (q : Place). IsBelowEach q.1 (cols_of m) → (r, c) ∷ [] ≡ pairs_at c (q ∷ m)) e
    (λ below. rw (eq-eqb c c refl) (ap (λ (ps : List Place). (r, c) ∷ ps) (sym (none_at c m (λ on. omega (arith, below_each_sound c c (cols_of m) below on))))))
    rising.0
one_at r c (p ∷ m) rising (inr on) =
    rw (differs p.1 c (λ e. omega (arith, e, later_col p m (r, c) rising.0 on))) (one_at r c m rising.1 on)

pub before_none : (m : List Place) → pairs_before 0 m ≡ []
before_none m = filter_none (λ (p : Place). nat_lt p.1 0) m (λ p on. le-ltb p.1 0 (omega arith))

pub before_all : (n : ℕ) (m : List Place) → ((r c : ℕ) → Among (r, c) m → c < n) → pairs_before n m ≡ m
before_all n m within = filter_all (λ (p : Place). nat_lt p.1 n) m (λ p on. lt-ltb p.1 n (within p.0 p.1 on))

-- one column more
pub before_more : (c : ℕ) (m : List Place) → IsRising (cols_of m) → pairs_before (c + 1) m ≡ pairs_before c m ++ pairs_at c m
before_more c [] rising = refl
before_more c (p ∷ m) rising = by (before_more c m rising.1) (leb_tells (suc p.1) c) (eqb_tells p.1 c)
  where
    by : pairs_before (c + 1) m ≡ pairs_before c m ++ pairs_at c m → ((nat_lt p.1 c ≡ true) × (p.1 < c)) ⊎ ((nat_lt p.1 c ≡ false) × (c < suc p.1))
        → ((nat_eq p.1 c ≡ true) × (p.1 ≡ c)) ⊎ ((nat_eq p.1 c ≡ false) × (p.1 ≢ c)) → pairs_before (c + 1) (p ∷ m) ≡ pairs_before c (p ∷ m) ++ pairs_at c (p ∷ m)
    by rest (inl less) (inl same) = absurd (omega (arith, less.1, same.1))
    by rest (inl less) (inr other) = rw (less.0, other.0, lt-ltb p.1 (c + 1) (omega (arith, less.1))) (ap (λ (ps : List Place). p ∷ ps) rest)
    by rest (inr more) (inl same) =
        let nothing : pairs_before c m ≡ [] = filter_none (λ (q : Place). nat_lt q.1 c) m (λ q on. le-ltb q.1 c (omega (arith, same.1, later_col p m q rising.0 on))) in
        rw (more.0, same.0, lt-ltb p.1 (c + 1) (omega (arith, same.1)))
        (ap (λ (ps : List Place). p ∷ ps) (rest ∙ ap (λ (ps : List Place). ps ++ pairs_at c m) nothing) ∙ sym (ap (λ (ps : List Place). ps ++ p ∷ pairs_at c m) nothing))
    by rest (inr more) (inr other) = rw (more.0, other.0, le-ltb p.1 (c + 1) (omega (arith, more.1, other.1))) rest

-- the first line, before the first column's
pub line_of_count : (n : ℕ) (m : List Place) → n ≡ length m → line (codes "pairs") (n ∷ []) ∷ [] ≡ line (codes "pairs") (length m ∷ []) ∷ map pair_line (pairs_before 0 m)
line_of_count n m e = ap₂ (λ (k : ℕ) (ps : List Place). line (codes "pairs") (k ∷ []) ∷ map pair_line ps) e (sym (before_none m))

-- the lines so far go on with the next column's
pub columns_go_on : (c : ℕ) (head : TextLine) (m : List Place) → IsRising (cols_of m)
    → (head ∷ map pair_line (pairs_before c m)) ++ map pair_line (pairs_at c m) ≡ head ∷ map pair_line (pairs_before (c + 1) m)
columns_go_on c head m rising =
    ap (λ (ls : List TextLine). head ∷ ls) (sym (ap (map pair_line) (before_more c m rising) ∙ map-append pair_line (pairs_before c m) (pairs_at c m)))
