-- An augmenting path that is followed back from its end.
use Rattle.std.proofs.Common.{◌≡◌, ◌⊎◌, ◌∙◌, ℕ, zero, suc, ◌<◌, ◌≤◌, List, [], ◌∷◌, ◌++◌, take, drop, length, length-append, reverse, refl, sym, ap, subst, inl, inr, ⊎_elim, arith}
use Rattle.std.proofs.lemmas.List.{length-map, length-reverse, reverse-append}
use Rattle.bip_defs.specs.Lists.{Among, AreDistinct}
use Rattle.bip_defs.specs.Matching.{cols_of, rows_of}
use Rattle.bip_defs.specs.Matrix.{Place}
use Rattle.bip_defs.specs.Paths.{Alternates, BeginsUnmatched, IsAugmenting}
use Rattle.bip_defs.proofs.Sets.{col_among, few_distinct, one_col, one_row, row_among, written_over}
use Rattle.bip_graph.specs.Parents.{AreTrees, HasDepth, IsAncestor, IsTraced, child, itself, parent, root}

-- a column has one depth
one_depth : (m : List Place) (reached : ℕ → ℕ → Type 0) (c n k : ℕ) → AreTrees m reached → HasDepth m reached c n → HasDepth m reached c k → n ≡ k
one_depth m reached c zero zero t a b = refl
one_depth m reached c zero (suc k) t (root free) (child r pair up b) = absurd (free (col_among r c m pair))
one_depth m reached c (suc n) zero t (child r pair up a) (root free) = absurd (free (col_among r c m pair))
one_depth m reached c (suc n) (suc k) t (child {d = d} r pair up a) (child {d = e} s other over b) =
    let same : e ≡ d = t.one_parent r e d (subst (λ x. reached x e) (one_row m t.cols_differ s r c other pair) over) up in
    ap suc (one_depth m reached d n k t a (subst (λ x. HasDepth m reached x k) same b))

-- a parent is one step nearer to the root
depth_less : (m : List Place) (reached : ℕ → ℕ → Type 0) (r c d n : ℕ) → AreTrees m reached → HasDepth m reached c n → Among (r, c) m → reached r d → (k : ℕ) × (n ≡ suc k) × HasDepth m reached d k
depth_less m reached r c d zero t (root free) pair up = absurd (free (col_among r c m pair))
depth_less m reached r c d (suc n) t (child {d = e} s other over a) pair up =
    let same : e ≡ d = t.one_parent r e d (subst (λ x. reached x e) (one_row m t.cols_differ s r c other pair) over) up in
    (n, refl, subst (λ x. HasDepth m reached x n) same a)

-- the first pair's column
abbrev pub HasHead : ℕ → List Place → Type 0
HasHead c [] = ⊥
HasHead c (p ∷ path) = p.1 ≡ c

-- the row is the leaf, or its pair is of a column that is deeper
abbrev pub IsDeeper : List Place → (ℕ → ℕ → Type 0) → ℕ → ℕ → ℕ → Type 0
IsDeeper m reached leaf n r = (r ≡ leaf) ⊎ ((d k : ℕ) × Among (r, d) m × HasDepth m reached d k × (n < k))

-- a path from the column, which is an ancestor of the leaf's column, to the leaf
pub record IsBack (m : List Place) (reached : ℕ → ℕ → Type 0) (leaf from c : ℕ) (path : List Place) : Type 0 where
  pub depth : ℕ
  pub deep : HasDepth m reached c depth
  pub ancestor : IsAncestor m reached from c
  pub head : HasHead c path
  pub alternates : Alternates m path
  pub rows_differ : AreDistinct (rows_of path)
  pub deeper : (r : ℕ) → Among r (rows_of path) → IsDeeper m reached leaf depth r
  pub last : Among (leaf, from) path
  pub traced : (p : Place) → Among p path → IsTraced m reached leaf from p

back_start : (m : List Place) (reached : ℕ → ℕ → Type 0) (leaf from : ℕ) → ((n : ℕ) × HasDepth m reached from n) → ¬ Among leaf (rows_of m) → IsBack m reached leaf from from ((leaf, from) ∷ [])
back_start m reached leaf from (n, deep) free = record {
  depth = n;
  deep = deep;
  ancestor = itself;
  head = refl;
  alternates = free;
  rows_differ = (λ h. h, tt);
  deeper = λ r h. ⊎_elim (λ e. inl e) (λ k. absurd k) h;
  last = inl refl;
  traced = λ p h. ⊎_elim (λ e. inl e) (λ k. absurd k) h;
}

-- a pair more in front of the path
alternates_more : (m : List Place) (r c d : ℕ) (path : List Place) → HasHead c path → Among (r, c) m → Alternates m path → Alternates m ((r, d) ∷ path)
alternates_more m r c d [] head h alt = absurd head
alternates_more m r c d (s ∷ path) head h alt = (subst (λ x. Among {X = Place} (r, x) m) (sym head) h, alt)

back_more : (m : List Place) (reached : ℕ → ℕ → Type 0) (leaf from c r d : ℕ) (path : List Place) → AreTrees m reached → ¬ Among leaf (rows_of m) → IsBack m reached leaf from c path → Among (r, c) m → reached r d → IsBack m reached leaf from d ((r, d) ∷ path)
back_more m reached leaf from c r d path t free b pair up =
    let (k, e, deep) = depth_less m reached r c d b.depth t b.deep pair up in record {
      depth = k;
      deep = deep;
      ancestor = parent r b.ancestor pair up;
      head = refl;
      alternates = alternates_more m r c d path b.head pair b.alternates;
      rows_differ = (new, b.rows_differ);
      deeper = λ s h. ⊎_elim (λ (z : s ≡ r). inr (c, b.depth, subst (λ x. Among {X = Place} (x, c) m) (sym z) pair, b.deep, omega arith)) (λ g. ⊎_elim (λ z. inl z) (λ (f, n, p, at, lt). inr (f, n, p, at, omega arith)) (b.deeper s g)) h;
      last = inr b.last;
      traced = λ p h. ⊎_elim (λ (z : p ≡ (r, d)). subst (IsTraced m reached leaf from) (sym z) (inr (c, b.ancestor, pair, up))) (λ g. b.traced p g) h;
    }
  where
    new : ¬ Among r (rows_of path)
    new h = ⊎_elim (λ (z : r ≡ leaf). free (subst (λ x. Among x (rows_of m)) z (row_among r c m pair))) (λ (f, n, p, at, lt). let e = one_depth m reached c b.depth n t b.deep (subst (λ x. HasDepth m reached x n) (one_col m t.rows_differ r f c p pair) at) in absurd (omega arith)) (b.deeper r h)

-- no path is longer than the matching by more than one pair
back_short : (m : List Place) (reached : ℕ → ℕ → Type 0) (leaf from c : ℕ) (path : List Place) → IsBack m reached leaf from c path → length path ≤ suc (length m)
back_short m reached leaf from c path b =
    let le = few_distinct (rows_of path) (leaf ∷ rows_of m) b.rows_differ (λ r h. ⊎_elim (λ (e : r ≡ leaf). inl e) (λ (d, n, pair, deep, lt). inr (row_among r d m pair)) (b.deeper r h)) in
    omega (arith, le, length-map path (λ (p : Place). p.0), length-map m (λ (p : Place). p.0))

begins : (m : List Place) (c : ℕ) (path : List Place) → HasHead c path → ¬ Among c (cols_of m) → BeginsUnmatched m path
begins m c [] head free = absurd head
begins m c (p ∷ path) head free = subst (λ x. ¬ Among x (cols_of m)) (sym head) free

-- The path as it is kept: from its end on.

abbrev pub IsTracing : List Place → (ℕ → ℕ → Type 0) → ℕ → ℕ → ℕ → List Place → Type 0
IsTracing m reached leaf from c kept = IsBack m reached leaf from c (reverse kept)

pub tracing_start : (m : List Place) (reached : ℕ → ℕ → Type 0) (leaf from : ℕ) (kept : List Place) → ((n : ℕ) × HasDepth m reached from n) → ¬ Among leaf (rows_of m) → kept ≡ (leaf, from) ∷ [] → IsTracing m reached leaf from from kept
tracing_start m reached leaf from kept deep free e = subst (λ z. IsBack m reached leaf from from (reverse z)) (sym e) (back_start m reached leaf from deep free)

pub tracing_more : (m : List Place) (reached : ℕ → ℕ → Type 0) (leaf from c r d : ℕ) (kept new : List Place) → AreTrees m reached → ¬ Among leaf (rows_of m) → IsTracing m reached leaf from c kept → Among (r, c) m → reached r d → new ≡ kept ++ (r, d) ∷ [] → IsTracing m reached leaf from d new
tracing_more m reached leaf from c r d kept new t free b pair up e = subst (IsBack m reached leaf from d) (sym (ap reverse e ∙ reverse-append kept ((r, d) ∷ []))) (back_more m reached leaf from c r d (reverse kept) t free b pair up)

pub grown_length : (kept new : List Place) (p : Place) → new ≡ kept ++ p ∷ [] → length new ≡ suc (length kept)
grown_length kept new p e = omega (arith, ap length e, length-append kept (p ∷ []))

-- there is room for one pair more
pub tracing_room : (m : List Place) (reached : ℕ → ℕ → Type 0) (leaf from c r d : ℕ) (kept : List Place) → AreTrees m reached → ¬ Among leaf (rows_of m) → IsTracing m reached leaf from c kept → Among (r, c) m → reached r d → length kept ≤ length m
tracing_room m reached leaf from c r d kept t free b pair up =
    let le = back_short m reached leaf from d ((r, d) ∷ reverse kept) (back_more m reached leaf from c r d (reverse kept) t free b pair up) in
    omega (arith, le, length-reverse kept)

pub tracing_end : (m : List Place) (reached : ℕ → ℕ → Type 0) (leaf from c : ℕ) (kept : List Place) → IsTracing m reached leaf from c kept → ¬ Among c (cols_of m) → IsAugmenting m (reverse kept)
tracing_end m reached leaf from c kept b free = record { begins = begins m c (reverse kept) b.head free; alternates = b.alternates; rows_differ = b.rows_differ }

-- the list that was written over the kept one by turning it round
pub turned_round : (kept new : List Place) (n : ℕ) → n ≡ length kept → new ≡ reverse kept → take n (new ++ drop (length new) kept) ≡ reverse kept
turned_round kept new n long e = written_over new kept n (ap length e ∙ length-reverse kept) long ∙ e
