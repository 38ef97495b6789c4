-- The path of a root: from its leaf up, and whole.
use Rattle.std.proofs.Common.{◌≡◌, ◌⊎◌, ℕ, ◌<◌, ◌≤◌, List, [], ◌∷◌, refl, sym, ap, subst, inl, inr, ⊎_elim, arith}
use Rattle.bip_defs.specs.Lists.{Among, AreDistinct}
use Rattle.bip_defs.specs.Matching.{cols_of, rows_of}
use Rattle.bip_defs.specs.Matrix.{Place}
use Rattle.bip_defs.specs.Paths.{Alternates, BeginsUnmatched}
use Rattle.bip_defs.proofs.Sets.{col_among, one_col, one_row, row_among, row_pair}
use Rattle.forest_core.specs.Current.{OnPath, leaf, up}
use Rattle.forest_core.specs.Paths.{IsPath}
use Rattle.forest_core.specs.Sound.{IsSound}
use Rattle.bip_defs.specs.Forest.{RootOf, State, above, itself}
use Rattle.forest_core.proofs.Roots.{earlier, one_claim, rank, root_above, root_of_claimer}

-- the first pair of the list
abbrev pub Starts : Place → List Place → Type 0
Starts p [] = ⊥
Starts p (q ∷ path) = q ≡ p

-- the part of a root's path from the row r, which the column c claimed, to the leaf
pub record IsPathEnd (s : State) (x r c : ℕ) (path : List Place) : Type 0 where
  pub starts : Starts (r, c) path
  pub claim : Among (r, c) s.claims
  pub root : RootOf s.base s.claims x c
  pub alternates : Alternates s.base path
  pub claimed : (p : Place) → Among p path → Among p s.claims
  pub on_path : (q : ℕ) → Among q (rows_of path) → OnPath s.base s.claims s.leaves x q
  pub later : (q : ℕ) → Among q (rows_of path) → rank s.claims r ≤ rank s.claims q
  pub rows_differ : AreDistinct (rows_of path)
  pub has_leaf : (q : ℕ) → Among (x, q) s.leaves → Among q (rows_of path)
  pub closed : (q d t : ℕ) → Among (q, d) path → Among (t, d) s.base → (d ≡ c) ⊎ Among t (rows_of path)

-- the leaf of a root
one_leaf : (s : State) → IsSound s → (x q r : ℕ) → Among (x, q) s.leaves → Among (x, r) s.leaves → q ≡ r
one_leaf s k x q r h g = one_col s.leaves k.roots_differ x q r h g

pub end_at_leaf : (s : State) → IsSound s → (x r c : ℕ) → Among (x, r) s.leaves → Among (r, c) s.claims → IsPathEnd s x r c ((r, c) ∷ [])
end_at_leaf s k x r c h g = record {
  starts = refl;
  claim = g;
  root = root_of_claimer s k x r c (k.leaves x r h).in_tree g;
  alternates = (k.leaves x r h).leaf_unmatched;
  claimed = λ p m. ⊎_elim (λ (e : p ≡ (r, c)). subst (λ (z : Place). Among z s.claims) (sym e) g) (λ n. absurd n) m;
  on_path = λ q m. ⊎_elim (λ (e : q ≡ r). leaf (subst (λ z. Among {X = Place} (x, z) s.leaves) (sym e) h)) (λ n. absurd n) m;
  later = λ q m. ⊎_elim (λ (e : q ≡ r). (let f : rank s.claims q ≡ rank s.claims r = ap (rank s.claims) e in omega arith)) (λ n. absurd n) m;
  rows_differ = (λ n. n, tt);
  has_leaf = λ q m. inl (one_leaf s k x q r m h);
  closed = λ q d t m n. ⊎_elim (λ (e : (q, d) ≡ (r, c)). inl (ap (λ (z : Place). z.1) e)) (λ f. absurd f) m;
}

alternates_more : (m : List Place) (q d r c : ℕ) (path : List Place) → Starts (r, c) path → Among (q, c) m → Alternates m path → Alternates m ((q, d) ∷ path)
alternates_more m q d r c [] s h alt = absurd s
alternates_more m q d r c (p ∷ path) s h alt = (subst (λ (z : Place). Among {X = Place} (q, z.1) m) (sym s) h, alt)

pub starts_among : (p : Place) (path : List Place) → Starts p path → Among p path
starts_among p [] s = absurd s
starts_among p (q ∷ path) s = inl (sym s)

-- one row further up
pub end_more : (s : State) → IsSound s → (x r c q d : ℕ) (path : List Place) → IsPathEnd s x r c path → Among (q, c) s.base → Among (q, d) s.claims → IsPathEnd s x q d ((q, d) ∷ path)
end_more s k x r c q d path b m g = record {
  starts = refl;
  claim = g;
  root = root_of_claimer s k x q d (root_above s k q b.root m) g;
  alternates = alternates_more s.base q d r c path b.starts m b.alternates;
  claimed = λ p h. ⊎_elim (λ (e : p ≡ (q, d)). subst (λ (z : Place). Among z s.claims) (sym e) g) (b.claimed p) h;
  on_path = λ t h. ⊎_elim (λ (e : t ≡ q). subst (OnPath s.base s.claims s.leaves x) (sym e) here) (b.on_path t) h;
  later = λ t h. ⊎_elim (λ (e : t ≡ q). (let f : rank s.claims t ≡ rank s.claims q = ap (rank s.claims) e in omega arith)) (λ n. (let le = b.later t n in omega (arith, le, lower))) h;
  rows_differ = (λ h. (let le = b.later q h in omega (arith, le, lower)), b.rows_differ);
  has_leaf = λ t h. inr (b.has_leaf t h);
  closed = λ t e u h n. ⊎_elim (λ (f : (t, e) ≡ (q, d)). inl (ap (λ (z : Place). z.1) f)) (λ g. inr (up_there e u n (b.closed t e u g n))) h;
}
  where
    lower : rank s.claims q < rank s.claims r
    lower = (earlier s k r c q b.claim m).1

    here : OnPath s.base s.claims s.leaves x q
    here = up r c (b.on_path r (row_among r c path (starts_among (r, c) path b.starts))) b.claim m

    up_there : (e u : ℕ) → Among (u, e) s.base → (e ≡ c) ⊎ Among u (rows_of path) → (u ≡ q) ⊎ Among u (rows_of path)
    up_there e u n (inl f) = inl (one_row s.base k.base.cols_differ u q c (subst (λ z. Among {X = Place} (u, z) s.base) f n) m)
    up_there e u n (inr h) = inr h

-- a column without a base mate is the root
pub end_at_root : (s : State) → IsSound s → (x r c : ℕ) (path : List Place) → IsPathEnd s x r c path → ¬ Among c (cols_of s.base) → IsPath s x path
end_at_root s k x r c path b free = record {
  begins = begins path b.starts;
  alternates = b.alternates;
  claimed = b.claimed;
  on_path = b.on_path;
  complete = λ q w. complete w;
  rows_differ = b.rows_differ;
}
  where
    begins : (path : List Place) → Starts (r, c) path → BeginsUnmatched s.base path
    begins [] e = absurd e
    begins (p ∷ path) e = subst (λ (z : Place). ¬ Among z.1 (cols_of s.base)) (sym e) free

    complete : {q : ℕ} → OnPath s.base s.claims s.leaves x q → Among q (rows_of path)
    complete {q = q} (leaf h) = b.has_leaf q h
    complete {q = t} (up q d w g m) =
        let (e, h) = row_pair q path (complete w) in
        let same : e ≡ d = one_claim s k q e d (b.claimed (q, e) h) g in
        ⊎_elim (λ (f : d ≡ c). absurd (free (subst (λ z. Among z (cols_of s.base)) f (col_among t d s.base m)))) (λ n. n) (b.closed q d t (subst (λ z. Among {X = Place} (q, z) path) same h) m)

path_from : (s : State) → IsSound s → (x : ℕ) {c : ℕ} → RootOf s.base s.claims x c → (r : ℕ) (path : List Place) → IsPathEnd s x r c path → (whole : List Place) × IsPath s x whole
path_from s k x {c = c} (itself free) r path b = (path, end_at_root s k x r c path b free)
path_from s k x {c = c} (above {d = d} q m g w) r path b = path_from s k x w q ((q, d) ∷ path) (end_more s k x r c q d path b m g)

-- each root with a leaf has a path
pub has_path : (s : State) → IsSound s → (x : ℕ) → (r : ℕ) → Among (x, r) s.leaves → (path : List Place) × IsPath s x path
has_path s k x r h = let (c, g, w) = (k.leaves x r h).in_tree in path_from s k x w r ((r, c) ∷ []) (end_at_leaf s k x r c h g)
