-- Claims of a sound forest, and the one root of each column and each claimed row.
use Rattle.std.proofs.Common.{◌≡◌, ◌≢◌, ℕ, suc, ◌<◌, ◌==◌, if◌then◌else◌, List, [], ◌∷◌, ◌++◌, refl, sym, ap, subst, inl, inr, ⊎_elim, arith, eq-eqb, ne_eqb}
use Rattle.bip_defs.specs.Lists.{Among, AreDistinct}
use Rattle.bip_defs.specs.Matching.{cols_of, rows_of}
use Rattle.bip_defs.specs.Matrix.{AreEntries, IsEntry, Matrix, Place}
use Rattle.bip_defs.proofs.Sets.{among_last, among_left, among_right, col_among, number_same, one_col, one_row, row_among}
use Rattle.forest_core.specs.Current.{OnPath, leaf, up}
use Rattle.forest_core.specs.Sound.{AreClaims, IsSound}
use Rattle.bip_defs.specs.Forest.{IsRootOfRow, RootOf, State, above, itself}

-- Claims.

pub claims_fresh : (a : Matrix) (base : List Place) (before : List ℕ) (claims : List Place) → AreClaims a base before claims → (r : ℕ) → Among r (rows_of claims) → ¬ Among r before
claims_fresh a base before [] k r h = elim h [ ]
claims_fresh a base before (p ∷ claims) k r (inl e) = λ g. k.0 (subst (λ x. Among x before) e g)
claims_fresh a base before (p ∷ claims) k r (inr h) = λ g. claims_fresh a base (before ++ p.0 ∷ []) claims k.3 r h (among_left r before (p.0 ∷ []) g)

pub claims_differ : (a : Matrix) (base : List Place) (before : List ℕ) (claims : List Place) → AreClaims a base before claims → AreDistinct (rows_of claims)
claims_differ a base before [] k = tt
claims_differ a base before (p ∷ claims) k = (λ h. claims_fresh a base (before ++ p.0 ∷ []) claims k.3 p.0 h (among_right p.0 before (p.0 ∷ []) (inl refl)), claims_differ a base (before ++ p.0 ∷ []) claims k.3)

pub claims_entries : (a : Matrix) (base : List Place) (before : List ℕ) (claims : List Place) → AreClaims a base before claims → AreEntries a claims
claims_entries a base before [] k r c h = elim h [ ]
claims_entries a base before (p ∷ claims) k r c (inl e) = subst (λ (q : Place). IsEntry a q.0 q.1) (sym e) k.1
claims_entries a base before (p ∷ claims) k r c (inr h) = claims_entries a base (before ++ p.0 ∷ []) claims k.3 r c h

-- a row was claimed by one column
pub one_claim : (s : State) → IsSound s → (r c d : ℕ) → Among (r, c) s.claims → Among (r, d) s.claims → c ≡ d
one_claim s k r c d h g = one_col s.claims (claims_differ s.matrix s.base [] s.claims k.claims) r c d h g

-- How early a row was claimed.

abbrev pub rank : List Place → ℕ → ℕ
rank [] r = 0
rank (p ∷ claims) r = if p.0 == r then 0 else suc (rank claims r)

rank_here : (p : Place) (claims : List Place) (r : ℕ) → p.0 ≡ r → rank (p ∷ claims) r ≡ 0
rank_here p claims r e = rw (eq-eqb p.0 r e) refl

rank_later : (p : Place) (claims : List Place) (r : ℕ) → p.0 ≢ r → rank (p ∷ claims) r ≡ suc (rank claims r)
rank_later p claims r ne = rw (ne_eqb p.0 r ne) refl

-- the base row of a column was claimed before the column claimed a row
earlier_from : (a : Matrix) (base : List Place) (before : List ℕ) (claims : List Place) → AreDistinct (cols_of base) → AreClaims a base before claims → (r c q : ℕ) → Among (r, c) claims → Among (q, c) base → ¬ Among q before → Among q (rows_of claims) × (rank claims q < rank claims r)
earlier_from a base before [] d k r c q h m n = elim h [ ]
earlier_from a base before (p ∷ claims) d k r c q (inl e) m n = absurd (⊎_elim free (λ (t, pair, was). n (subst (λ x. Among x before) (one_row base d t q p.1 pair mate) was)) k.2)
  where
    mate : Among (q, p.1) base
    mate = subst (λ x. Among {X = Place} (q, x) base) (ap (λ (z : Place). z.1) e) m

    free : ¬ (¬ Among p.1 (cols_of base))
    free none = none (col_among q p.1 base mate)
earlier_from a base before (p ∷ claims) d k r c q (inr h) m n = ⊎_elim first (later (earlier_from a base (before ++ p.0 ∷ []) claims d k.3 r c q h m)) (number_same p.0 q)
  where
    not_first : p.0 ≢ r
    not_first e = claims_fresh a base (before ++ p.0 ∷ []) claims k.3 r (row_among r c claims h) (subst (λ x. Among x (before ++ p.0 ∷ [])) e (among_right p.0 before (p.0 ∷ []) (inl refl)))

    first : p.0 ≡ q → Among q (p.0 ∷ rows_of claims) × (rank (p ∷ claims) q < rank (p ∷ claims) r)
    first e = (inl (sym e), rw (rank_here p claims q e, rank_later p claims r not_first) (omega arith))

    later : (¬ Among q (before ++ p.0 ∷ []) → Among q (rows_of claims) × (rank claims q < rank claims r)) → p.0 ≢ q → Among q (p.0 ∷ rows_of claims) × (rank (p ∷ claims) q < rank (p ∷ claims) r)
    later rest ne =
        let (on, lt) = rest (λ g. ⊎_elim n (λ (e : q ≡ p.0). ne (sym e)) (among_last q p.0 before g)) in
        (inr on, rw (rank_later p claims q ne, rank_later p claims r not_first) (omega arith))

pub earlier : (s : State) → IsSound s → (r c q : ℕ) → Among (r, c) s.claims → Among (q, c) s.base → Among q (rows_of s.claims) × (rank s.claims q < rank s.claims r)
earlier s k r c q h m = earlier_from s.matrix s.base [] s.claims k.base.cols_differ k.claims r c q h m (λ g. g)

-- Roots.

pub root_more : (base claims more : List Place) → ((p : Place) → Among p claims → Among p more) → {x c : ℕ} → RootOf base claims x c → RootOf base more x c
root_more base claims more over (itself free) = itself free
root_more base claims more over (above {d = d} r p h w) = above r p (over (r, d) h) (root_more base claims more over w)

-- an unmatched column is its own root
pub root_unmatched : (base claims : List Place) {x c : ℕ} → RootOf base claims x c → ¬ Among c (cols_of base) → x ≡ c
root_unmatched base claims (itself free) n = refl
root_unmatched base claims {c = c} (above r p h w) n = absurd (n (col_among r c base p))

-- no root has a base mate
pub root_free : (base claims : List Place) {x c : ℕ} → RootOf base claims x c → ¬ Among x (cols_of base)
root_free base claims (itself free) = free
root_free base claims (above r p h w) = root_free base claims w

-- the root of a matched column is that of its base row
pub root_above : (s : State) → IsSound s → {x c : ℕ} (r : ℕ) → RootOf s.base s.claims x c → Among (r, c) s.base → IsRootOfRow s.base s.claims x r
root_above s k {c = c} r (itself free) m = absurd (free (col_among r c s.base m))
root_above s k {c = c} r (above {d = d} q p h w) m = let e : q ≡ r = one_row s.base k.base.cols_differ q r c p m in (d, subst (λ x. Among {X = Place} (x, d) s.claims) e h, w)

pub one_root : (s : State) → IsSound s → {x y c : ℕ} → RootOf s.base s.claims x c → RootOf s.base s.claims y c → x ≡ y
one_root s k w (itself free) = root_unmatched s.base s.claims w free
one_root s k {x = x} w (above {d = d} r p h v) = let (e, g, u) = root_above s k r w p in one_root s k (subst (RootOf s.base s.claims x) (one_claim s k r e d g h) u) v

pub one_root_of_row : (s : State) → IsSound s → (x y r : ℕ) → IsRootOfRow s.base s.claims x r → IsRootOfRow s.base s.claims y r → x ≡ y
one_root_of_row s k x y r (c, h, w) (d, g, v) = one_root s k w (subst (RootOf s.base s.claims y) (one_claim s k r d c g h) v)

-- the column that claimed a row has the row's root
pub root_of_claimer : (s : State) → IsSound s → (x r c : ℕ) → IsRootOfRow s.base s.claims x r → Among (r, c) s.claims → RootOf s.base s.claims x c
root_of_claimer s k x r c (d, h, w) g = subst (RootOf s.base s.claims x) (one_claim s k r d c h g) w

-- each claimed row has a root
has_root_from : (a : Matrix) (base all : List Place) (before : List ℕ) (claims : List Place) → AreClaims a base before claims → ((p : Place) → Among p claims → Among p all) → ((q : ℕ) → Among q before → (x : ℕ) × IsRootOfRow base all x q) → (r : ℕ) → Among r (rows_of claims) → (x : ℕ) × IsRootOfRow base all x r
has_root_from a base all before [] k on roots r h = elim h [ ]
has_root_from a base all before (p ∷ claims) k on roots r h = ⊎_elim (λ (e : r ≡ p.0). subst (λ q. (x : ℕ) × IsRootOfRow base all x q) (sym e) first) (λ g. has_root_from a base all (before ++ p.0 ∷ []) claims k.3 (λ q i. on q (inr i)) more r g) h
  where
    first : (x : ℕ) × IsRootOfRow base all x p.0
    first = ⊎_elim (λ free. (p.1, (p.1, on p (inl refl), itself free))) (λ (q, m, was). let (x, (d, g, w)) = roots q was in (x, (p.1, on p (inl refl), above q m g w))) k.2

    more : (q : ℕ) → Among q (before ++ p.0 ∷ []) → (x : ℕ) × IsRootOfRow base all x q
    more q g = ⊎_elim (λ i. roots q i) (λ (e : q ≡ p.0). subst (λ z. (x : ℕ) × IsRootOfRow base all x z) (sym e) first) (among_last q p.0 before g)

pub has_root : (s : State) → IsSound s → (r : ℕ) → Among r (rows_of s.claims) → (x : ℕ) × IsRootOfRow s.base s.claims x r
has_root s k r h = has_root_from s.matrix s.base s.claims [] s.claims k.claims (λ p g. g) (λ q g. absurd g) r h

-- a row on a root's path has this root
pub path_root : (s : State) → IsSound s → {x r : ℕ} → OnPath s.base s.claims s.leaves x r → IsRootOfRow s.base s.claims x r
path_root s k {x = x} {r = r} (leaf h) = (k.leaves x r h).in_tree
path_root s k {x = x} {r = q} (up r c w h m) = root_above s k q (root_of_claimer s k x r c (path_root s k w) h) m

pub one_path : (s : State) → IsSound s → {x y r : ℕ} → OnPath s.base s.claims s.leaves x r → OnPath s.base s.claims s.leaves y r → x ≡ y
one_path s k {x = x} {y = y} {r = r} w v = one_root_of_row s k x y r (path_root s k w) (path_root s k v)
