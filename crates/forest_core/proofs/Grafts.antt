-- What stays of a forest at a graft.
use Rattle.std.proofs.Common.{◌≡◌, ◌⊎◌, ℕ, List, [], ◌∷◌, ◌++◌, refl, sym, subst, inl, inr, ⊎_elim}
use Rattle.bip_defs.specs.Lists.{Among}
use Rattle.bip_defs.specs.Matching.{cols_of, rows_of}
use Rattle.bip_defs.specs.Matrix.{Place}
use Rattle.bip_defs.proofs.Sets.{among_last, among_left, among_right, col_among, col_pair, row_among}
use Rattle.forest_core.specs.Current.{IsCurrent}
use Rattle.forest_core.specs.Events.{AreKept, drops, keeps, none}
use Rattle.forest_core.specs.Sound.{AreClaims, IsSound}
use Rattle.bip_defs.specs.Forest.{IsRootOfRow, IsWon, RootOf, State, above, itself}
use Rattle.forest_core.proofs.Roots.{one_root, path_root, root_of_claimer}

-- The kept claims.

pub kept_sound : (s : State) {ps qs : List Place} → AreKept s ps qs → (p : Place) → Among p qs → Among p ps × (¬ IsWon s p.0)
kept_sound s none p h = elim h [ ]
kept_sound s (keeps q n k) p (inl e) = (inl e, subst (λ (z : Place). ¬ IsWon s z.0) (sym e) n)
kept_sound s (keeps q n k) p (inr h) = let (g, m) = kept_sound s k p h in (inr g, m)
kept_sound s (drops q w k) p h = let (g, m) = kept_sound s k p h in (inr g, m)

pub kept_complete : (s : State) {ps qs : List Place} → AreKept s ps qs → (p : Place) → Among p ps → ¬ IsWon s p.0 → Among p qs
kept_complete s none p h n = h
kept_complete s (keeps q m k) p (inl e) n = inl e
kept_complete s (keeps q m k) p (inr h) n = inr (kept_complete s k p h n)
kept_complete s (drops q w k) p (inl e) n = absurd (n (subst (λ (z : Place). IsWon s z.0) (sym e) w))
kept_complete s (drops q w k) p (inr h) n = kept_complete s k p h n

-- What stays in trees without a leaf.

-- flipped roots have leaves
won_by_flip : (s : State) → IsSound s → (r y : ℕ) → Among y s.flipped → IsRootOfRow s.base s.claims y r → IsWon s r
won_by_flip s k r y f w = (y, w, k.flipped y f)

-- a row of such a tree keeps its base mate
pub keeps_mate : (s : State) → IsSound s → (now : List Place) → IsCurrent s now → (r c : ℕ) → ¬ IsWon s r → Among (r, c) s.base → Among (r, c) now
keeps_mate s k now cur r c n m = (cur.pairs (r, c)).1 (inr (m, λ (y, f, w). n (won_by_flip s k r y f (path_root s k w))))

-- an unmatched column whose claimed row is in such a tree stays unmatched
pub stays_free : (s : State) → IsSound s → (now : List Place) → IsCurrent s now → (r c : ℕ) → ¬ IsWon s r → IsRootOfRow s.base s.claims c r → ¬ Among c (cols_of s.base) → ¬ Among c (cols_of now)
stays_free s k now cur r c n w free h =
    let (q, p) = col_pair c now h in
    ⊎_elim (λ (g, (y, f, v)). n (won_by_flip s k r y f (subst (λ z. IsRootOfRow s.base s.claims z r) (one_root s k (itself free) (root_of_claimer s k y q c (path_root s k v) g)) w))) (λ (g, m). free (col_among q c s.base g)) ((cur.pairs (q, c)).0 p)

-- a claim after those of the rows before it, and the kept ones among these
kept_claims_from : (s : State) → IsSound s → (now : List Place) → IsCurrent s now → (before kept_before : List ℕ) → ((r : ℕ) → Among r kept_before → Among r before) → ((r : ℕ) → Among r before → ¬ IsWon s r → Among r kept_before) → ((r : ℕ) → Among r before → Among r (rows_of s.claims)) → {ps qs : List Place} → ((p : Place) → Among p ps → Among p s.claims) → AreKept s ps qs → AreClaims s.matrix s.base before ps → AreClaims s.matrix now kept_before qs
kept_claims_from s k now cur before kb within has on all none c = tt
kept_claims_from s k now cur before kb within has on all (keeps {ps = ps} p n t) c = (
  λ h. c.0 (within p.0 h),
  c.1,
  ⊎_elim free (λ (q, m, was). inr (mate q m was)) c.2,
  kept_claims_from s k now cur (before ++ p.0 ∷ []) (kb ++ p.0 ∷ [])
      (λ r h. ⊎_elim (λ g. among_left r before (p.0 ∷ []) (within r g)) (λ (e : r ≡ p.0). among_right r before (p.0 ∷ []) (inl e)) (among_last r p.0 kb h))
      (λ r h m. ⊎_elim (λ g. among_left r kb (p.0 ∷ []) (has r g m)) (λ (e : r ≡ p.0). among_right r kb (p.0 ∷ []) (inl e)) (among_last r p.0 before h))
      (λ r h. ⊎_elim (λ g. on r g) (λ (e : r ≡ p.0). subst (λ x. Among x (rows_of s.claims)) (sym e) (row_among p.0 p.1 s.claims (all p (inl refl)))) (among_last r p.0 before h))
      (λ q h. all q (inr h)) t c.3,
)
  where
    claim : Among p s.claims
    claim = all p (inl refl)

    free : ¬ Among p.1 (cols_of s.base) → (¬ Among p.1 (cols_of now)) ⊎ ((q : ℕ) × Among (q, p.1) now × Among q kb)
    free f = inl (stays_free s k now cur p.0 p.1 n (p.1, claim, itself f) f)

    mate : (q : ℕ) → Among (q, p.1) s.base → Among q before → (r : ℕ) × Among (r, p.1) now × Among r kb
    mate q m was = (q, keeps_mate s k now cur q p.1 not_won m, has q was not_won)
      where
        not_won : ¬ IsWon s q
        not_won (x, (d, g, w), l) = n (x, (p.1, claim, above q m g w), l)
kept_claims_from s k now cur before kb within has on all (drops p w t) c =
    kept_claims_from s k now cur (before ++ p.0 ∷ []) kb
    (λ r h. among_left r before (p.0 ∷ []) (within r h))
    (λ r h m. ⊎_elim (λ g. has r g m) (λ (e : r ≡ p.0). absurd (m (subst (IsWon s) (sym e) w))) (among_last r p.0 before h))
    (λ r h. ⊎_elim (λ g. on r g) (λ (e : r ≡ p.0). subst (λ x. Among x (rows_of s.claims)) (sym e) (row_among p.0 p.1 s.claims (all p (inl refl)))) (among_last r p.0 before h))
    (λ q h. all q (inr h)) t c.3

pub kept_claims : (s : State) → IsSound s → (now qs : List Place) → IsCurrent s now → AreKept s s.claims qs → AreClaims s.matrix now [] qs
kept_claims s k now qs cur t = kept_claims_from s k now cur [] [] (λ r h. h) (λ r h n. h) (λ r h. absurd h) (λ p h. h) t k.claims

-- the root of a row whose tree has no leaf stays
pub kept_root : (s : State) → IsSound s → (now qs : List Place) → IsCurrent s now → AreKept s s.claims qs → {x c : ℕ} (r : ℕ) → Among (r, c) s.claims → ¬ IsWon s r → RootOf s.base s.claims x c → RootOf now qs x c
kept_root s k now qs cur t r h n (itself free) = itself (stays_free s k now cur r _ n (_, h, itself free) free)
kept_root s k now qs cur t {c = c} r h n (above {d = d} q m g w) = above q (keeps_mate s k now cur q c not_won m) (kept_complete s t (q, d) g not_won) (kept_root s k now qs cur t q g not_won w)
  where
    not_won : ¬ IsWon s q
    not_won (y, (e, i, v), l) = n (y, (c, h, above q m i v), l)
