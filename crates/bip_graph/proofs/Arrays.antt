-- The pairs that an array of mates stores.
use Rattle.std.proofs.Common.{◌≡◌, ◌≢◌, ◌⊎◌, ◌∙◌, ℕ, zero, suc, ◌+◌, ◌<◌, ◌≤◌, List, [], ◌∷◌, length, get_or, set, refl, sym, ap, subst, inl, inr, ⊎_elim, arith, ne_eqb}
use Rattle.bip_defs.specs.Lists.{Among, IsRising}
use Rattle.bip_defs.specs.Matching.{cols_of}
use Rattle.bip_defs.specs.Matrix.{Place}
use Rattle.bip_defs.proofs.Sets.{below_each_from, number_same, col_among, col_pair}
use Rattle.bip_graph.specs.Matching.{none, pairs_from, pairs_of}

-- an array without a mate at its first place, and with one

pub pairs_none : (k r : ℕ) (rs : List ℕ) → r ≡ none → pairs_from k (r ∷ rs) ≡ pairs_from (suc k) rs
pairs_none k r rs e = rw e refl

pub pairs_some : (k r : ℕ) (rs : List ℕ) → r ≢ none → pairs_from k (r ∷ rs) ≡ (r, k) ∷ pairs_from (suc k) rs
pairs_some k r rs ne = rw (ne_eqb r none ne) refl

-- where a pair stands in the array
pub record Stands (k : ℕ) (mates : List ℕ) (r c : ℕ) : Type 0 where
  pub place : ℕ
  pub col : c ≡ k + place
  pub within : place < length mates
  pub row : get_or mates place 0 ≡ r
  pub some : r ≢ none

stands_later : (k x : ℕ) (mates : List ℕ) (r c : ℕ) → Stands (suc k) mates r c → Stands k (x ∷ mates) r c
stands_later k x mates r c s = record { place = suc s.place; col = omega (arith, s.col); within = omega (arith, s.within); row = s.row; some = s.some }

pub stands : (k : ℕ) (mates : List ℕ) (r c : ℕ) → Among (r, c) (pairs_from k mates) → Stands k mates r c
stands k [] r c h = elim h [ ]
stands k (x ∷ mates) r c h = by (stands (suc k) mates r c) (number_same x none)
  where
    here : (Among (r, c) (pairs_from (suc k) mates) → Stands (suc k) mates r c) → x ≢ none → Among (r, c) ((x, k) ∷ pairs_from (suc k) mates) → Stands k (x ∷ mates) r c
    here more ne (inl e) = let row : r ≡ x = ap (λ (p : Place). p.0) e in let col : c ≡ k = ap (λ (p : Place). p.1) e in record { place = 0; col = omega (arith, col); within = omega arith; row = sym row; some = λ f. ne (sym row ∙ f) }
    here more ne (inr g) = stands_later k x mates r c (more g)

    by : (Among (r, c) (pairs_from (suc k) mates) → Stands (suc k) mates r c) → (x ≡ none) ⊎ (x ≢ none) → Stands k (x ∷ mates) r c
    by more (inl e) = stands_later k x mates r c (more (subst (λ ps. Among (r, c) ps) (pairs_none k x mates e) h))
    by more (inr ne) = here more ne (subst (λ ps. Among (r, c) ps) (pairs_some k x mates ne) h)

-- a place with a mate is a pair
pub stored_from : (k : ℕ) (mates : List ℕ) (i : ℕ) → i < length mates → get_or mates i 0 ≢ none → Among (get_or mates i 0, k + i) (pairs_from k mates)
stored_from k [] i lt some = absurd (omega arith)
stored_from k (x ∷ mates) zero lt some = rw (pairs_some k x mates some) (inl (λ j. (x, (let e : k + 0 ≡ k = omega arith in e) j)))
stored_from k (x ∷ mates) (suc i) lt some = by (number_same x none) (subst (λ c. Among (get_or mates i 0, c) (pairs_from (suc k) mates)) (let e : suc k + i ≡ k + suc i = omega arith in e) (stored_from (suc k) mates i (omega arith) some))
  where
    by : (x ≡ none) ⊎ (x ≢ none) → Among (get_or mates i 0, k + suc i) (pairs_from (suc k) mates) → Among (get_or mates i 0, k + suc i) (pairs_from k (x ∷ mates))
    by (inl e) h = rw (pairs_none k x mates e) h
    by (inr ne) h = rw (pairs_some k x mates ne) (inr h)

pub stored : (mates : List ℕ) (r c : ℕ) → c < length mates → get_or mates c 0 ≡ r → r ≢ none → Among (r, c) (pairs_of mates)
stored mates r c lt e some = subst (λ (p : Place). Among p (pairs_of mates)) (λ j. (e j, (let z : 0 + c ≡ c = omega arith in z) j)) (stored_from 0 mates c lt (λ f. some (sym e ∙ f)))

-- a pair of the array is the mate at its column
pub read : (mates : List ℕ) (r c : ℕ) → Among (r, c) (pairs_of mates) → (c < length mates) × (get_or mates c 0 ≡ r) × (r ≢ none)
read mates r c h = let s = stands 0 mates r c h in let e : s.place ≡ c = omega (arith, s.col) in (omega (arith, s.within, e), subst (λ i. get_or mates i 0 ≡ r) e s.row, s.some)

-- a column without a mate is in no pair
pub unread : (mates : List ℕ) (c : ℕ) → get_or mates c 0 ≡ none → ¬ Among c (cols_of (pairs_of mates))
unread mates c e h = let (r, k) = col_pair c (pairs_of mates) h in let (lt, f, some) = read mates r c k in some (sym f ∙ e)

-- the mate of a column that is in no pair
pub missed : (mates : List ℕ) (c : ℕ) → c < length mates → ¬ Among c (cols_of (pairs_of mates)) → get_or mates c 0 ≡ none
missed mates c lt nh = ⊎_elim (λ e. e) (λ ne. absurd (nh (col_among (get_or mates c 0) c (pairs_of mates) (stored mates (get_or mates c 0) c lt refl ne)))) (number_same (get_or mates c 0) none)

-- the pairs rise by column
pub cols_above : (k : ℕ) (mates : List ℕ) (c : ℕ) → Among c (cols_of (pairs_from k mates)) → k ≤ c
cols_above k mates c h = let (r, g) = col_pair c (pairs_from k mates) h in let s = stands k mates r c g in omega (arith, s.col)

pub cols_rising : (k : ℕ) (mates : List ℕ) → IsRising (cols_of (pairs_from k mates))
cols_rising k [] = tt
cols_rising k (x ∷ mates) = by (cols_rising (suc k) mates) (number_same x none)
  where
    by : IsRising (cols_of (pairs_from (suc k) mates)) → (x ≡ none) ⊎ (x ≢ none) → IsRising (cols_of (pairs_from k (x ∷ mates)))
    by rest (inl e) = rw (pairs_none k x mates e) rest
    by rest (inr ne) = rw (pairs_some k x mates ne) (below_each_from k (cols_of (pairs_from (suc k) mates)) (λ y h. let le = cols_above (suc k) mates y h in omega (arith, le)), rest)

-- How many pairs there are.

pub few_pairs : (k : ℕ) (mates : List ℕ) → length (pairs_from k mates) ≤ length mates
few_pairs k [] = omega arith
few_pairs k (x ∷ mates) = by (few_pairs (suc k) mates) (number_same x none)
  where
    by : length (pairs_from (suc k) mates) ≤ length mates → (x ≡ none) ⊎ (x ≢ none) → length (pairs_from k (x ∷ mates)) ≤ suc (length mates)
    by rest (inl e) = rw (pairs_none k x mates e) (omega (arith, rest))
    by rest (inr ne) = rw (pairs_some k x mates ne) (omega (arith, rest))

-- a mate where there was none
pub one_more_from : (k : ℕ) (mates : List ℕ) (i r : ℕ) → i < length mates → get_or mates i 0 ≡ none → r ≢ none → length (pairs_from k (set mates i r)) ≡ suc (length (pairs_from k mates))
one_more_from k [] i r lt e some = absurd (omega arith)
one_more_from k (x ∷ mates) zero r lt e some = rw (pairs_some k r mates some, pairs_none k x mates e) refl
one_more_from k (x ∷ mates) (suc i) r lt e some = by (number_same x none) (one_more_from (suc k) mates i r (omega arith) e some)
  where
    by : (x ≡ none) ⊎ (x ≢ none) → length (pairs_from (suc k) (set mates i r)) ≡ suc (length (pairs_from (suc k) mates)) → length (pairs_from k (x ∷ set mates i r)) ≡ suc (length (pairs_from k (x ∷ mates)))
    by (inl f) h = rw (pairs_none k x (set mates i r) f, pairs_none k x mates f) h
    by (inr ne) h = rw (pairs_some k x (set mates i r) ne, pairs_some k x mates ne) (ap suc h)

-- no mate where there was one
pub one_less_from : (k : ℕ) (mates : List ℕ) (i : ℕ) → i < length mates → get_or mates i 0 ≢ none → suc (length (pairs_from k (set mates i none))) ≡ length (pairs_from k mates)
one_less_from k [] i lt some = absurd (omega arith)
one_less_from k (x ∷ mates) zero lt some = rw (pairs_some k x mates some, pairs_none k none mates refl) refl
one_less_from k (x ∷ mates) (suc i) lt some = by (number_same x none) (one_less_from (suc k) mates i (omega arith) some)
  where
    by : (x ≡ none) ⊎ (x ≢ none) → suc (length (pairs_from (suc k) (set mates i none))) ≡ length (pairs_from (suc k) mates) → suc (length (pairs_from k (x ∷ set mates i none))) ≡ length (pairs_from k (x ∷ mates))
    by (inl f) h = rw (pairs_none k x (set mates i none) f, pairs_none k x mates f) h
    by (inr ne) h = rw (pairs_some k x (set mates i none) ne, pairs_some k x mates ne) (ap suc h)
