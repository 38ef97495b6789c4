-- Restricted matrices, and what columns with few neighbours above a weight show.
use Rattle.std.proofs.Common.{◌≡◌, ◌⊎◌, ◌↔◌, ◌∙◌, ℕ, ◌<◌, ◌≤◌, Bool, true, List, [], ◌∷◌, filter, length, nat_lt, sym, subst, inl, inr, ⊎_elim, arith, refl, ap}
use Rattle.std.proofs.Math.Decide.{dec_lt}
use Rattle.std.proofs.lemmas.Bool.Decides.{nat_tests}
use Rattle.std.proofs.lemmas.List.{get_or-map, get_or_past, length-map}
use Rattle.bip_defs.specs.Bottleneck.{IsFull, above, restricted}
use Rattle.bip_defs.specs.Lists.{Among, IsRising, Lists}
use Rattle.bip_defs.specs.Matching.{IsMatching, cols_of}
use Rattle.bip_defs.specs.Matrix.{IsEntry, Matrix, Place, cols, column, neighbours, upto}
use Rattle.bip_defs.proofs.Duality.{hall_bound}
use Rattle.bip_defs.proofs.Sets.{entry_col, few_distinct, filter_complete, filter_sound, rising_distinct, rising_filter, test_is, upto_length, upto_lists, upto_rising}
use Rattle.bip_defs.proofs.Transposed.{upto_at}

-- Restricted matrices.

abbrev pub passing : Matrix → (ℕ → ℕ → Bool) → ℕ → List ℕ
passing a passes c = filter (λ r. passes r c) (column a c)

pub restricted_cols : (a : Matrix) (passes : ℕ → ℕ → Bool) → cols (restricted a passes) ≡ cols a
restricted_cols a passes = length-map (upto (cols a)) (passing a passes) ∙ upto_length 0 (cols a)

pub above_cols : (a : Matrix) (weight : ℕ → ℕ → ℕ) (least : ℕ) → cols (above a weight least) ≡ cols a
above_cols a weight least = restricted_cols a (λ r c. nat_lt least (weight r c))

pub restricted_column : (a : Matrix) (passes : ℕ → ℕ → Bool) (c : ℕ) → c < cols a → column (restricted a passes) c ≡ passing a passes c
restricted_column a passes c lt = get_or-map (passing a passes) (upto (cols a)) c 0 [] (rw upto_length lt) ∙ ap (passing a passes) (upto_at 0 (cols a) c 0 lt ∙ omega arith)

-- past the columns there is none
restricted_past : (a : Matrix) (passes : ℕ → ℕ → Bool) (c : ℕ) → cols a ≤ c → column (restricted a passes) c ≡ []
restricted_past a passes c le = get_or_past (restricted a passes).columns c [] (rw (restricted_cols a passes) le)

pub restricted_over : (a : Matrix) (passes : ℕ → ℕ → Bool) (r c : ℕ) → IsEntry (restricted a passes) r c → IsEntry a r c × (passes r c ≡ true)
restricted_over a passes r c e =
    let lt : c < cols a = rw (restricted_cols a passes) at (entry_col (restricted a passes) r c e) in
    let both = filter_sound (λ s. passes s c) r (column a c) (subst (Among r) (restricted_column a passes c lt) e.1) in
    ((e.0, both.0), both.1)

pub restricted_back : (a : Matrix) (passes : ℕ → ℕ → Bool) (r c : ℕ) → IsEntry a r c → passes r c ≡ true → IsEntry (restricted a passes) r c
restricted_back a passes r c e p = (e.0, subst (Among r) (sym (restricted_column a passes c (entry_col a r c e))) (filter_complete (λ s. passes s c) r (column a c) e.1 p))

pub restricted_entry : (a : Matrix) (passes : ℕ → ℕ → Bool) (r c : ℕ) → IsEntry (restricted a passes) r c ↔ (IsEntry a r c × (passes r c ≡ true))
restricted_entry a passes r c = (restricted_over a passes r c, λ both. restricted_back a passes r c both.0 both.1)

-- a restricted column's list is the rising one of its entries, if the column's is
pub restricted_lists : (a : Matrix) (passes : ℕ → ℕ → Bool) (c : ℕ) → Lists (λ r. IsEntry a r c) (column a c) → Lists (λ r. IsEntry (restricted a passes) r c) (column (restricted a passes) c)
restricted_lists a passes c l = record {
  rising = by (dec_lt c (cols a));
  sound = λ r h. (bounded r h (dec_lt c (cols a)), h);
  complete = λ r e. e.1;
}
  where
    by : Dec (c < cols a) → IsRising (column (restricted a passes) c)
    by (yes lt) = subst IsRising (sym (restricted_column a passes c lt)) (rising_filter (λ r. passes r c) (column a c) l.rising)
    by (no nlt) = subst IsRising (sym (restricted_past a passes c (omega arith))) tt

    bounded : (r : ℕ) → Among r (column (restricted a passes) c) → Dec (c < cols a) → r < a.rows
    bounded r h (yes lt) = (l.sound r (filter_sound (λ s. passes s c) r (column a c) (subst (Among r) (restricted_column a passes c lt) h)).0).0
    bounded r h (no nlt) = absurd (subst (Among r) (restricted_past a passes c (omega arith)) h)

-- Above a weight.

test_says : (x y : ℕ) → nat_lt x y ≡ true → x < y
test_says x y h = grind (arith, nat_tests)

pub above_over : (a : Matrix) (weight : ℕ → ℕ → ℕ) (least r c : ℕ) → IsEntry (above a weight least) r c → IsEntry a r c × (least < weight r c)
above_over a weight least r c e = let both = restricted_over a (λ s d. nat_lt least (weight s d)) r c e in (both.0, test_says least (weight r c) both.1)

pub above_back : (a : Matrix) (weight : ℕ → ℕ → ℕ) (least r c : ℕ) → IsEntry a r c → least < weight r c → IsEntry (above a weight least) r c
above_back a weight least r c e lt = restricted_back a (λ s d. nat_lt least (weight s d)) r c e (test_is least (weight r c) lt)

pub above_entry : (a : Matrix) (weight : ℕ → ℕ → ℕ) (least r c : ℕ) → IsEntry (above a weight least) r c ↔ (IsEntry a r c × (least < weight r c))
above_entry a weight least r c = (above_over a weight least r c, λ both. above_back a weight least r c both.0 both.1)

-- Full matchings.

pub full_length : (a : Matrix) (m : List Place) → IsFull a m → cols a ≤ length m
full_length a m full =
    let few = few_distinct (upto (cols a)) (cols_of m) (rising_distinct (upto (cols a)) (upto_rising 0 (cols a))) (λ c h. full.all_cols c ((upto_lists (cols a)).sound c h)) in
    let long = upto_length 0 (cols a) in
    let same = length-map m (λ (p : Place). p.1) in
    omega (arith, few, long, same)

-- some pair's weight is at most `least`, or all are greater
pub light_or_all : (weight : ℕ → ℕ → ℕ) (least : ℕ) (m : List Place) → ((r : ℕ) × (c : ℕ) × Among (r, c) m × (weight r c ≤ least)) ⊎ ((r c : ℕ) → Among (r, c) m → least < weight r c)
light_or_all weight least [] = inr (λ r c h. elim h [ ])
light_or_all weight least (p ∷ m) = by (dec_lt least (weight p.0 p.1)) (light_or_all weight least m)
  where
    by : Dec (least < weight p.0 p.1) → ((r : ℕ) × (c : ℕ) × Among (r, c) m × (weight r c ≤ least)) ⊎ ((r c : ℕ) → Among (r, c) m → least < weight r c) → ((r : ℕ) × (c : ℕ) × Among (r, c) (p ∷ m) × (weight r c ≤ least)) ⊎ ((r c : ℕ) → Among (r, c) (p ∷ m) → least < weight r c)
    by (no nlt) rest = inl (p.0, p.1, inl refl, omega arith)
    by (yes lt) (inl light) = inl (light.0, light.1, inr light.2, light.3)
    by (yes lt) (inr all) = inr (λ r c h. ⊎_elim (λ (e : (r, c) ≡ p). subst (λ (q : Place). least < weight q.0 q.1) (sym e) lt) (λ (k : Among (r, c) m). all r c k) h)

-- pairs that are all heavier are a matching above the weight
pub heavy_matching : (a : Matrix) (weight : ℕ → ℕ → ℕ) (least : ℕ) (m : List Place) → IsMatching a m → ((r c : ℕ) → Among (r, c) m → least < weight r c) → IsMatching (above a weight least) m
heavy_matching a weight least m k all = record {
  entries = λ r c h. above_back a weight least r c (k.entries r c h) (all r c h);
  rows_differ = k.rows_differ;
  cols_differ = k.cols_differ;
}

pub light_pair : (a : Matrix) (weight : ℕ → ℕ → ℕ) (least : ℕ) (w : List ℕ) (m : List Place) → IsRising w → ((c : ℕ) → Among c w → c < cols a) → length (neighbours (above a weight least) w) < length w → IsFull a m
    → (r : ℕ) × (c : ℕ) × Among (r, c) m × (weight r c ≤ least)
light_pair a weight least w m up inside few full = by (light_or_all weight least m)
  where
    by : ((r : ℕ) × (c : ℕ) × Among (r, c) m × (weight r c ≤ least)) ⊎ ((r c : ℕ) → Among (r, c) m → least < weight r c) → (r : ℕ) × (c : ℕ) × Among (r, c) m × (weight r c ≤ least)
    by (inl light) = light
    by (inr all) =
        let width = restricted_cols a (λ r c. nat_lt least (weight r c)) in
        let bound = hall_bound (above a weight least) m w (heavy_matching a weight least m full.matching all) up (λ c h. rw width (inside c h)) in
        let long = full_length a m full in
        absurd (omega (arith, bound, few, long, width))
