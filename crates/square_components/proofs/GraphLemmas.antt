-- Rows that stand for their mates.
use Rattle.std.proofs.Common.{◌≡◌, ◌⊎◌, ◌∙◌, if◌then◌else◌, ℕ, ◌<◌, ◌≤◌, List, [], ◌∷◌, sym, ap, subst, inl, inr, ⊎_elim, arith}
use Rattle.std.proofs.Math.Decide.{dec_lt}
use Rattle.std.proofs.lemmas.Bool.Decides.{eqb_tells}
use Rattle.bip_defs.specs.Lists.{Among, AreDistinct}
use Rattle.bip_defs.specs.Matching.{cols_of, rows_of}
use Rattle.bip_defs.specs.Matrix.{Place}
use Rattle.bip_defs.specs.Parts.{IsSquareCol}
use Rattle.bip_defs.specs.Walks.{stay, step}
use Rattle.bip_defs.proofs.Reaching.{walk_join}
use Rattle.bip_defs.proofs.Sets.{col_among, number_among, row_among}
use Rattle.square_components.specs.Found.{col_in, row_in}
use Rattle.square_components.specs.Stacks.{Graph, IsGraph, IsInside, Leads, next}

pub less : (x y : ℕ) → (x < y) ⊎ (y ≤ x)
less x y = by (dec_lt x y)
  where
    by : Dec (x < y) → (x < y) ⊎ (y ≤ x)
    by (yes lt) = inl lt
    by (no nlt) = inr (omega arith)

-- the mate of a row is that of its pair
pub col_in_is : (m : List Place) (r c : ℕ) → AreDistinct (rows_of m) → Among (r, c) m → col_in m r ≡ c
col_in_is [] r c d h = absurd h
col_in_is (p ∷ m) r c d h = ⊎_elim
    (λ k. ap (λ b. if b then p.1 else col_in m r) k.0 ∙ ⊎_elim
    (λ (e : (r, c) ≡ p). sym (ap (λ (q : Place). q.1) e))
    (λ g. absurd (d.0 (subst (λ x. Among x (rows_of m)) (sym k.1) (row_among r c m g))))
    h)
    (λ k. ap (λ b. if b then p.1 else col_in m r) k.0 ∙ ⊎_elim
    (λ (e : (r, c) ≡ p). absurd (k.1 (sym (ap (λ (q : Place). q.0) e))))
    (λ g. col_in_is m r c d.1 g)
    h)
    (eqb_tells p.0 r)

-- and that of a column
pub row_in_is : (m : List Place) (r c : ℕ) → AreDistinct (cols_of m) → Among (r, c) m → row_in m c ≡ r
row_in_is [] r c d h = absurd h
row_in_is (p ∷ m) r c d h = ⊎_elim
    (λ k. ap (λ b. if b then p.0 else row_in m c) k.0 ∙ ⊎_elim
    (λ (e : (r, c) ≡ p). sym (ap (λ (q : Place). q.0) e))
    (λ g. absurd (d.0 (subst (λ x. Among x (cols_of m)) (sym k.1) (col_among r c m g))))
    h)
    (λ k. ap (λ b. if b then p.0 else row_in m c) k.0 ∙ ⊎_elim
    (λ (e : (r, c) ≡ p). absurd (k.1 (sym (ap (λ (q : Place). q.1) e))))
    (λ g. row_in_is m r c d.1 g)
    h)
    (eqb_tells p.1 c)

pub inside_or : (g : Graph) (r : ℕ) → IsGraph g → IsInside g r ⊎ (¬ IsInside g r)
inside_or g r k = ⊎_elim (λ h. inl (k.perfect.only_rows r h)) (λ n. inr (λ h. n (k.perfect.covers_row r h))) (number_among r (rows_of g.square))

-- the mate of a row of the square part is one of its columns
pub mate_square : (g : Graph) (r : ℕ) → IsGraph g → IsInside g r → IsSquareCol g.matrix (col_in g.pairs r)
mate_square g r k inside = k.perfect.only_cols (col_in g.pairs r) (col_among r (col_in g.pairs r) g.square (k.mates r inside))

-- a row leads to the rows of the square part in the list of its mate
pub leads_step : (g : Graph) (r d : ℕ) → IsGraph g → IsInside g r → IsInside g d → Among d (next g r) → Leads g r d
leads_step g r d k inside there h = step d ((k.listed.entries d (col_in g.pairs r) (mate_square g r k inside).0).1 h) (k.mates d there) stay

pub leads_join : (g : Graph) (r d e : ℕ) → Leads g r d → Leads g d e → Leads g r e
leads_join g r d e over on = walk_join g.matrix g.square over on

-- rows in lists are in range
pub next_below : (g : Graph) (r d : ℕ) → IsGraph g → IsInside g r → Among d (next g r) → d < g.matrix.rows
next_below g r d k inside h = ((k.listed.entries d (col_in g.pairs r) (mate_square g r k inside).0).1 h).0
