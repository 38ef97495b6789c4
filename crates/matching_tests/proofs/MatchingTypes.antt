-- A matching that is known by its pairs, in whatever order.
use Rattle.std.proofs.Common.{◌≡◌, ◌⊎◌, ◌↔◌, List, [], ◌∷◌, inl, ⊎_elim, subst}
use Rattle.bip_defs.specs.Lists.{Among}
use Rattle.bip_defs.specs.Matching.{rows_of}
use Rattle.bip_defs.specs.Matrix.{Place}
use Rattle.bip_defs.specs.Paths.{Alternates, BeginsUnmatched, Exchanges, IsAugmenting}
use Rattle.bip_defs.proofs.Sets.{col_among, col_pair, row_among, row_pair}

pub record HasPairs (m ps : List Place) : Type 0 where
  pub over : (p : Place) → Among p m → Among p ps
  pub back : (p : Place) → Among p ps → Among p m

alternates_by : (m ps path : List Place) → HasPairs m ps → Alternates ps path → Alternates m path
alternates_by m ps [] k h = h
alternates_by m ps (p ∷ []) k h = λ on. let (c, g) = row_pair p.0 m on in h (row_among p.0 c ps (k.over (p.0, c) g))
alternates_by m ps (p ∷ q ∷ path) k h = (k.back (p.0, q.1) h.0, alternates_by m ps (q ∷ path) k h.1)

begins_by : (m ps path : List Place) → HasPairs m ps → BeginsUnmatched ps path → BeginsUnmatched m path
begins_by m ps [] k h = h
begins_by m ps (p ∷ path) k h = λ on. let (r, g) = col_pair p.1 m on in h (col_among r p.1 ps (k.over (r, p.1) g))

pub augments_by : (m ps path : List Place) → HasPairs m ps → IsAugmenting ps path → IsAugmenting m path
augments_by m ps path k aug = record { begins = begins_by m ps path k aug.begins; alternates = alternates_by m ps path k aug.alternates; rows_differ = aug.rows_differ }

-- the first pair of a matching that had none
pub first_pair : (m n : List Place) (p : Place) → m ≡ [] → ((q : Place) → Among q n ↔ ((q ≡ p) ⊎ Among q m)) → HasPairs n (p ∷ [])
first_pair m n p e added = record { over = λ q h. ⊎_elim (λ f. inl f) (λ g. absurd (subst (Among q) e g)) ((added q).0 h); back = λ q h. (added q).1 (⊎_elim (λ f. inl f) (λ g. absurd g) h) }

-- the pairs of a path, where every row of the matching is on it
pub path_pairs : (m n ps path : List Place) → HasPairs m ps → Exchanges path m n → ((p : Place) → Among p ps → Among p.0 (rows_of path)) → HasPairs n path
path_pairs m n ps path k x on = record { over = λ q h. ⊎_elim (λ g. g) (λ f. absurd (f.1 (on q (k.over q f.0)))) ((x q).0 h); back = λ q h. (x q).1 (inl h) }
