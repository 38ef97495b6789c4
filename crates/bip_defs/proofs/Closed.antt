-- Marked rows through which no augmenting path leads.
use Rattle.std.proofs.Common.{◌≡◌, ◌⊎◌, ℕ, ◌<◌, Bool, true, false, not, List, filter, slice_index_or, refl, ap, subst, inl, inr, ⊎_elim, arith}
use Rattle.std.proofs.lemmas.List.Filters.{length-filter_both}
use Rattle.std.proofs.lemmas.List.{length-map}
use Rattle.bip_defs.specs.Lists.{Among, IsMarked}
use Rattle.bip_defs.specs.Marks.{AreClosed, IsExplored}
use Rattle.bip_defs.specs.Matching.{IsMatching, IsMaximum, cols_of, rows_of}
use Rattle.bip_defs.specs.Matrix.{IsEntry, Matrix, Place, cols}
use Rattle.bip_defs.proofs.Duality.{covered}
use Rattle.bip_defs.proofs.Sets.{col_among, col_pair, entry_col, filter_complete, number_among, one_col, row_among}

-- König's cover: the marked rows, and the columns whose mates are not marked
pub closed_maximum : (a : Matrix) (m : List Place) (marks : List Bool) → IsMatching a m → AreClosed a m marks → ((c : ℕ) → c < cols a → ¬ Among c (cols_of m) → IsExplored a marks c) → IsMaximum a m
closed_maximum a m marks k closed explored = record { matching = k; longest = λ other o. omega (arith, covered (rows_of inside) (cols_of outside) other o.rows_differ o.cols_differ (covers other o), length-map inside (λ (p : Place). p.0), length-map outside (λ (p : Place). p.1), length-filter_both on (λ p. not (on p)) (λ p. refl) m) }
  where
    on : Place → Bool
    on p = slice_index_or marks p.0 false

    inside : List Place
    inside = filter (λ (p : Place). slice_index_or marks p.0 false) m

    outside : List Place
    outside = filter (λ (p : Place). not (slice_index_or marks p.0 false)) m

    marked_inside : (r : ℕ) → IsMarked marks r → Among r (rows_of inside)
    marked_inside r h = let (d, p, s) = closed r h in row_among r d inside (filter_complete (λ (q : Place). slice_index_or marks q.0 false) (r, d) m p h)

    covers : (other : List Place) → IsMatching a other → (r c : ℕ) → Among (r, c) other → Among r (rows_of inside) ⊎ Among c (cols_of outside)
    covers other o r c h = ⊎_elim matched (λ free. inl (marked_inside r (explored c (entry_col a r c e) free r e))) (number_among c (cols_of m))
      where
        e : IsEntry a r c
        e = o.entries r c h

        matched : Among c (cols_of m) → Among r (rows_of inside) ⊎ Among c (cols_of outside)
        matched g = by (slice_index_or marks mate.0 false) refl
          where
            mate : (s : ℕ) × Among (s, c) m
            mate = col_pair c m g

            by : (b : Bool) → slice_index_or marks mate.0 false ≡ b → Among r (rows_of inside) ⊎ Among c (cols_of outside)
            by true is = let (d, p, s) = closed mate.0 is in inl (marked_inside r (subst (λ x. IsExplored a marks x) (one_col m k.rows_differ mate.0 d c p mate.1) s r e))
            by false is = inr (col_among mate.0 c outside (filter_complete (λ (q : Place). not (slice_index_or marks q.0 false)) (mate.0, c) m mate.1 (ap not is)))
