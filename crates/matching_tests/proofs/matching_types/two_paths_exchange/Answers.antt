use Rattle.std.proofs.Common.{◌≡◌, ◌⊎◌, ℕ, [], ◌∷◌, ap, arith, inl, inr, refl, ⊎_elim}
use Rattle.bip_defs.specs.Lists.{Among}
use Rattle.bip_defs.specs.Matching.{rows_of}
use Rattle.bip_defs.specs.Matrix.{Place}
use Rattle.bip_defs.specs.Paths.{IsAugmenting}
use Rattle.bip_graph.specs.Matching.{Pairing}
use Rattle.matching_tests.proofs.MatchingTypes.{augments_by, first_pair, path_pairs}
use Rattle.matching_tests.proofs.matching_types.two_paths_exchange.Goals as goal

differ : (x y : ℕ) → (x ≡ y → ⊥) → ¬ ((x ≡ y) ⊎ ⊥)
differ x y ne h = ⊎_elim ne (λ k. k) h

first_path : IsAugmenting ((0, 2) ∷ []) ((0, 1) ∷ (1, 2) ∷ [])
first_path = record { begins = differ 1 2 (λ e. omega (arith, e)); alternates = (inl refl, differ 1 0 (λ e. omega (arith, e))); rows_differ = (differ 0 1 (λ e. omega (arith, e)), (λ h. h, tt)) }

second_path : IsAugmenting ((0, 1) ∷ (1, 2) ∷ []) ((0, 0) ∷ (2, 1) ∷ [])
second_path = record { begins = λ h. ⊎_elim (λ (e : ◌≡◌ {A = ℕ} 0 1). omega (arith, e)) (differ 0 2 (λ e. omega (arith, e))) h; alternates = (inl refl, λ h. ⊎_elim (λ (e : ◌≡◌ {A = ℕ} 2 0). omega (arith, e)) (differ 2 1 (λ e. omega (arith, e))) h); rows_differ = (differ 0 2 (λ e. omega (arith, e)), (λ h. h, tt)) }

on_path : (p : Place) → Among p ((0, 2) ∷ []) → Among p.0 (rows_of ((0, 1) ∷ (1, 2) ∷ []))
on_path p (inl e) = inl (ap (λ (q : Place). q.0) e)
on_path p (inr h) = elim h [ ]

pub flip-requires-clause-path : goal.flip-requires-clause-path
flip-requires-clause-path c = augments_by _ _ _ (first_pair _ c.pair.new.self.pairs (0, 2) (ap (λ (v : Pairing). v.pairs) c.in_ok-matching.ensures) c.pair.ensures.added) first_path

pub flip-requires-2-clause-path : goal.flip-requires-2-clause-path
flip-requires-2-clause-path c =
    let before = first_pair _ c.pair.new.self.pairs (0, 2) (ap (λ (v : Pairing). v.pairs) c.in_ok-matching.ensures) c.pair.ensures.added in
    augments_by _ _ _ (path_pairs _ c.flip.new.self.pairs _ ((0, 1) ∷ (1, 2) ∷ []) before c.flip.ensures.pairs on_path) second_path
