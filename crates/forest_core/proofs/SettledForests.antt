-- Forests that are settled, and those at rest.
use Rattle.std.proofs.Common.{◌≡◌, ◌↔◌, ℕ, List, [], refl, subst, ⊎_elim}
use Rattle.bip_defs.specs.Lists.{Among}
use Rattle.bip_defs.specs.Matching.{rows_of}
use Rattle.bip_defs.specs.Matrix.{Matrix, Place}
use Rattle.bip_defs.proofs.Sets.{number_among, row_among, row_pair}
use Rattle.sp_ids.specs.declared.events.Event.TheVariants.{Graft, Rebuild, Win}
use Rattle.forest_core.specs.Events.{IsLegal, Becomes}
use Rattle.forest_core.specs.Sound.{IsSound}
use Rattle.bip_defs.specs.Forest.{IsRested, IsSettled, State, new_forest, roots_of}
use Rattle.forest_core.proofs.Grafts.{keeps_mate, kept_sound}
use Rattle.forest_core.proofs.Roots.{has_root, root_free}

no_leaf : (s : State) → s.leaves ≡ [] → (x : ℕ) → ¬ Among x (roots_of s.leaves)
no_leaf s e x h = subst (λ ls. Among x (roots_of ls)) e h

-- without leaves a forest is settled exactly where no root can win
pub settled_without_wins : (s : State) → IsSound s → s.leaves ≡ [] → IsSettled s ↔ ((x r : ℕ) → ¬ IsLegal s (Win x r))
settled_without_wins s k none = (over, back)
  where
    over : IsSettled s → (x r : ℕ) → ¬ IsLegal s (Win x r)
    over settled x r (free, new, unmatched, (d, h, w)) = let (y, tree, leaf) = settled r (row_among r d s.claims h) unmatched in no_leaf s none y leaf

    back : ((x r : ℕ) → ¬ IsLegal s (Win x r)) → IsSettled s
    back wins r h unmatched = let (x, (d, g, w)) = has_root s k r h in absurd (wins x r (root_free s.base s.claims w, no_leaf s none x, unmatched, (d, g, w)))

pub new_forest_rested : (a : Matrix) (m : List Place) → IsRested (new_forest a m)
new_forest_rested a m = record { settled = λ r h. absurd h; no_leaves = refl; none_flipped = refl }

-- a row that stays claimed stays matched
pub grafted_rested : (s t : State) → IsSound s → IsSettled s → Becomes s Graft t → IsRested t
grafted_rested s t k settled (n, kept) = record { settled = λ r h free. absurd (matched r h free); no_leaves = n.leaves; none_flipped = n.flipped }
  where
    matched : (r : ℕ) → Among r (rows_of t.claims) → ¬ ¬ Among r (rows_of t.base)
    matched r h free =
        let (c, g) = row_pair r t.claims h in
        let (had, not_won) = kept_sound s kept (r, c) g in
        ⊎_elim (λ i. let (d, m) = row_pair r s.base i in free (row_among r d t.base (keeps_mate s k t.base n.base r d not_won m))) (λ unmatched. not_won (settled r (row_among r c s.claims had) unmatched)) (number_among r (rows_of s.base))

pub rebuilt_rested : (s t : State) → Becomes s Rebuild t → IsRested t
rebuilt_rested s t (n, gone) = record { settled = λ r h. absurd (subst (λ ps. Among r (rows_of ps)) gone h); no_leaves = n.leaves; none_flipped = n.flipped }
