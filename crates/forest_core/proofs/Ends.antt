-- A settled forest in which nothing is left to be claimed: its columns are those that walks reach
-- from unmatched ones.
use Rattle.std.proofs.Common.{◌≡◌, ℕ, ◌<◌, ◌≤◌, List, [], ◌∷◌, ◌++◌, length, refl, subst, inl, inr, ⊎_elim, arith}
use Rattle.std.proofs.Math.Decide.{dec_lt}
use Rattle.bip_defs.specs.Lists.{Among, Lists}
use Rattle.bip_defs.specs.Matching.{IsMatching, IsMaximum, rows_of}
use Rattle.bip_defs.specs.Matrix.{IsEntry, Matrix, Place, cols}
use Rattle.bip_defs.specs.Walks.{IsLed, IsReached, stay}
use Rattle.bip_defs.specs.Witness.{IsWitness}
use Rattle.bip_defs.proofs.Reaching.{reached_witness, same_size_maximum, walk_on}
use Rattle.bip_defs.proofs.Sets.{among_last, entry_col, listed, number_among, row_pair}
use Rattle.sp_ids.specs.declared.events.Event.TheVariants.{Done}
use Rattle.forest_core.specs.Current.{IsCurrent}
use Rattle.forest_core.specs.Events.{IsLegal}
use Rattle.forest_core.specs.Sound.{AreClaims, IsSound}
use Rattle.bip_defs.specs.Forest.{InForest, IsSettled, State, roots_of}
use Rattle.forest_core.proofs.Currents.{current_grown, none_flipped}

-- walks lead to the base columns of claimed rows
led_from : (a : Matrix) (base : List Place) (before : List ℕ) (claims : List Place) → AreClaims a base before claims → ((r c : ℕ) → Among r before → Among (r, c) base → IsLed a base c) → (r c : ℕ) → Among r (rows_of claims) → Among (r, c) base → IsLed a base c
led_from a base before [] k led r c h m = elim h [ ]
led_from a base before (p ∷ claims) k led r c h m = ⊎_elim (λ (e : r ≡ p.0). first c (subst (λ z. Among {X = Place} (z, c) base) e m)) (λ g. led_from a base (before ++ p.0 ∷ []) claims k.3 led_more r c g m) h
  where
    claimer : IsLed a base p.1
    claimer = ⊎_elim (λ free. (p.1, entry_col a p.0 p.1 k.1, free, stay)) (λ (q, pair, was). led q p.1 was pair) k.2

    first : (d : ℕ) → Among (p.0, d) base → IsLed a base d
    first d pair = (claimer.0, claimer.1, claimer.2, walk_on a base p.0 claimer.3 k.1 pair)

    led_more : (q d : ℕ) → Among q (before ++ p.0 ∷ []) → Among (q, d) base → IsLed a base d
    led_more q d g pair = ⊎_elim (λ i. led q d i pair) (λ (e : q ≡ p.0). first d (subst (λ z. Among {X = Place} (z, d) base) e pair)) (among_last q p.0 before g)

reached : (s : State) (w : List ℕ) → IsSound s → IsSettled s → IsLegal s Done → Lists (InForest s) w → IsReached s.matrix s.base w
reached s w k settled (no_leaves, closed) lists = record {
  rising = lists.rising;
  in_range = λ c h. (lists.sound c h).0;
  unmatched = λ c lt free. lists.complete c (lt, inl free);
  closed = λ r c h e. on r c (lists.sound c h) e;
  led = λ c h. led c (lists.sound c h);
}
  where
    on : (r c : ℕ) → InForest s c → IsEntry s.matrix r c → (d : ℕ) × Among (r, d) s.base × Among d w
    on r c i e =
        let claimed = closed c i r e in
        ⊎_elim (λ h. let (d, m) = row_pair r s.base h in (d, m, lists.complete d (entry_col s.matrix r d (k.base.entries r d m), inr (r, m, claimed)))) (λ free. let (x, tree, leaf) = settled r claimed free in absurd (subst (λ ls. Among x (roots_of ls)) no_leaves leaf)) (number_among r (rows_of s.base))

    led : (c : ℕ) → InForest s c → IsLed s.matrix s.base c
    led c (lt, inl free) = (c, lt, free, stay)
    led c (lt, inr (r, m, h)) = led_from s.matrix s.base [] s.claims k.claims (λ q d g. absurd g) r c h m

pub ends_at_the_maximum : (s : State) (m : List Place) (w : List ℕ) → IsSound s → IsSettled s → IsLegal s Done → IsCurrent s m → Lists (InForest s) w → IsWitness s.matrix m w
ends_at_the_maximum s m w k settled legal cur lists =
    let base = reached_witness s.matrix s.base w k.base (reached s w k settled legal lists) in
    let g = current_grown s m k cur in
    let size : length m ≡ length s.base = (let e = g.size in let none = no_flips s.flipped k.flipped in omega (arith, e, none)) in
    record {
      maximum = same_size_maximum s.matrix s.base m base.maximum g.matching size;
      horizontal = base.horizontal;
      hall_set = record { rising = base.hall_set.rising; in_range = base.hall_set.in_range; deficiency = (let d = base.hall_set.deficiency in omega (arith, d, size)) };
    }
  where
    no_flips : (xs : List ℕ) → ((x : ℕ) → Among x xs → Among x (roots_of s.leaves)) → length xs ≡ 0
    no_flips [] h = refl
    no_flips (x ∷ xs) h = absurd (subst (λ ls. Among x (roots_of ls)) legal.0 (h x (inl refl)))

-- where no root is flipped, that is the base
pub base_is_maximum : (s : State) → IsSound s → IsSettled s → IsLegal s Done → s.flipped ≡ [] → IsMaximum s.matrix s.base
base_is_maximum s k settled legal unflipped = record { matching = k.base; longest = λ o l. by o (short o l) (dec_lt (length s.base) (length o)) }
  where
    short : (o : List Place) → IsMatching s.matrix o → ¬ ¬ (length o ≤ length s.base)
    short o l longer = listed (InForest s) (cols s.matrix) (λ c i. i.0) (λ (w, lists). longer ((ends_at_the_maximum s s.base w k settled legal (none_flipped s k s.flipped unflipped) lists).maximum.longest o l))

    by : (o : List Place) → ¬ ¬ (length o ≤ length s.base) → Dec (length s.base < length o) → length o ≤ length s.base
    by o not_longer (yes lt) = absurd (not_longer (λ le. omega (arith, lt, le)))
    by o not_longer (no nlt) = omega arith
