-- The least weight of pairs.
use Rattle.std.proofs.Common.{◌≡◌, ◌∙◌, ℕ, zero, suc, ◌+◌, ◌<◌, ◌≤◌, List, [], ◌∷◌, ◌++◌, get_or, length, take, refl, sym, ap, subst, inl, ⊎_elim, arith}
use Rattle.std.proofs.lemmas.List.{take_more}
use Rattle.bip_defs.specs.Bottleneck.{IsLeastWeight}
use Rattle.bip_defs.specs.Lists.{Among}
use Rattle.bip_defs.specs.Matching.{IsMatching}
use Rattle.bip_defs.specs.Matrix.{AreEntries, Matrix, Place}
use Rattle.bip_defs.proofs.Sets.{among_last, among_left, among_right, among_take}
use Rattle.bottleneck.specs.Heavier.{WeighAtLeast}

-- one pair has the weight, and none has less
pub record IsLeast (weight : ℕ → ℕ → ℕ) (m : List Place) (least : ℕ) : Type 0 where
  pub has : (r : ℕ) × (c : ℕ) × Among (r, c) m × (weight r c ≡ least)
  pub all : (r c : ℕ) → Among (r, c) m → least ≤ weight r c

pub least_weight : (weight : ℕ → ℕ → ℕ) (m : List Place) (least : ℕ) → IsLeast weight m least → IsLeastWeight weight m least
least_weight weight [] least l = let (r, c, h, e) = l.has in absurd h
least_weight weight (p ∷ m) least l = (l.has, l.all)

pub least_one : (weight : ℕ → ℕ → ℕ) (p : Place) (least : ℕ) → least ≡ weight p.0 p.1 → IsLeast weight (p ∷ []) least
least_one weight p least e = record {
  has = (p.0, p.1, inl refl, sym e);
  all = λ r c h. ⊎_elim (λ (k : (r, c) ≡ p). let same = ap (λ (q : Place). weight q.0 q.1) k in omega (arith, e, same)) (λ k. absurd k) h;
}

-- a pair more that is lighter, and one that is not
pub least_less : (weight : ℕ → ℕ → ℕ) (m : List Place) (p : Place) (least new : ℕ) → IsLeast weight m least → new ≡ weight p.0 p.1 → new < least → IsLeast weight (m ++ p ∷ []) new
least_less weight m p least new l e lt = record {
  has = (p.0, p.1, among_right p m (p ∷ []) (inl refl), sym e);
  all = λ r c h. ⊎_elim (λ (k : Among (r, c) m). let le = l.all r c k in omega (arith, le, lt)) (λ (k : (r, c) ≡ p). let same = ap (λ (q : Place). weight q.0 q.1) k in omega (arith, e, same)) (among_last (r, c) p m h);
}

pub least_kept : (weight : ℕ → ℕ → ℕ) (m : List Place) (p : Place) (least new : ℕ) → IsLeast weight m least → new ≡ weight p.0 p.1 → least ≤ new → IsLeast weight (m ++ p ∷ []) least
least_kept weight m p least new l e le = record {
  has = let (r, c, h, is) = l.has in (r, c, among_left (r, c) m (p ∷ []) h, is);
  all = λ r c h. ⊎_elim (λ (k : Among (r, c) m). l.all r c k) (λ (k : (r, c) ≡ p). let same = ap (λ (q : Place). weight q.0 q.1) k in omega (arith, e, same, le)) (among_last (r, c) p m h);
}

-- the pairs of a matching are entries, as they are listed
pub are_entries : (a : Matrix) (m n : List Place) → IsMatching a m → n ≡ m → AreEntries a n
are_entries a m n k listed r c h = k.entries r c (subst (λ (z : List Place). Among {X = Place} (r, c) z) listed h)

-- The loop over the pairs.

taken_pair : (ps : List Place) (k : ℕ) (p : Place) → k < length ps → p ≡ get_or ps k p → take (k + 1) ps ≡ take k ps ++ p ∷ []
taken_pair ps k p lt is = take_more ps k p lt ∙ ap (λ (q : Place). take k ps ++ q ∷ []) (sym is)

pub step_less : (weight : ℕ → ℕ → ℕ) (ps : List Place) (k : ℕ) (p : Place) (least new : ℕ) → IsLeast weight (take k ps) least → k < length ps → p ≡ get_or ps k p → new ≡ weight p.0 p.1 → new < least → IsLeast weight (take (k + 1) ps) new
step_less weight ps k p least new l lt is e less = subst (λ (z : List Place). IsLeast weight z new) (sym (taken_pair ps k p lt is)) (least_less weight (take k ps) p least new l e less)

pub step_kept : (weight : ℕ → ℕ → ℕ) (ps : List Place) (k : ℕ) (p : Place) (least new : ℕ) → IsLeast weight (take k ps) least → k < length ps → p ≡ get_or ps k p → new ≡ weight p.0 p.1 → least ≤ new → IsLeast weight (take (k + 1) ps) least
step_kept weight ps k p least new l lt is e le = subst (λ (z : List Place). IsLeast weight z least) (sym (taken_pair ps k p lt is)) (least_kept weight (take k ps) p least new l e le)

pub step_first : (weight : ℕ → ℕ → ℕ) (ps : List Place) (p : Place) (least : ℕ) → 0 < length ps → p ≡ get_or ps 0 p → least ≡ weight p.0 p.1 → IsLeast weight (take 1 ps) least
step_first weight [] p least lt is e = absurd (omega (arith, lt))
step_first weight (q ∷ ps) p least lt is e = subst (λ (z : Place). IsLeast weight (z ∷ []) least) is (least_one weight p least e)

pub positive : (n : ℕ) → (n ≡ 0 → ⊥) → 0 < n
positive zero ne = absurd (ne refl)
positive (suc n) ne = omega arith

-- where all pairs weigh at least so much, the least weight of the first ones that weighs no more is that of all
pub least_reached : (weight : ℕ → ℕ → ℕ) (ps : List Place) (k least bound : ℕ) → IsLeast weight (take k ps) least → WeighAtLeast weight ps bound → least ≤ bound → IsLeastWeight weight ps least
least_reached weight ps k least bound l all le = least_weight weight ps least (record {
  has = let (r, c, h, e) = l.has in (r, c, among_take k (r, c) ps h, e);
  all = λ r c h. let b = all r c h in omega (arith, b, le);
})

-- pairs that are all heavier have a greater least weight
pub least_greater : (weight : ℕ → ℕ → ℕ) (m : List Place) (least new : ℕ) → IsLeastWeight weight m new → 0 < length m → ((r c : ℕ) → Among (r, c) m → least < weight r c) → least < new
least_greater weight [] least new l some all = absurd (omega (arith, some))
least_greater weight (p ∷ m) least new l some all =
    let (r, c, h, e) = l.0 in
    let lt = all r c h in
    omega (arith, e, lt)
