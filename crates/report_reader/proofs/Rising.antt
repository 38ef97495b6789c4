-- The test for rising lists tells which lists rise.
use Rattle.std.proofs.Common.{◌≡◌, ◌↔◌, ◌∙◌, ◌<◌, IsTrue, ℕ, suc, Bool, true, false, cond, List, [], ◌∷◌, nat_lt, refl, sym, arith, le-ltb, ltb-false, true≢false}
use Rattle.bip_defs.specs.Lists.{IsBelowEach, IsRising}
use Rattle.bip_defs.proofs.Sets.{below_each_from, below_each_sound}
use Rattle.report_reader.specs.ReportGrammar.{rises, rises_from}

kept : (b : Bool) (r : Bool) → cond b false r ≡ true → (b ≡ false) × (r ≡ true)
kept true r e = absurd (true≢false (sym e))
kept false r e = (refl, e)

rises_above : (k : ℕ) (xs : List ℕ) → rises_from (suc k) xs ≡ true → IsBelowEach k xs × IsRising xs
unfolding rises_from
rises_above k [] e = (tt, tt)
rises_above k (x ∷ xs) e = by (rises_above x xs)
  where
    by : (rises_from (suc x) xs ≡ true → IsBelowEach x xs × IsRising xs) → IsBelowEach k (x ∷ xs) × IsRising (x ∷ xs)
    by rest =
        let g = kept (nat_lt x (suc k)) (rises_from (suc x) xs) e in
        let above : k < x = omega (arith, ltb-false x (suc k) g.0) in
        let r = rest g.1 in
        ((above, below_each_from k xs (λ y on. omega (arith, above, below_each_sound x y xs r.0 on))), r)

pub rises_sound : (xs : List ℕ) → rises xs ≡ true → IsRising xs
unfolding rises_from
rises_sound [] e = tt
rises_sound (x ∷ xs) e = rises_above x xs (kept (nat_lt x 0) (rises_from (suc x) xs) e).1

above_rises : (k : ℕ) (xs : List ℕ) → IsBelowEach k xs → IsRising xs → rises_from (suc k) xs ≡ true
unfolding rises_from
above_rises k [] below rising = refl
above_rises k (x ∷ xs) below rising = rw (le-ltb x (suc k) (omega (arith, below.0))) (above_rises x xs rising.0 rising.1)

pub rises_complete : (xs : List ℕ) → IsRising xs → rises xs ≡ true
unfolding rises_from
rises_complete [] rising = refl
rises_complete (x ∷ xs) rising = rw (le-ltb x 0 (omega arith)) (above_rises x xs rising.0 rising.1)

-- what the test tells
pub rises_tells : (xs : List ℕ) (b : Bool) → b ≡ rises xs → IsTrue b ↔ IsRising xs
rises_tells xs b e = (λ t. rises_sound xs (sym e ∙ t), λ r. e ∙ rises_complete xs r)
