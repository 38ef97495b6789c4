-- Arrays without a mate.
use Rattle.std.proofs.Common.{◌≡◌, ◌∙◌, ◌^◌, ℕ, zero, suc, ◌<◌, List, [], length, replicate, refl, sym, ap, subst, arith}
use Rattle.std.proofs.lemmas.List.{get_or-replicate, length-replicate}
use Rattle.bip_graph.specs.Matching.{AreMates, LeadsBack, none, pairs_from, pairs_of}
use Rattle.bip_graph.proofs.Arrays.{pairs_none}
use Rattle.bip_graph.proofs.MatchingViews.{shown}

no_pairs : (k n : ℕ) → pairs_from k (replicate n none) ≡ []
no_pairs k zero = refl
no_pairs k (suc n) = pairs_none k none (replicate n none) refl ∙ no_pairs (suc k) n

leads_nowhere : (n : ℕ) (ys : List ℕ) → LeadsBack (replicate n none) ys
leads_nowhere n ys i lt some = absurd (some (get_or-replicate n i none 0 (omega (arith, length-replicate n none))))

pub empty_mates : (m n : ℕ) (xs ys : List ℕ) → xs ≡ replicate n none → ys ≡ replicate m none → n < 2 ^ 32 → m < 2 ^ 32 → AreMates xs ys 0
empty_mates m n xs ys e f few_cols few_rows = subst (λ v. AreMates v ys 0) (sym e) (subst (λ w. AreMates (replicate n none) w 0) (sym f) (record {
  few_cols = omega (arith, length-replicate n none);
  few_rows = omega (arith, length-replicate m none);
  by_col = leads_nowhere n (replicate m none);
  by_row = leads_nowhere m (replicate n none);
  count = sym (ap length (no_pairs 0 n));
}))

pub empty_shown : (m n : ℕ) (xs ys : List ℕ) → xs ≡ replicate n none → ys ≡ replicate m none → shown xs ys ≡ record { rows = m; cols = n; pairs = [] }
empty_shown m n xs ys e f = λ i. record { rows = (ap length f ∙ length-replicate m none) i; cols = (ap length e ∙ length-replicate n none) i; pairs = (ap pairs_of e ∙ no_pairs 0 n) i }
