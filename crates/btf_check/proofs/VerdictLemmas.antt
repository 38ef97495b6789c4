-- There is one verdict on bytes.
use Rattle.std.proofs.Common.{◌≡◌, ◌<◌, ◌⊎◌, ◌↔◌, ℕ, List, inl, inr, refl, ap}
use Rattle.std.proofs.lemmas.Bool.{cases_order}
use Rattle.bip_defs.specs.Matrix.{Matrix}
use Rattle.sp_pattern.specs.Stored.{IsPattern}
use Rattle.btf_check.specs.Verdicts.{IsFirst, IsMetBy, IsValid, IsVerdict}
use Rattle.btf_check.specs.declared.verdict.Verdict.{Verdict}
use Rattle.btf_check.specs.declared.verdict.Verdict.TheVariants.{Invalid, Valid}

-- there is one first number at which what is asked does not hold
one_first : (asked : ℕ → Type 0) (j k : ℕ) → IsFirst asked j → IsFirst asked k → j ≡ k
one_first asked j k one two = by (cases_order j k)
  where
    by : ((j ≡ k) ⊎ ((j < k) ⊎ (k < j))) → j ≡ k
    by (inl same) = same
    by (inr (inl less)) = absurd (one.fails (two.before j less))
    by (inr (inr more)) = absurd (two.fails (one.before k more))

-- what the law `no_reason_applies` says
abbrev pub ValidIsMet : Type 0
ValidIsMet = (a : Matrix) (bytes : List ℕ) → IsPattern a → ((k : ℕ) → IsMetBy a bytes k) ↔ IsValid a bytes

pub one_verdict : ValidIsMet → (a : Matrix) (bytes : List ℕ) (v w : Verdict) → IsPattern a → IsVerdict a bytes v → IsVerdict a bytes w → v ≡ w
one_verdict met a bytes Valid Valid fits one two = refl
one_verdict met a bytes Valid (Invalid k) fits one two = absurd (two.fails ((met a bytes fits).1 one k))
one_verdict met a bytes (Invalid k) Valid fits one two = absurd (one.fails ((met a bytes fits).1 two k))
one_verdict met a bytes (Invalid j) (Invalid k) fits one two = ap Invalid (one_first (IsMetBy a bytes) j k one two)
