-- The first of some rules that is broken.
use Rattle.std.proofs.Common.{◌≡◌, Bool, true, false, List, [], ◌∷◌, ◌++◌, Some, None, refl}
use Rattle.mm_defs.specs.declared.kinds.Kind.{Kind}
use Rattle.mm_defs.specs.Faults.{Rule, first_kind}

-- where none of the first rules is broken, the others tell
pub first_none : (xs ys : List Rule) → first_kind xs ≡ None → first_kind (xs ++ ys) ≡ first_kind ys
first_none [] ys h = refl
first_none (x ∷ xs) ys h = by x.1 refl (first_none xs ys)
  where
    by : (b : Bool) → x.1 ≡ b → (first_kind xs ≡ None → first_kind (xs ++ ys) ≡ first_kind ys) → first_kind (x ∷ xs ++ ys) ≡ first_kind ys
    by true e ih = let n = rw e at h in absurd cc
    by false e ih = rw e (ih (rw e at h))

-- where one of the first rules is broken, the others tell nothing
pub first_some : (xs ys : List Rule) (k : Kind) → first_kind xs ≡ Some k → first_kind (xs ++ ys) ≡ Some k
first_some [] ys k h = absurd cc
first_some (x ∷ xs) ys k h = by x.1 refl (first_some xs ys k)
  where
    by : (b : Bool) → x.1 ≡ b → (first_kind xs ≡ Some k → first_kind (xs ++ ys) ≡ Some k) → first_kind (x ∷ xs ++ ys) ≡ Some k
    by true e ih = rw e (rw e at h)
    by false e ih = rw e (ih (rw e at h))
