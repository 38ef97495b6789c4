-- The exchange of the paths of all roots with a leaf.
use Rattle.std.proofs.Common.{◌≡◌, ℕ, ◌+◌, List, length, sym, ap, subst, arith}
use Rattle.forest_core.specs.Events.{AreKept, drops, keeps, none}
use Rattle.bip_defs.specs.Forest.{IsSettled, State}
use Rattle.bip_defs.specs.Matrix.{Place}

-- a forest is settled whatever roots are flipped
pub flips_settled : (s t : State) (xs : List ℕ) → t ≡ record s { flipped = xs } → IsSettled s → IsSettled t
flips_settled s t xs e k = subst IsSettled (sym e) k

-- the base is larger by the number of leaves
pub leaves_added : (s t u : State) (xs : List ℕ) → t ≡ record s { flipped = xs } → length t.flipped ≡ length s.leaves → length u.base ≡ length t.base + length t.flipped → length u.base ≡ length s.base + length s.leaves
leaves_added s t u xs e flips size = let base = ap (λ (v : State). length v.base) e in omega (arith, size, base, flips)

-- which claims are kept does not depend on the roots that are flipped
pub kept_before : (s t : State) (xs : List ℕ) (qs : List Place) → t ≡ record s { flipped = xs } → AreKept t t.claims qs → AreKept s s.claims qs
kept_before s t xs qs e k = alike s.claims qs (subst (λ (u : State). AreKept u u.claims qs) e k)
  where
    alike : (ps rs : List Place) → AreKept (record s { flipped = xs }) ps rs → AreKept s ps rs
    alike _ _ none = none
    alike _ _ (keeps p out rest) = keeps p out (alike _ _ rest)
    alike _ _ (drops p won rest) = drops p won (alike _ _ rest)
