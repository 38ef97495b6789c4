-- Which claims stay when a forest is renewed.
use Rattle.std.specs.Prelude.{ℕ, ◌<◌, Bool, false, List, Option, None, Some, filter, is_some, length, not, take}
use Rattle.bip_defs.specs.Lists.{Among, AreDistinct}
use Rattle.bip_defs.specs.Matching.{rows_of}
use Rattle.bip_defs.specs.Matrix.{Place}
use Rattle.forest_core.specs.Stored.{AreClaimRoots}
use Rattle.forest_core.specs.Tables.{AreAlike, Claimed, IsTableOf, beside}

-- whether a root has a leaf, where there is a root
abbrev pub root_has_leaf : List (Option ℕ) → Option ℕ → Bool
root_has_leaf leaf_of None = false
root_has_leaf leaf_of (Some x) = is_some (beside leaf_of x)

-- whether the root of the claimed row has no leaf
abbrev pub stays : List (Option ℕ) → List (Option ℕ) → Place → Bool
stays roots leaf_of p = not (root_has_leaf leaf_of (beside roots p.0))

-- the first n of the roots are those of the first n claims
abbrev pub AreFirstRoots : ℕ → List (Option ℕ) → List Place → List ℕ → Type 0
AreFirstRoots n roots claims xs = AreClaimRoots roots (take n claims) (take n xs)

abbrev pub kept : List (Option ℕ) → List (Option ℕ) → List Place → List Place
kept roots leaf_of claims = filter (stays roots leaf_of) claims

-- claims of distinct rows, which the table has with their columns, and of each the root, which is in
-- range of the table of leaves
pub record AreClaimsIn (claimed : Claimed) (leaf_of : List (Option ℕ)) (claims : List Place)
    (xs : List ℕ) : Type 0 where
  pub rows : (r c : ℕ) → Among (r, c) claims → r < length claimed.holders
  pub roots : AreClaimRoots claimed.roots claims xs
  pub in_range : (x : ℕ) → Among x xs → x < length leaf_of
  pub differ : AreDistinct (rows_of claims)
  pub holders : IsTableOf claims claimed.holders
  pub alike : AreAlike claimed
