-- How a forest is stored.
use Rattle.std.specs.Prelude.{◌≡◌, ◌↔◌, ℕ, ◌<◌, Bool, true, false, List, Option, Some, length, slice_index_or}
use Rattle.bip_defs.specs.Lists.{Among}
use Rattle.bip_defs.specs.Matrix.{Place, cols}
use Rattle.bip_graph.specs.Matching.{Pairing}
use Rattle.forest_core.specs.Current.{base_of}
use Rattle.forest_core.specs.Sound.{IsSound}
use Rattle.bip_defs.specs.Forest.{IsRootOfRow, RootOf, State}
use Rattle.forest_core.specs.Tables.{Claimed, IsTableOf, beside}

-- of each row the root of its tree, where the row is claimed
abbrev pub AreRowTrees : State → List (Option ℕ) → Type 0
AreRowTrees s roots = (r x : ℕ) → (beside roots r ≡ Some x) ↔ IsRootOfRow s.base s.claims x r

-- of each column the root of its tree, where the column is in the forest
abbrev pub AreColTrees : State → List (Option ℕ) → Type 0
AreColTrees s roots = (c x : ℕ)
    → (beside roots c ≡ Some x) ↔ ((c < cols s.matrix) × RootOf s.base s.claims x c)

-- the columns with a mark are those of the list
abbrev pub AreMarks : List ℕ → List Bool → Type 0
AreMarks xs marks = (x : ℕ) → (slice_index_or marks x false ≡ true) ↔ Among x xs

-- the claim at a place of the list has the root at the same place of the other list
abbrev pub HasRootAt : List (Option ℕ) → List Place → List ℕ → ℕ → Type 0
HasRootAt roots claims xs i = beside roots (slice_index_or claims i (0, 0)).0
    ≡ Some (slice_index_or xs i 0)

-- the list has the root of the claimed row at the same place as the claim
abbrev pub IsRootOfClaim : State → List ℕ → ℕ → Type 0
IsRootOfClaim s xs i =
    IsRootOfRow s.base s.claims (slice_index_or xs i 0) (slice_index_or s.claims i (0, 0)).0

-- of each claim its row's root, in the order of the claims
pub record AreClaimRoots (roots : List (Option ℕ)) (claims : List Place)
    (xs : List ℕ) : Type 0 where
  pub long : length xs ≡ length claims
  pub are : (i : ℕ) → i < length claims → HasRootAt roots claims xs i

-- by row the column that claimed it and its root, by claim its row's root, by column its leaf and
-- whether it is flipped
pub record Tables : Type 0 where
  pub claimed : Claimed
  pub claim_roots : List ℕ
  pub leaf_of : List (Option ℕ)
  pub marks : List Bool

pub record IsStored (s : State) (base : Pairing) (t : Tables) : Type 0 where
  pub sound : IsSound s
  pub base_is : base ≡ base_of s
  pub holders_long : length t.claimed.holders ≡ s.matrix.rows
  pub leaves_long : length t.leaf_of ≡ cols s.matrix
  pub marks_long : length t.marks ≡ cols s.matrix
  pub held : IsTableOf s.claims t.claimed.holders
  pub rooted : AreRowTrees s t.claimed.roots
  pub listed : AreClaimRoots t.claimed.roots s.claims t.claim_roots
  pub won : IsTableOf s.leaves t.leaf_of
  pub marked : AreMarks s.flipped t.marks
