-- Events: where each is legal, and what the forest is after it.
use Rattle.std.specs.Prelude.{◌≡◌, ℕ, suc, List, [], ◌∷◌, ◌++◌}
use Rattle.bip_defs.specs.Lists.{Among}
use Rattle.bip_defs.specs.Matching.{cols_of, rows_of}
use Rattle.bip_defs.specs.Matrix.{IsEntry, Place}
use Rattle.forest_core.specs.Current.{IsCurrent}
use Rattle.bip_defs.specs.Forest.{HasWon, InForest, IsRootOfRow, IsUsedUp, IsWon, RootOf, State, roots_of}
use Rattle.sp_ids.specs.declared.events.Event.{Event}
use Rattle.sp_ids.specs.declared.events.Event.TheVariants.{Claim, Win, Flip, Graft, Rebuild, Done}

-- every root with a leaf is flipped
abbrev pub AreFlipped : State → Type 0
AreFlipped s = (x : ℕ) → Among x (roots_of s.leaves) → Among x s.flipped

-- every row in which a column of the forest has an entry is claimed
abbrev pub IsClosed : State → Type 0
IsClosed s = (c : ℕ) → InForest s c → IsUsedUp s c

abbrev pub IsLegal : State → Event → Type 0
IsLegal s (Claim r c) = (¬ Among r (rows_of s.claims)) × IsEntry s.matrix r c × InForest s c
IsLegal s (Win x r) = (¬ Among x (cols_of s.base)) × (¬ Among x (roots_of s.leaves))
    × (¬ Among r (rows_of s.base)) × IsRootOfRow s.base s.claims x r
IsLegal s (Flip x) = Among x (roots_of s.leaves) × (¬ Among x s.flipped)
IsLegal s Graft = AreFlipped s
IsLegal s Rebuild = AreFlipped s
IsLegal s Done = (s.leaves ≡ []) × IsClosed s

-- the claims whose root has no leaf, in their order
pub data AreKept (s : State) : List Place → List Place → Type 0 where
  none : AreKept s [] []
  keeps : {ps qs : List Place} (p : Place) → (¬ IsWon s p.0) → AreKept s ps qs
      → AreKept s (p ∷ ps) (p ∷ qs)
  drops : {ps qs : List Place} (p : Place) → IsWon s p.0 → AreKept s ps qs → AreKept s (p ∷ ps) qs

-- the current matching becomes the base, with these claims, and no leaves and flipped roots
pub record IsRenewed (s t : State) : Type 0 where
  pub matrix : t.matrix ≡ s.matrix
  pub base : IsCurrent s t.base
  pub leaves : t.leaves ≡ []
  pub flipped : t.flipped ≡ []

-- what the forest is after an event
abbrev pub Becomes : State → Event → State → Type 0
Becomes s (Claim r c) t = t ≡ record s { claims = s.claims ++ (r, c) ∷ [] }
Becomes s (Win x r) t = t ≡ record s { leaves = s.leaves ++ (x, r) ∷ [] }
Becomes s (Flip x) t = t ≡ record s { flipped = s.flipped ++ x ∷ [] }
Becomes s Graft t = IsRenewed s t × AreKept s s.claims t.claims
Becomes s Rebuild t = IsRenewed s t × (t.claims ≡ [])
Becomes s Done t = t ≡ s

-- each event is legal in its turn, and this is the forest after them
abbrev pub Runs : State → List Event → State → Type 0
Runs s [] t = t ≡ s
Runs s (e ∷ es) t = IsLegal s e × (u : State) × Becomes s e u × Runs u es t

-- some events, each legal in its turn, lead from the one forest to the other
abbrev pub LeadsTo : State → State → Type 0
LeadsTo s t = (es : List Event) × Runs s es t

-- no events but claims and wins
abbrev pub AreClaimsAndWins : List Event → Type 0
AreClaimsAndWins [] = Unit {0}
AreClaimsAndWins (Claim r c ∷ es) = AreClaimsAndWins es
AreClaimsAndWins (Win x r ∷ es) = AreClaimsAndWins es
AreClaimsAndWins (Flip x ∷ es) = ⊥
AreClaimsAndWins (Graft ∷ es) = ⊥
AreClaimsAndWins (Rebuild ∷ es) = ⊥
AreClaimsAndWins (Done ∷ es) = ⊥

-- legal events lead from s to t, both have the same base matching and flipped roots, and what there
-- was in s there is in t
pub record Grows (s t : State) : Type 0 where
  pub legal : LeadsTo s t
  pub matrix : t.matrix ≡ s.matrix
  pub base : t.base ≡ s.base
  pub flipped : t.flipped ≡ s.flipped
  pub claims : (p : Place) → Among p s.claims → Among p t.claims
  pub leaves : (p : Place) → Among p s.leaves → Among p t.leaves
  pub inside : (c : ℕ) → InForest s c → InForest t c
  pub root : (x c : ℕ) → RootOf s.base s.claims x c → RootOf t.base t.claims x c
  pub row_won : (r : ℕ) → IsWon s r → IsWon t r
  pub won : (c : ℕ) → HasWon s c → HasWon t c
  pub used_up : (c : ℕ) → IsUsedUp s c → IsUsedUp t c

-- how many roots the events flip
abbrev pub flips : List Event → ℕ
flips [] = 0
flips (Flip x ∷ es) = suc (flips es)
flips (Claim r c ∷ es) = flips es
flips (Win x r ∷ es) = flips es
flips (Graft ∷ es) = flips es
flips (Rebuild ∷ es) = flips es
flips (Done ∷ es) = flips es
