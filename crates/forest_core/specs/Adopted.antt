-- Matchings that are kept beside the base until the base is renewed.
use Rattle.std.specs.Prelude.{◌≡◌, ◌≤◌, ℕ, List, Option, None, Some, length, take}
use Rattle.bip_defs.specs.Forest.{State}
use Rattle.bip_defs.specs.Matrix.{cols}
use Rattle.bip_graph.specs.Matching.{Pairing}
use Rattle.forest_core.specs.Current.{base_of}
use Rattle.forest_core.specs.Paths.{IsExchanged}
use Rattle.forest_core.specs.Sound.{IsSound}
use Rattle.forest_core.specs.Tables.{IsTableOf}
use Rattle.forest_core.specs.declared.adopted.Adopted.{Adopted}

-- in the matching the paths of the first so many flipped roots are exchanged
pub record HasExchanged (s : State) (flips : ℕ) (m : Pairing) : Type 0 where
  pub few : flips ≤ length s.flipped
  pub exchanged : IsExchanged s (take flips s.flipped) m

-- where a matching was adopted, it has the paths of so many flipped roots exchanged as it says
abbrev pub IsAdopted : State → Option Adopted → Type 0
IsAdopted s None = Unit {0}
IsAdopted s (Some a) = HasExchanged s a.flips a.matching

-- the adopted matching is the new one, with its number of roots; the old one stays where none was
-- adopted
abbrev pub Replaces : Option Adopted → Pairing → Pairing → ℕ → Type 0
Replaces None old new flips = (new ≡ old) × (flips ≡ 0)
Replaces (Some a) old new flips = (new ≡ a.matching) × (flips ≡ a.flips)

-- the base matching of a forest in which these roots are flipped, what was adopted, and its tables
pub record CanExchange (s : State) (m : Pairing) (adopted : Option Adopted)
    (holders leaf_of : List (Option ℕ)) (roots : List ℕ) : Type 0 where
  pub sound : IsSound s
  pub rows_long : length holders ≡ s.matrix.rows
  pub cols_long : length leaf_of ≡ cols s.matrix
  pub held : IsTableOf s.claims holders
  pub won : IsTableOf s.leaves leaf_of
  pub base : m ≡ base_of s
  pub adopted_is : IsAdopted s adopted
  pub roots_are : s.flipped ≡ roots
