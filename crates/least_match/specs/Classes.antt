-- Classes of columns that no exchange crosses.
use Rattle.std.specs.Prelude.{◌≡◌, ◌≢◌, ◌⊎◌, ℕ, ◌<◌, ◌≤◌, List, length, slice_index_or}
use Rattle.bip_defs.specs.Lists.{Among}
use Rattle.bip_defs.specs.Matrix.{Matrix, Place, cols}
use Rattle.bip_defs.specs.Parts.{IsHorizontalCol, IsVerticalCol}
use Rattle.least_match.specs.Extensions.{Extends}
use Rattle.least_match.specs.declared.parts.ColPart.{ColPart}
use Rattle.least_match.specs.declared.parts.ColPart.TheVariants.{Horizontal, Square, Vertical}

abbrev pub class_of : List ℕ → ℕ → ℕ
class_of classes c = slice_index_or classes c 0

-- whichever maximum matching agrees with m below column j, each row has its mate in the row's own class of the columns from j
-- on, and the columns of a class are of one part
pub record AreClasses (a : Matrix) (m : List Place) (j : ℕ) (classes : List ℕ)
    (count : ℕ) : Type 0 where
  pub long : length classes ≡ cols a
  pub below : (c : ℕ) → c < cols a → class_of classes c < count
  pub row_class : ℕ → ℕ
  pub stays : (n : List Place) → Extends a m j n → (r c : ℕ) → j ≤ c → Among (r, c) n
      → row_class r ≡ class_of classes c
  pub horizontal : (c d : ℕ) → c < cols a → d < cols a
      → class_of classes c ≡ class_of classes d → IsHorizontalCol a c → IsHorizontalCol a d
  pub vertical : (c d : ℕ) → c < cols a → d < cols a
      → class_of classes c ≡ class_of classes d → IsVerticalCol a c → IsVerticalCol a d

-- a column from j on of the class of j
pub record IsInTail (a : Matrix) (classes : List ℕ) (j c : ℕ) : Type 0 where
  pub from : j ≤ c
  pub within : c < cols a
  pub class : class_of classes c ≡ class_of classes j

-- a column before j, or of another class than j
abbrev pub IsOther : List ℕ → ℕ → ℕ → Type 0
IsOther classes j c = (c < j) ⊎ (class_of classes c ≢ class_of classes j)

-- the columns of the list have another class than they had, which is new, and all others keep theirs
pub record IsSplit (old : List ℕ) (count : ℕ) (xs : List ℕ) (new : List ℕ) : Type 0 where
  pub long : length new ≡ length old
  pub split : (c : ℕ) → Among c xs → class_of new c ≡ count
  pub kept : (c : ℕ) → ¬ Among c xs → class_of new c ≡ class_of old c

-- the number of the part's first class
abbrev pub number_of_part : ColPart → ℕ
number_of_part Horizontal = 0
number_of_part Square = 1
number_of_part Vertical = 2

-- the first n columns have the numbers of their parts
pub record HaveParts (parts : List ColPart) (n : ℕ) (classes : List ℕ) : Type 0 where
  pub long : length classes ≡ n
  pub each : (c : ℕ) → c < n → class_of classes c ≡ number_of_part (slice_index_or parts c Square)
