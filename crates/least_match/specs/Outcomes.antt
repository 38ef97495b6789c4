-- The parts of columns, and what a search comes to.
use Rattle.std.specs.Prelude.{◌≡◌, ℕ, ◌<◌, List, length, slice_index_or}
use Rattle.bip_defs.specs.Lists.{Among}
use Rattle.bip_defs.specs.Matrix.{Matrix, Place, cols}
use Rattle.bip_defs.specs.Parts.{IsHorizontalCol, IsVerticalCol}
use Rattle.bip_defs.specs.Queues.{Queue, at}
use Rattle.least_match.specs.Exchanges.{Meets}
use Rattle.least_match.specs.Trees.{IsScanned, IsScannedBack}
use Rattle.least_match.specs.declared.parts.ColPart.{ColPart}
use Rattle.least_match.specs.declared.parts.ColPart.TheVariants.{Horizontal, Square, Vertical}
use Rattle.least_match.specs.declared.search.Outcome.{Outcome}
use Rattle.least_match.specs.declared.search.Outcome.TheVariants.{BackwardEnds, ForwardEnds, Path}
use Rattle.least_match.specs.declared.search.Turn.{Turn}
use Rattle.least_match.specs.declared.search.Turn.TheVariants.{EndBackward, EndForward, GrowBackward, GrowForward}

-- the column lies in the part
abbrev pub IsIn : Matrix → ℕ → ColPart → Type 0
IsIn a c Horizontal = IsHorizontalCol a c
IsIn a c Vertical = IsVerticalCol a c
IsIn a c Square = (¬ IsHorizontalCol a c) × (¬ IsVerticalCol a c)

-- the part of each column
pub record AreParted (a : Matrix) (parts : List ColPart) : Type 0 where
  pub long : length parts ≡ cols a
  pub each : (c : ℕ) → c < cols a → IsIn a c (slice_index_or parts c Square)

-- the columns of the list have this part, and all others have the one that they had
pub record IsGiven (old : List ColPart) (part : ColPart) (xs : List ℕ) (new : List ColPart) : Type 0 where
  pub long : length new ≡ length old
  pub given : (c : ℕ) → Among c xs → slice_index_or new c Square ≡ part
  pub kept : (c : ℕ) → ¬ Among c xs → slice_index_or new c Square ≡ slice_index_or old c Square

-- the horizontal columns may be missed, so a forward tree that is complete shows nothing there
abbrev pub ForwardDecides : ColPart → Type 0
ForwardDecides Horizontal = ⊥
ForwardDecides Square = Unit {0}
ForwardDecides Vertical = Unit {0}

-- nor does a backward tree in the vertical part, of which rows may be missed
abbrev pub BackwardDecides : ColPart → Type 0
BackwardDecides Horizontal = Unit {0}
BackwardDecides Square = Unit {0}
BackwardDecides Vertical = ⊥

-- a tree ends where all of its columns were looked at and that decides, and only a tree with columns left grows
abbrev pub IsTurn : ColPart → ℕ → ℕ → ℕ → ℕ → Turn → Type 0
IsTurn part forward_done forward backward_done backward EndForward = (forward_done ≡ forward)
    × ForwardDecides part
IsTurn part forward_done forward backward_done backward EndBackward = (backward_done ≡ backward)
    × BackwardDecides part
IsTurn part forward_done forward backward_done backward GrowForward = forward_done < forward
IsTurn part forward_done forward backward_done backward GrowBackward = backward_done < backward

abbrev pub AreScanned : Matrix → List Place → List ℕ → ℕ → Queue → ℕ → Type 0
AreScanned a m classes j q n = (i : ℕ) → i < n → IsScanned a m classes j q (at q i).0

abbrev pub AreScannedBack : Matrix → List Place → List ℕ → ℕ → Queue → ℕ → Type 0
AreScannedBack a m classes j q n = (i : ℕ) → i < n → IsScannedBack a m classes j q (at q i).0

-- a path, or a tree that is complete, where no maximum matching misses a column of the class or none misses a row of it
abbrev pub EndsAs : Matrix → List Place → List ℕ → ℕ → Queue → Queue → Outcome → Type 0
EndsAs a m classes j forward backward (Path meeting) = Meets a m j forward backward meeting
EndsAs a m classes j forward backward ForwardEnds = (¬ IsHorizontalCol a j)
    × AreScanned a m classes j forward (length forward)
EndsAs a m classes j forward backward BackwardEnds = (¬ IsVerticalCol a j)
    × AreScannedBack a m classes j backward (length backward)
