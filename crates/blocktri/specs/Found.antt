-- What is found of a matrix before anything is written.
use Rattle.std.specs.Prelude.{◌≡◌, ℕ, Bool, true, false, ◌<◌, ◌^◌, List, Option, None, Some, length}
use Rattle.bip_defs.specs.ConnectedComponents.{AreConnectedComponents}
use Rattle.bip_defs.specs.Decomposition.{Decomposition}
use Rattle.bip_defs.specs.Matrix.{Matrix}
use Rattle.bip_graph.specs.Answers.{orders_of}
use Rattle.bip_graph.specs.Decompositions.{HasParts, components_of}
use Rattle.bip_graph.specs.Matching.{IsMaximumOf}
use Rattle.bip_graph.specs.declared.answers.Components.{Components}
use Rattle.blocktri.specs.Answers.{AreBlockStarts, Fills, TellsSizes}
use Rattle.blocktri.specs.BlockForms.{IsBlockFormOf, decomposition_of}
use Rattle.blocktri.specs.Diagonal.{KeepsDiagonal}
use Rattle.blocktri.specs.Forms.{FormLists}
use Rattle.blocktri.specs.OuterComponents.{AreColumnComponents, AreCounts, AreRowComponents}
use Rattle.blocktri.specs.declared.sizes.ComponentCounts.{ComponentCounts}
use Rattle.blocktri.specs.declared.sizes.Sizes.{Sizes}
use Rattle.blocktri.specs.declared.found.Found.{Found}
use Rattle.blocktri.specs.declared.found.Decomposed.{Decomposed}
use Rattle.blocktri.specs.declared.found.Decomposed.TheVariants.{Coarse, Fine}
use Rattle.blocktri.specs.declared.sizes.Wants.{Wants}

-- the parts, or where the blocks are wanted the whole form
abbrev pub IsShapeOf : Matrix → Bool → Decomposed → Type 0
IsShapeOf a wanted (Coarse parts) = (wanted ≡ false) × HasParts a parts
IsShapeOf a wanted (Fine f) = (wanted ≡ true) × IsBlockFormOf a f

-- the components of the outer parts, where they are wanted
abbrev pub AreOuterOf : Matrix → Bool → Option Components → Type 0
AreOuterOf a wanted None = wanted ≡ false
AreOuterOf a wanted (Some c) = (wanted ≡ true) × AreConnectedComponents a (components_of c)
    × (length c.horizontal < 2 ^ 32) × (length c.vertical < 2 ^ 32)

-- a maximum matching that keeps a full diagonal, and what is wanted
pub record IsFoundOf (a : Matrix) (wants : Wants) (f : Found) : Type 0 where
  pub maximum : IsMaximumOf a f.matching
  pub diagonal : KeepsDiagonal a f.matching.pairs
  pub shape : IsShapeOf a wants.blocks f.shape
  pub outer : AreOuterOf a wants.components f.outer

-- how many blocks there are, where they are known
abbrev pub block_count : Decomposed → Option ℕ
block_count (Coarse parts) = None
block_count (Fine d) = Some (length d.blocks)

-- how many components there are, where they are known
abbrev pub AreOuterCounts : Option Components → Option ComponentCounts → Type 0
AreOuterCounts None counts = counts ≡ None
AreOuterCounts (Some c) counts = (found : ComponentCounts) × (counts ≡ Some found)
    × AreCounts (components_of c) found

-- the sizes of what is found
pub record TellsFound (a : Matrix) (f : Found) (s : Sizes) : Type 0 where
  pub sizes : TellsSizes a s
  pub blocks : s.blocks ≡ block_count f.shape
  pub components : AreOuterCounts f.outer s.components

-- the list has that order of the decomposition, where it is wanted; of the parts alone it is as it
-- was
abbrev pub HasOrder : (Decomposition → List ℕ) → Decomposed → List ℕ → List ℕ → Type 0
HasOrder order (Coarse parts) old new = new ≡ old
HasOrder order (Fine d) old new = Fills old new (new ≡ order (decomposition_of d))

-- and so with the starts of the blocks
abbrev pub HasStarts : Decomposed → List ℕ → List ℕ → Type 0
HasStarts (Coarse parts) old new = new ≡ old
HasStarts (Fine d) old new = Fills old new (AreBlockStarts d.blocks old new)

-- the list has the number of each row's component, where they are known and the list is wanted
abbrev pub HasRowComponents : Matrix → Option Components → List ℕ → List ℕ → Type 0
HasRowComponents a None old new = new ≡ old
HasRowComponents a (Some c) old new = Fills old new (AreRowComponents a (components_of c) new)

abbrev pub HasColumnComponents : Matrix → Option Components → List ℕ → List ℕ → Type 0
HasColumnComponents a None old new = new ≡ old
HasColumnComponents a (Some c) old new = Fills old new (AreColumnComponents a (components_of c) new)

-- the rows of the orders, and their columns
abbrev pub rows_in_order : Decomposition → List ℕ
rows_in_order d = (orders_of d).0

abbrev pub columns_in_order : Decomposition → List ℕ
columns_in_order d = (orders_of d).1

-- what is found stands in the lists
pub record IsInForm (a : Matrix) (f : Found) (old new : FormLists) : Type 0 where
  pub rows : HasOrder rows_in_order f.shape old.row_order new.row_order
  pub columns : HasOrder columns_in_order f.shape old.column_order new.column_order
  pub starts : HasStarts f.shape old.block_starts new.block_starts
  pub row_components : HasRowComponents a f.outer old.row_component new.row_component
  pub column_components : HasColumnComponents a f.outer old.column_component new.column_component
