-- What is told of the block triangular form.
use Rattle.std.specs.Prelude.{◌≡◌, ℕ, ◌+◌, Bool, true, false, List, length, Option, None, Some}
use Rattle.bip_defs.specs.Decomposition.{Decomposition, IsDecompositionOf}
use Rattle.bip_defs.specs.Matrix.{Matrix}
use Rattle.bip_graph.specs.Answers.{orders_of}
use Rattle.blocktri.specs.Answers.{AreBlockStarts, Fills, TellsSizes}
use Rattle.blocktri.specs.Compressed.{CompressedLists, IsRoom, column_count, row_count}
use Rattle.blocktri.specs.OuterComponents.{TellsComponents}
use Rattle.blocktri.specs.declared.sizes.Sizes.{Sizes}
use Rattle.blocktri.specs.declared.sizes.Wants.{Wants}

-- the lists that a form is written to
pub record FormLists : Type 0 where
  pub row_order : List ℕ
  pub column_order : List ℕ
  pub block_starts : List ℕ
  pub row_component : List ℕ
  pub column_component : List ℕ

abbrev pub form_lists : List ℕ → List ℕ → List ℕ → List ℕ → List ℕ → FormLists
form_lists row_order column_order block_starts row_component column_component = record {
  row_order = row_order;
  column_order = column_order;
  block_starts = block_starts;
  row_component = row_component;
  column_component = column_component;
}

-- the lists have room for each row, each column, and each start and one more
pub record HaveFormRoom (l : CompressedLists) (x : FormLists) : Type 0 where
  pub row_order : IsRoom (row_count l) x.row_order
  pub column_order : IsRoom (column_count l) x.column_order
  pub block_starts : IsRoom (column_count l + 1) x.block_starts
  pub row_component : IsRoom (row_count l) x.row_component
  pub column_component : IsRoom (column_count l) x.column_component

-- the orders of the decomposition, where its blocks start, and how many there are
pub record TellsBlocks (a : Matrix) (count : Option ℕ) (old new : FormLists) : Type 0 where
  pub decomposition : Decomposition
  pub is_decomposition : IsDecompositionOf a decomposition
  pub count_is : count ≡ Some (length decomposition.blocks)
  pub rows : Fills old.row_order new.row_order (new.row_order ≡ (orders_of decomposition).0)
  pub columns : Fills old.column_order new.column_order
      (new.column_order ≡ (orders_of decomposition).1)
  pub starts : Fills old.block_starts new.block_starts
      (AreBlockStarts decomposition.blocks old.block_starts new.block_starts)

-- the orders and the starts are as they were, and no number of blocks is told
pub record LeavesBlocks (count : Option ℕ) (old new : FormLists) : Type 0 where
  pub count_is : count ≡ None
  pub rows : new.row_order ≡ old.row_order
  pub columns : new.column_order ≡ old.column_order
  pub starts : new.block_starts ≡ old.block_starts

-- what is not wanted is not told
abbrev pub TellsIf : Bool → Type 0 → Type 0 → Type 0
TellsIf true told left = told
TellsIf false told left = left

-- the form, as far as it is wanted
pub record TellsForm (a : Matrix) (wants : Wants) (s : Sizes) (old new : FormLists) : Type 0 where
  pub sizes : TellsSizes a s
  pub blocks : TellsIf wants.blocks (TellsBlocks a s.blocks old new)
      (LeavesBlocks s.blocks old new)
  pub components : TellsIf wants.components
      (TellsComponents a s.components old.row_component new.row_component old.column_component
      new.column_component)
      ((s.components ≡ None) × (new.row_component ≡ old.row_component)
      × (new.column_component ≡ old.column_component))
