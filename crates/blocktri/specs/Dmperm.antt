-- What is told of the permutations of a Dulmage-Mendelsohn decomposition.
use Rattle.std.specs.Prelude.{◌≡◌, ◌⊎◌, ℕ, ◌+◌, ◌-◌, ◌<◌, ◌≤◌, List, [], ◌∷◌, ◌++◌, drop, length, map, slice_index, Option, None, Some}
use Rattle.bip_defs.specs.Blocks.{all_cols, all_rows, block_at}
use Rattle.bip_defs.specs.Decomposition.{Decomposition, IsDecompositionOf}
use Rattle.bip_defs.specs.Lists.{Among, Lists}
use Rattle.bip_defs.specs.Matching.{IsMaximum, cols_of, rows_of}
use Rattle.bip_defs.specs.Matrix.{Matrix, Place, cols, upto}
use Rattle.bip_defs.specs.Once.{ListsOnce}
use Rattle.bip_defs.specs.Parts.{IsHorizontalCol, IsHorizontalRow, IsVerticalRow}
use Rattle.bip_graph.specs.Matching.{IsMaximumOf, Pairing}
use Rattle.bip_graph.specs.Orders.{rows_before}
use Rattle.blocktri.specs.Answers.{AreRowsOf, Fills, TellsSizes}
use Rattle.blocktri.specs.BlockForms.{IsBlockFormOf, decomposition_of}
use Rattle.blocktri.specs.Compressed.{CompressedLists, IsRoom, column_count, row_count}
use Rattle.blocktri.specs.Diagonal.{KeepsDiagonal}
use Rattle.blocktri.specs.Forms.{TellsIf}
use Rattle.blocktri.specs.OuterComponents.{TellsComponents}
use Rattle.blocktri.specs.Written.{IsPut}
use Rattle.blocktri.specs.declared.forms.BlockForm.{BlockForm}
use Rattle.blocktri.specs.declared.found.Decomposed.{Decomposed}
use Rattle.blocktri.specs.declared.found.Decomposed.TheVariants.{Coarse, Fine}
use Rattle.blocktri.specs.declared.permuted.Permuted.{Permuted}
use Rattle.blocktri.specs.declared.sizes.Sizes.{Sizes}
use Rattle.blocktri.specs.declared.sizes.Wants.{Wants}

-- the lists that the permutations and the cuts are written to
pub record PermutedLists : Type 0 where
  pub p : List ℕ
  pub q : List ℕ
  pub r : List ℕ
  pub s : List ℕ

abbrev pub permuted_lists : List ℕ → List ℕ → List ℕ → List ℕ → PermutedLists
permuted_lists p q r s = record { p = p; q = q; r = r; s = s }

-- and those of the matching and the components
pub record DmpermLists : Type 0 where
  pub permuted : PermutedLists
  pub row_of_column : List ℕ
  pub row_component : List ℕ
  pub column_component : List ℕ

abbrev pub dmperm_lists : List ℕ → List ℕ → List ℕ → List ℕ → List ℕ → List ℕ → List ℕ → DmpermLists
dmperm_lists p q r s row_of_column row_component column_component = record {
  permuted = permuted_lists p q r s;
  row_of_column = row_of_column;
  row_component = row_component;
  column_component = column_component;
}

-- room for the cuts of so many rows and columns: two more than the fewer of them, or none
abbrev pub IsRoomForCuts : ℕ → ℕ → List ℕ → Type 0
IsRoomForCuts rows columns xs = (length xs ≡ 0)
    ⊎ ((rows ≤ columns) × (length xs ≡ rows + 2)) ⊎ ((columns ≤ rows) × (length xs ≡ columns + 2))

-- the lists have room for each row and each column, and the cuts for those of both
pub record HavePermutedRoom (rows columns : ℕ) (x : PermutedLists) : Type 0 where
  pub p : IsRoom rows x.p
  pub q : IsRoom columns x.q
  pub r : IsRoomForCuts rows columns x.r
  pub s : IsRoomForCuts rows columns x.s

pub record HaveDmpermRoom (l : CompressedLists) (x : DmpermLists) : Type 0 where
  pub permuted : HavePermutedRoom (row_count l) (column_count l) x.permuted
  pub row_of_column : IsRoom (column_count l) x.row_of_column
  pub row_component : IsRoom (row_count l) x.row_component
  pub column_component : IsRoom (column_count l) x.column_component

-- the columns: those without a row, the other horizontal ones, those of the blocks, the vertical
-- ones
pub record IsColumnOrder (a : Matrix) (d : Decomposition) (pairs : List Place)
    (q : List ℕ) : Type 0 where
  pub unmatched : List ℕ
  pub matched : List ℕ
  pub unmatched_are : Lists (λ c. IsHorizontalCol a c × (¬ Among c (cols_of pairs))) unmatched
  pub matched_are : Lists (λ c. IsHorizontalCol a c × Among c (cols_of pairs)) matched
  pub q_is : q ≡ unmatched ++ matched ++ all_cols d.blocks ++ d.parts.vertical_cols
  pub once : ListsOnce (λ c. c < cols a) q

-- the rows: each is the mate of a column, behind the columns without a row; the rows without a
-- column stand at the end, rising
pub record IsRowOrderOf (a : Matrix) (d : Decomposition) (pairs : List Place)
    (q p : List ℕ) : Type 0 where
  pub once : ListsOnce (λ r. r < a.rows) p
  pub diagonal : (x : ℕ) → x < length pairs
      → Among (slice_index p x, slice_index q (cols a - length pairs + x)) pairs
  pub left_out : Lists (λ r. IsVerticalRow a r × (¬ Among r (rows_of pairs)))
      (drop (length pairs) p)
  -- the first rows are those of the horizontal part, and in the places of each block are the rows
  -- of that block
  pub horizontal : (x : ℕ) → x < length d.parts.horizontal_rows
      → IsHorizontalRow a (slice_index p x)
  pub of_blocks : (b k : ℕ) → b < length d.blocks → rows_before d.blocks b ≤ k
      → k < rows_before d.blocks (b + 1)
      → Among (slice_index p (length d.parts.horizontal_rows + k)) (block_at d.blocks b).rows

-- a cut, where there is something
abbrev pub cut_if : List ℕ → ℕ → List ℕ
cut_if [] at = []
cut_if (x ∷ xs) at = at ∷ []

-- where the horizontal part, each block and the vertical part begin, of those that there are, and
-- the end, counted on a side that has so many horizontal numbers
abbrev pub cuts_of : Decomposition → ℕ → ℕ → List ℕ
cuts_of d horizontal end = cut_if d.parts.horizontal_cols 0
    ++ map (λ i. horizontal + rows_before d.blocks i) (upto (length d.blocks))
    ++ cut_if d.parts.vertical_rows (horizontal + length (all_rows d.blocks)) ++ end ∷ []

abbrev pub row_cuts : Matrix → Decomposition → List ℕ
row_cuts a d = cuts_of d (length d.parts.horizontal_rows) a.rows

abbrev pub column_cuts : Matrix → Decomposition → List ℕ
column_cuts a d = cuts_of d (length d.parts.horizontal_cols) (cols a)

-- the permutations and the cuts of the decomposition
pub record ArePermutationsOf (a : Matrix) (d : Decomposition) (pairs : List Place)
    (old new : PermutedLists) : Type 0 where
  pub p : List ℕ
  pub q : List ℕ
  pub columns : IsColumnOrder a d pairs q
  pub rows : IsRowOrderOf a d pairs q p
  pub p_is : Fills old.p new.p (new.p ≡ p)
  pub q_is : Fills old.q new.q (new.q ≡ q)
  pub r_is : Fills old.r new.r (IsPut 0 (row_cuts a d) old.r new.r)
  pub s_is : Fills old.s new.s (IsPut 0 (column_cuts a d) old.s new.s)

-- the permutations and the cuts, and how many blocks there are
pub record TellsPermuted (a : Matrix) (pairs : List Place) (count : Option ℕ)
    (old new : PermutedLists) : Type 0 where
  pub decomposition : Decomposition
  pub is_decomposition : IsDecompositionOf a decomposition
  pub count_is : count ≡ Some (length decomposition.blocks)
  pub permutations : ArePermutationsOf a decomposition pairs old new

-- a maximum matching that keeps a full diagonal, and the rest as far as it is wanted
pub record TellsDmperm (a : Matrix) (wants : Wants) (z : Sizes) (old new : DmpermLists)
    : Type 0 where
  pub sizes : TellsSizes a z
  pub pairs : List Place
  pub maximum : IsMaximum a pairs
  pub diagonal : KeepsDiagonal a pairs
  pub mates : Fills old.row_of_column new.row_of_column (AreRowsOf pairs new.row_of_column)
  pub blocks : TellsIf wants.blocks (TellsPermuted a pairs z.blocks old.permuted new.permuted)
      ((z.blocks ≡ None) × (new.permuted ≡ old.permuted))
  pub components : TellsIf wants.components
      (TellsComponents a z.components old.row_component new.row_component old.column_component
      new.column_component)
      ((z.components ≡ None) × (new.row_component ≡ old.row_component)
      × (new.column_component ≡ old.column_component))

-- the form and a maximum matching of one matrix
pub record IsFormOf (a : Matrix) (f : BlockForm) (m : Pairing) : Type 0 where
  pub form : IsBlockFormOf a f
  pub maximum : IsMaximumOf a m

-- the permutations and the cuts of a decomposition
pub record IsPermutedOf (a : Matrix) (d : Decomposition) (pairs : List Place)
    (x : Permuted) : Type 0 where
  pub columns : IsColumnOrder a d pairs x.columns.items
  pub rows : IsRowOrderOf a d pairs x.columns.items x.rows.items
  pub row_cuts_are : x.row_cuts.items ≡ row_cuts a d
  pub column_cuts_are : x.column_cuts.items ≡ column_cuts a d

-- what is written of a shape: the permutations and the cuts of the decomposition; of the parts
-- alone nothing
abbrev pub HasPermutations : Matrix → List Place → Decomposed → PermutedLists → PermutedLists → Type 0
HasPermutations a pairs (Coarse parts) old new = new ≡ old
HasPermutations a pairs (Fine d) old new = ArePermutationsOf a (decomposition_of d) pairs old new

-- numbers for which P holds stand behind those of a list
pub record Grows (P : ℕ → Type 0) (old new : List ℕ) : Type 0 where
  pub added : List ℕ
  pub added_are : Lists P added
  pub joined : new ≡ old ++ added
