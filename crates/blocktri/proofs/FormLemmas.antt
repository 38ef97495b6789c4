-- What is told of a form, from what is found and written.
use Rattle.std.proofs.Common.{◌≡◌, ℕ, ◌+◌, ◌<◌, ◌^◌, Bool, List, Option, None, Some, subst, sym}
use Rattle.bip_defs.specs.Matrix.{Matrix, cols}
use Rattle.bip_graph.specs.Decompositions.{components_of}
use Rattle.blocktri.specs.BlockForms.{decomposition_of}
use Rattle.bip_graph.specs.declared.answers.Components.{Components}
use Rattle.blocktri.specs.Compressed.{AreCompressed, CompressedLists, IsRoom, column_count, matrix_given, row_count}
use Rattle.blocktri.specs.Forms.{FormLists, LeavesBlocks, TellsBlocks, TellsForm, TellsIf}
use Rattle.blocktri.specs.Found.{AreOuterCounts, AreOuterOf, HasColumnComponents, HasOrder, HasRowComponents, HasStarts, IsFoundOf, IsInForm, IsShapeOf, TellsFound, block_count, columns_in_order, rows_in_order}
use Rattle.blocktri.specs.OuterComponents.{TellsComponents}
use Rattle.blocktri.specs.declared.found.Found.{Found}
use Rattle.blocktri.specs.declared.found.Decomposed.{Decomposed}
use Rattle.blocktri.specs.declared.found.Decomposed.TheVariants.{Coarse, Fine}
use Rattle.blocktri.specs.declared.sizes.ComponentCounts.{ComponentCounts}
use Rattle.blocktri.specs.declared.sizes.Sizes.{Sizes}
use Rattle.blocktri.specs.declared.sizes.Wants.{Wants}
use Rattle.blocktri.proofs.CompressedLemmas.{count_small, given_cols, given_rows}

blocks_told : (a : Matrix) (wanted : Bool) (shape : Decomposed) (count : Option ℕ) (old new : FormLists) → IsShapeOf a wanted shape → count ≡ block_count shape
    → HasOrder rows_in_order shape old.row_order new.row_order → HasOrder columns_in_order shape old.column_order new.column_order → HasStarts shape old.block_starts new.block_starts
    → TellsIf wanted (TellsBlocks a count old new) (LeavesBlocks count old new)
blocks_told a wanted (Coarse parts) count old new is known rows columns starts = rw is.0 (record { count_is = known; rows = rows; columns = columns; starts = starts })
blocks_told a wanted (Fine d) count old new is known rows columns starts = rw is.0 (record {
  decomposition = decomposition_of d;
  is_decomposition = is.1.decomposition;
  count_is = known;
  rows = rows;
  columns = columns;
  starts = starts;
})

pub components_told : (a : Matrix) (wanted : Bool) (outer : Option Components) (counts : Option ComponentCounts) (old_rows rows old_columns columns : List ℕ) → AreOuterOf a wanted outer → AreOuterCounts outer counts
    → HasRowComponents a outer old_rows rows → HasColumnComponents a outer old_columns columns
    → TellsIf wanted (TellsComponents a counts old_rows rows old_columns columns) ((counts ≡ None) × (rows ≡ old_rows) × (columns ≡ old_columns))
components_told a wanted None counts old_rows rows old_columns columns are known of_rows of_columns = rw are (known, of_rows, of_columns)
components_told a wanted (Some c) counts old_rows rows old_columns columns are known of_rows of_columns = rw are.0 (record {
  components = components_of c;
  are_components = are.1;
  found = known.0;
  counts_are = known.1;
  counted = known.2;
  rows_are = of_rows;
  columns_are = of_columns;
})

pub form_told : (a : Matrix) (wants : Wants) (f : Found) (s : Sizes) (old new : FormLists) → IsFoundOf a wants f → TellsFound a f s → IsInForm a f old new → TellsForm a wants s old new
form_told a wants f s old new is sizes put = record {
  sizes = sizes.sizes;
  blocks = blocks_told a wants.blocks f.shape s.blocks old new is.shape sizes.blocks put.rows put.columns put.starts;
  components = components_told a wants.components f.outer s.components old.row_component new.row_component old.column_component new.column_component is.outer sizes.components put.row_components put.column_components;
}

-- room for each row, for each column, and for each column and one more of the matrix that is given
pub room_for_rows : (l : CompressedLists) (xs : List ℕ) → AreCompressed l → IsRoom (row_count l) xs → IsRoom (matrix_given l).rows xs
room_for_rows l xs right room = subst (λ n. IsRoom n xs) (sym (given_rows l)) room

pub room_for_columns : (l : CompressedLists) (xs : List ℕ) → AreCompressed l → IsRoom (column_count l) xs → IsRoom (cols (matrix_given l)) xs
room_for_columns l xs right room = subst (λ n. IsRoom n xs) (sym (given_cols l)) room

pub room_for_starts : (l : CompressedLists) (xs : List ℕ) → AreCompressed l → IsRoom (column_count l + 1) xs → IsRoom (cols (matrix_given l) + 1) xs
room_for_starts l xs right room = subst (λ n. IsRoom (n + 1) xs) (sym (given_cols l)) room

-- the matrix that is given is small
pub given_small : (l : CompressedLists) → AreCompressed l → ((matrix_given l).rows < 2 ^ 32) × (cols (matrix_given l) < 2 ^ 32)
given_small l right =
    (subst (λ n. n < 2 ^ 32) (sym (given_rows l)) (count_small l right).0, subst (λ n. n < 2 ^ 32) (sym (given_cols l)) (count_small l right).1)
