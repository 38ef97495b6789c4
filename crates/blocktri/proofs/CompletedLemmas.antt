-- What is told of a completed matching.
use Rattle.std.proofs.Common.{◌≡◌, ◌≢◌, ◌∙◌, ℕ, Bool, true, List, Option, None, Some, IfNone, IfSome, length, refl, subst, sym}
use Rattle.bip_defs.specs.Blocks.{Block, all_rows}
use Rattle.bip_defs.specs.Matrix.{Matrix}
use Rattle.bip_graph.specs.Matching.{Pairing}
use Rattle.blocktri.specs.Answers.{AreBlockStarts, AreRowsOf, Fills}
use Rattle.blocktri.specs.BlockOrders.{OrderLists}
use Rattle.blocktri.specs.PairedOrders.{AreCompletedBlocks, ArePairedBlocks, IsPairedColumnOrder, IsCompletedOf, TellsCompletedOrder, full_pairs}
use Rattle.blocktri.proofs.DiagonalOrderLemmas.{order_left}
use Rattle.blocktri.proofs.PairedLemmas.{paired_told}
use Rattle.filled_columns.specs.Completed.{Completes}

module _ (a : Matrix) (wanted : Bool) (m : Pairing) (completed : Option Pairing) (blocks : Option (List Block)) (is : IsCompletedOf a wanted m completed blocks) where
  -- the blocks that are found
  pub some_blocks : (bs : List Block) → blocks ≡ Some bs → (wanted ≡ true) × AreCompletedBlocks a m completed bs
  some_blocks bs e = subst (λ (o : Option (List Block)). IfSome o (λ ds. (wanted ≡ true) × AreCompletedBlocks a m completed ds)) e is.some

  pub full_blocks : (bs : List Block) (full : Pairing) → blocks ≡ Some bs → full ≡ full_pairs completed m → ArePairedBlocks a full bs
  full_blocks bs full e same = subst (λ (p : Pairing). ArePairedBlocks a p bs) (sym same) (some_blocks bs e).1.are_blocks

  -- what is told with the blocks
  pub told_with_blocks : (bs : List Block) (full : Pairing) (rank count : ℕ) (old new : OrderLists) → blocks ≡ Some bs → full ≡ full_pairs completed m → rank ≡ length m.pairs → count ≡ length bs
      → Fills old.row_of_column new.row_of_column (AreRowsOf m.pairs new.row_of_column) → Fills old.row_order new.row_order (new.row_order ≡ all_rows bs)
      → (ArePairedBlocks a full bs → Fills old.column_order new.column_order (IsPairedColumnOrder a bs full.pairs new.column_order)) → Fills old.block_starts new.block_starts (AreBlockStarts bs old.block_starts new.block_starts)
      → TellsCompletedOrder a wanted rank (Some count) old new
  told_with_blocks bs full rank count old new e same size number mates rows columns starts =
      let (wants, are) = some_blocks bs e in
      let whole = full_blocks bs full e same in
      record {
        square = is.square;
        pairs = m.pairs;
        maximum = is.maximum.maximum;
        rank_is = size;
        diagonal = is.diagonal;
        mates = mates;
        orders = rw wants (record {
          full = full;
          completes = subst (λ (p : Pairing). Completes a m.pairs p.pairs) (sym same) are.completes;
          blocks = count;
          count_is = refl;
          orders = paired_told a full bs count old new whole number rows (columns whole) starts;
        });
      }

  -- and without them
  pub told_without_blocks : (rank : ℕ) (old new : OrderLists) → blocks ≡ None → rank ≡ length m.pairs → Fills old.row_of_column new.row_of_column (AreRowsOf m.pairs new.row_of_column)
      → new.row_order ≡ old.row_order → new.column_order ≡ old.column_order → new.block_starts ≡ old.block_starts → TellsCompletedOrder a wanted rank None old new
  told_without_blocks rank old new e size mates rows columns starts = record {
    square = is.square;
    pairs = m.pairs;
    maximum = is.maximum.maximum;
    rank_is = size;
    diagonal = is.diagonal;
    mates = mates;
    orders = order_left wanted _ old new (subst (λ (o : Option (List Block)). IfNone o (wanted ≢ true)) e is.none) rows columns starts;
  }
