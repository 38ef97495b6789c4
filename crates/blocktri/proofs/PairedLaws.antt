-- In the orders by pairs the matrix filled with them is block upper triangular.
use Rattle.std.proofs.Common.{◌≡◌, ◌≢◌, ℕ, suc, ◌+◌, ◌<◌, ◌≤◌, List, [], ◌∷◌, length, get_or, sym, arith, subst}
use Rattle.std.proofs.lemmas.List.{get_or_append_left}
use Rattle.bip_defs.specs.Blocks.{Block, block_at, no_block}
use Rattle.bip_defs.specs.Lists.{Among}
use Rattle.bip_defs.specs.Matrix.{IsEntry, Matrix}
use Rattle.bip_defs.specs.Triangular.{diagonal_blocks}
use Rattle.bip_defs.proofs.Triangular.{upper_triangular}
use Rattle.bip_graph.specs.Matching.{Pairing}
use Rattle.bip_graph.specs.Orders.{rows_before}
use Rattle.blocktri.specs.BlockOrders.{IsInBlock, IsUpperByBlocks, OrderLists}
use Rattle.blocktri.specs.PairedOrders.{HasAllLists, TellsPairedOrder}
use Rattle.blocktri.specs.SquareForms.{square_decomposition}
use Rattle.blocktri.proofs.PairedLemmas.{row_in_block}
use Rattle.filled_columns.specs.Filled.{filled}

module _ (a : Matrix) (m : Pairing) (count : ℕ) (old new : OrderLists) (t : TellsPairedOrder a m count old new) (all : HasAllLists old) where
  -- a fine block is the diagonal block behind the horizontal part
  behind : (b : ℕ) → b < length t.blocks → block_at (diagonal_blocks (square_decomposition a.rows t.blocks)) (suc b) ≡ block_at t.blocks b
  behind b lt = get_or_append_left t.blocks (record { rows = []; cols = [] } ∷ []) no_block b lt

  within : (b k : ℕ) → IsInBlock count new.block_starts b k → b < length t.blocks
  within b k here = let lt = here.block in let is = t.count_is in omega (arith, lt, is)

  from_start : (b k : ℕ) → IsInBlock count new.block_starts b k → rows_before t.blocks b ≤ k
  from_start b k here = let lt = within b k here in let at = here.from in let start = (t.starts.holds all.starts).starts b (omega (arith, lt)) in omega (arith, at, start)

  to_end : (b k : ℕ) → IsInBlock count new.block_starts b k → k < rows_before t.blocks (b + 1)
  to_end b k here = let lt = within b k here in let at = here.to in let start = (t.starts.holds all.starts).starts (b + 1) (omega (arith, lt)) in omega (arith, at, start)

  pub paired_upper : IsUpperByBlocks (filled a m.pairs) count new.row_order new.column_order new.block_starts
  paired_upper i j b c here there entry =
      let row = row_in_block t.blocks b i (within b i here) (from_start b i here) (to_end b i here) in
      let col = (t.columns.holds all.columns).of_blocks c j (within c j there) (from_start c j there) (to_end c j there) in
      let le : suc b ≤ suc c = (upper_triangular (filled a m.pairs) (square_decomposition a.rows t.blocks) t.are_blocks.decomposition).entries (get_or new.row_order i 0) (get_or new.column_order j 0) (suc b) (suc c) entry
      (subst (λ (x : Block). Among (get_or new.row_order i 0) x.rows) (sym (behind b (within b i here))) (subst (λ (xs : List ℕ). Among (get_or xs i 0) (block_at t.blocks b).rows) (sym (t.rows.holds all.rows)) row))
      (subst (λ (x : Block). Among (get_or new.column_order j 0) x.cols) (sym (behind c (within c j there))) col) in
      omega (arith, le)
