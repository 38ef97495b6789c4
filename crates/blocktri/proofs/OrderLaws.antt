-- In the orders of a square matrix of full rank it is block upper triangular.
use Rattle.std.proofs.Common.{◌≡◌, ◌∙◌, ℕ, suc, ◌+◌, ◌<◌, ◌≤◌, List, [], ◌∷◌, length, get_or, refl, sym, ap, arith, subst, length-append}
use Rattle.std.proofs.lemmas.List.{get_or_append_left}
use Rattle.bip_defs.specs.Blocks.{Block, all_cols, all_rows, block_at, no_block}
use Rattle.bip_defs.specs.Decomposition.{Decomposition}
use Rattle.bip_defs.specs.Lists.{Among}
use Rattle.bip_defs.specs.Matrix.{Matrix, Place, cols}
use Rattle.bip_defs.specs.Triangular.{diagonal_blocks}
use Rattle.bip_defs.proofs.Paired.{block_square}
use Rattle.bip_defs.proofs.Triangular.{upper_triangular}
use Rattle.bip_graph.specs.Answers.{orders_of}
use Rattle.bip_graph.specs.Orders.{rows_before}
use Rattle.blocktri.specs.BlockOrders.{IsInBlock, IsSquareOrder, IsUpperByBlocks}
use Rattle.blocktri.proofs.DiagonalOrderLemmas.{all_cols_once, all_same, before_shift, column_in_block, columns_of_blocks}
use Rattle.blocktri.proofs.WriteLemmas.{once_long}

-- a fine block is the diagonal block behind the horizontal part
behind : (d : Decomposition) (b : ℕ) → b < length d.blocks → block_at (diagonal_blocks d) (suc b) ≡ block_at d.blocks b
behind d b lt = get_or_append_left d.blocks (record { rows = d.parts.vertical_rows; cols = d.parts.vertical_cols } ∷ []) no_block b lt

module _ (a : Matrix) (d : Decomposition) (pairs : List Place) (rows old starts : List ℕ) (t : IsSquareOrder a d pairs rows old starts) where
  same : (b : Block) → Among b d.blocks → length b.rows ≡ length b.cols
  same b h = block_square a d b t.is_decomposition h

  in_order : (orders_of d).1 ≡ all_cols d.blocks
  in_order = columns_of_blocks a d pairs t.is_decomposition t.perfect

  -- the places of a block
  from_start : (b k : ℕ) → IsInBlock (length d.blocks) starts b k → rows_before d.blocks b ≤ k
  from_start b k here = omega (arith, here.from, here.block, t.starts_are.starts b (omega (arith, here.block)))

  to_end : (b k : ℕ) → IsInBlock (length d.blocks) starts b k → k < rows_before d.blocks (b + 1)
  to_end b k here = omega (arith, here.to, here.block, t.starts_are.starts (b + 1) (omega (arith, here.block)))

  pub upper : IsUpperByBlocks a (length d.blocks) rows (orders_of d).1 starts
  upper i j b c here there entry =
      let row = t.order.of_blocks b i here.block (from_start b i here) (to_end b i here) in
      let col = column_in_block d.blocks c j same there.block (from_start c j there) (to_end c j there) in
      let le : suc b ≤ suc c = (upper_triangular a d t.is_decomposition).entries (get_or rows i 0) (get_or (orders_of d).1 j 0) (suc b) (suc c) entry
      (subst (λ (x : Block). Among (get_or rows i 0) x.rows) (sym (behind d b here.block)) row)
      (subst (λ (x : Block). Among (get_or (orders_of d).1 j 0) x.cols) (sym (behind d c there.block)) (subst (λ (xs : List ℕ). Among (get_or xs j 0) (block_at d.blocks c).cols) (sym in_order) col)) in
      omega (arith, le)

  pub first_start : get_or starts 0 0 ≡ 0
  first_start = t.starts_are.starts 0 (omega arith) ∙ none_before d.blocks
    where
      none_before : (bs : List Block) → rows_before bs 0 ≡ 0
      none_before [] = refl
      none_before (b ∷ bs) = refl

  pub last_start : get_or starts (length d.blocks) 0 ≡ a.rows
  last_start =
      let once = all_cols_once a d pairs t.is_decomposition t.perfect in
      let at = t.starts_are.starts (length d.blocks) (omega arith) in
      let all = before_all d.blocks in
      omega (arith, at, all, all_same d.blocks same, once_long (cols a) (all_cols d.blocks) once, t.square)
    where
      before_all : (bs : List Block) → rows_before bs (length bs) ≡ length (all_rows bs)
      before_all [] = refl
      before_all (b ∷ bs) = before_shift b bs (length bs) ∙ ap (λ (n : ℕ). length b.rows + n) (before_all bs) ∙ sym (length-append b.rows (all_rows bs))
