-- What is told of the permutations, from what is found and written.
use Rattle.std.proofs.Common.{◌≡◌, ◌≢◌, ℕ, ◌+◌, ◌<◌, ◌≤◌, Bool, List, [], ◌∷◌, ◌++◌, Option, None, Result, Ok, Err, IsErrAnd, length, map, inl, inr, refl, arith, subst, sym, length-append}
use Rattle.std.proofs.lemmas.List.{length-map}
use Rattle.bip_defs.specs.Blocks.{Block, all_cols, all_rows}
use Rattle.bip_defs.specs.Decomposition.{Decomposition, IsDecompositionOf}
use Rattle.bip_defs.specs.Lists.{Among}
use Rattle.bip_defs.specs.Matrix.{Matrix, Place, cols, upto}
use Rattle.bip_defs.specs.Once.{ListsOnce}
use Rattle.bip_defs.proofs.Paired.{block_square}
use Rattle.bip_defs.proofs.Sets.{upto_length}
use Rattle.blocktri.specs.BlockForms.{decomposition_of}
use Rattle.bip_graph.specs.Orders.{rows_before}
use Rattle.blocktri.specs.Dmperm.{DmpermLists, HasPermutations, HavePermutedRoom, IsRoomForCuts, PermutedLists, TellsDmperm, TellsPermuted, cut_if, cuts_of}
use Rattle.bip_graph.specs.Matching.{IsMatchingOf, Pairing}
use Rattle.blocktri.specs.Answers.{AreRowsOf, Fills}
use Rattle.blocktri.specs.Compressed.{AreCompressed, CompressedLists, IsRoom, column_count, matrix_given, row_count}
use Rattle.blocktri.specs.Forms.{TellsIf}
use Rattle.blocktri.specs.Found.{HasColumnComponents, HasRowComponents, IsFoundOf, IsShapeOf, TellsFound, block_count}
use Rattle.blocktri.specs.declared.found.Found.{Found}
use Rattle.blocktri.specs.declared.found.Decomposed.{Decomposed}
use Rattle.blocktri.specs.declared.found.Decomposed.TheVariants.{Coarse, Fine}
use Rattle.blocktri.specs.Causes.{RefusesRightly}
use Rattle.blocktri.specs.declared.refusals.Refusal.{Refusal}
use Rattle.blocktri.specs.declared.refusals.Refusal.TheVariants.{Columns}
use Rattle.sp_pattern.specs.ColumnErrors.{IsColumnsError}
use Rattle.sp_pattern.specs.declared.columns.ColumnsError.{ColumnsError}
use Rattle.blocktri.specs.declared.sizes.Sizes.{Sizes}
use Rattle.blocktri.specs.declared.sizes.Wants.{Wants}
use Rattle.blocktri.proofs.CompressedLemmas.{given_cols, given_rows}
use Rattle.blocktri.proofs.DiagonalOrderLemmas.{all_same}
use Rattle.blocktri.proofs.FormLemmas.{components_told}
use Rattle.blocktri.proofs.WriteLemmas.{block_filled, once_long}

-- a refusal that stands for a fault of the lists, or for the memory
pub refused_as : {S : Type 0} (Fit : Type 0) (l : CompressedLists) (result : Result S Refusal) (error : ColumnsError) → IsErrAnd result (λ r. r ≡ Columns error) → Fit → IsColumnsError l.others l.starts l.ids error → RefusesRightly Fit l result
refused_as Fit l (Ok s) error is room cause = absurd is
refused_as Fit l (Err r) error is room cause = record { fit = tt; cause = rw is (room, cause) }

-- How many cuts there are.

-- blocks that each have a column have together as many
few_filled : (bs : List Block) → ((b : Block) → Among b bs → 1 ≤ length b.cols) → length bs ≤ length (all_cols bs)
few_filled [] some = omega arith
few_filled (b ∷ bs) some =
    let here = some b (inl refl) in
    let rest = few_filled bs (λ d h. some d (inr h)) in
    let sum = length-append b.cols (all_cols bs) in
    omega (arith, here, rest, sum)

few_cut : (xs : List ℕ) (at : ℕ) → (length (cut_if xs at) ≤ 1) × (length (cut_if xs at) ≤ length xs)
few_cut [] at = (omega arith, omega arith)
few_cut (x ∷ xs) at = (omega arith, omega arith)

-- three lists that have each number below n once
pub parts_long : (n : ℕ) (xs ys zs : List ℕ) → ListsOnce (λ x. x < n) (xs ++ (ys ++ zs)) → length xs + length ys + length zs ≡ n
parts_long n xs ys zs once =
    let all = once_long n (xs ++ (ys ++ zs)) once in
    let first = length-append xs (ys ++ zs) in
    let second = length-append ys zs in
    omega (arith, all, first, second)

-- they are no more than there are rows, or columns, and two more
pub cuts_fit : (a : Matrix) (d : Decomposition) (horizontal end : ℕ) → IsDecompositionOf a d → length d.parts.horizontal_rows + length (all_rows d.blocks) + length d.parts.vertical_rows ≡ a.rows
    → length d.parts.horizontal_cols + length (all_cols d.blocks) + length d.parts.vertical_cols ≡ cols a → (length (cuts_of d horizontal end) ≤ a.rows + 2) × (length (cuts_of d horizontal end) ≤ cols a + 2)
cuts_fit a d horizontal end is rows columns =
    let first = few_cut d.parts.horizontal_cols 0 in
    let last = few_cut d.parts.vertical_rows (horizontal + length (all_rows d.blocks)) in
    let f0 = first.0 in
    let f1 = first.1 in
    let l0 = last.0 in
    let l1 = last.1 in
    let blocks = few_filled d.blocks (λ b h. block_filled a d b is h) in
    let same = all_same d.blocks (λ b h. block_square a d b is h) in
    let starts : List ℕ = map (λ i. horizontal + rows_before d.blocks i) (upto (length d.blocks)) in
    let middle = length-map (upto (length d.blocks)) (λ i. horizontal + rows_before d.blocks i) in
    let count = upto_length 0 (length d.blocks) in
    let s1 = length-append (cut_if d.parts.horizontal_cols 0 ++ starts ++ cut_if d.parts.vertical_rows (horizontal + length (all_rows d.blocks))) (end ∷ []) in
    let s2 = length-append (cut_if d.parts.horizontal_cols 0 ++ starts) (cut_if d.parts.vertical_rows (horizontal + length (all_rows d.blocks))) in
    let s3 = length-append (cut_if d.parts.horizontal_cols 0) starts in
    (omega (arith, f0, f1, l0, l1, blocks, same, middle, count, s1, s2, s3, rows, columns), omega (arith, f0, f1, l0, l1, blocks, same, middle, count, s1, s2, s3, rows, columns))

-- so a list with room for them takes them
pub cuts_in_room : (rows columns count : ℕ) (xs : List ℕ) → IsRoomForCuts rows columns xs → (count ≤ rows + 2) × (count ≤ columns + 2) → length xs ≢ 0 → count ≤ length xs
cuts_in_room rows columns count xs (inl none) few wanted = absurd (wanted none)
cuts_in_room rows columns count xs (inr (inl by_rows)) few wanted = let f = few.0 in let e = by_rows.1 in omega (arith, f, e)
cuts_in_room rows columns count xs (inr (inr by_columns)) few wanted = let f = few.1 in let e = by_columns.1 in omega (arith, f, e)

-- room that the lists of the matrix give
pub room_given : (l : CompressedLists) (x : PermutedLists) → AreCompressed l → HavePermutedRoom (row_count l) (column_count l) x → HavePermutedRoom (matrix_given l).rows (cols (matrix_given l)) x
room_given l x right room = subst (λ m. HavePermutedRoom m (cols (matrix_given l)) x) (sym (given_rows l)) (subst (λ n. HavePermutedRoom (row_count l) n x) (sym (given_cols l)) room)

-- and that a matching of the matrix asks for
pub room_of_matching : (a : Matrix) (m : Pairing) (xs : List ℕ) → IsMatchingOf a m → IsRoom (cols a) xs → IsRoom m.cols xs
room_of_matching a m xs is room = subst (λ n. IsRoom n xs) (sym is.cols) room

-- What is told.

permuted_told : (a : Matrix) (wanted : Bool) (shape : Decomposed) (pairs : List Place) (count : Option ℕ) (old new : PermutedLists) → IsShapeOf a wanted shape → count ≡ block_count shape → HasPermutations a pairs shape old new
    → TellsIf wanted (TellsPermuted a pairs count old new) ((count ≡ None) × (new ≡ old))
permuted_told a wanted (Coarse parts) pairs count old new is known put = rw is.0 (known, put)
permuted_told a wanted (Fine d) pairs count old new is known put = rw is.0 (record {
  decomposition = decomposition_of d;
  is_decomposition = is.1.decomposition;
  count_is = known;
  permutations = put;
})

pub dmperm_told : (a : Matrix) (wants : Wants) (f : Found) (z : Sizes) (old new : DmpermLists) → IsFoundOf a wants f → TellsFound a f z → Fills old.row_of_column new.row_of_column (AreRowsOf f.matching.pairs new.row_of_column)
    → HasPermutations a f.matching.pairs f.shape old.permuted new.permuted → HasRowComponents a f.outer old.row_component new.row_component → HasColumnComponents a f.outer old.column_component new.column_component
    → TellsDmperm a wants z old new
dmperm_told a wants f z old new is sizes mates put rows columns = record {
  sizes = sizes.sizes;
  pairs = f.matching.pairs;
  maximum = is.maximum.maximum;
  diagonal = is.diagonal;
  mates = mates;
  blocks = permuted_told a wants.blocks f.shape f.matching.pairs z.blocks old.permuted new.permuted is.shape sizes.blocks put;
  components = components_told a wants.components f.outer z.components old.row_component new.row_component old.column_component new.column_component is.outer sizes.components rows columns;
}
