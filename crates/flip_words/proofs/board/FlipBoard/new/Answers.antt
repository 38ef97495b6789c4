use Rattle.std.proofs.Common.{◌≡◌, ◌∙◌, ◌+◌, ◌++◌, ℕ, length, sym, subst}
use Rattle.std.proofs.lemmas.List.{length-append}
use Rattle.flip_words.specs.Board.{IsOpenedFrom}
use Rattle.flip_words.specs.OpenedBoards.{AreOpening}
use Rattle.flip_words.specs.Rule.{opened_in}
use Rattle.flip_words.specs.Stored.{board_in}
use Rattle.flip_words.proofs.Opened.{laid_board, laid_opening}
use Rattle.flip_words.proofs.board.FlipBoard.new.Goals as goal

pub open-requires : goal.open-requires
open-requires c =
    let many : length (c.args.row_tree.now ++ c.args.col_tree.now) ≡ c.args.matching.now.rows + c.args.matching.now.cols = length-append c.args.row_tree.now c.args.col_tree.now ∙ (λ i. c.requires.row_tree.as_many i + c.requires.col_tree.as_many i) in
    subst (λ (p : ℕ × ℕ). AreOpening p.0 p.1 c.in_ok-words.words.items) (λ i. (sym c.rows.ensures.count i, sym c.cols.ensures.count i)) (laid_opening c.args.matching.now (c.args.row_tree.now ++ c.args.col_tree.now) c.in_ok-words.words.items c.in_ok-words.ensures many)

pub returns-clause-board : goal.returns-clause-board
returns-clause-board c =
    let many : length (c.args.row_tree.now ++ c.args.col_tree.now) ≡ c.args.matching.now.rows + c.args.matching.now.cols = length-append c.args.row_tree.now c.args.col_tree.now ∙ (λ i. c.requires.row_tree.as_many i + c.requires.col_tree.as_many i) in
    subst (IsOpenedFrom c.args.matching.now (c.args.row_tree.now ++ c.args.col_tree.now)) (sym (c.in_ok-board.ensures.board ∙ (λ i. board_in c.in_ok-board.board.id (opened_in (c.rows.ensures.count i) (c.cols.ensures.count i) c.in_ok-words.words.items))))
    (laid_board c.args.matching.now (c.args.row_tree.now ++ c.args.col_tree.now) c.in_ok-words.words.items c.in_ok-words.ensures many c.in_ok-board.board.id)
