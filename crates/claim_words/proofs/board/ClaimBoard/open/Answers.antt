use Rattle.std.proofs.Common.{◌∙◌, ap}
use Rattle.claim_words.proofs.Openings.{opens_laid, read_again}
use Rattle.claim_words.proofs.board.ClaimBoard.open.Goals as goal

pub of_words-requires : goal.of_words-requires
of_words-requires c = opens_laid _ _ _ _ _ _ c.in_ok-words.ensures.words c.in_ok-words.ensures.fit c.as_slice.ensures.value (ap (λ v. v.items) c.of.ensures)

pub returns-clause-board : goal.returns-clause-board
returns-clause-board c =
    let key = c.in_ok-table.ensures.5 in
    read_again _ _ _ _ (ap (λ k. k.rows) key) (ap (λ k. k.words.value.items) key ∙ ap (λ v. v.items) c.of.ensures ∙ c.in_ok-words.ensures.words)
