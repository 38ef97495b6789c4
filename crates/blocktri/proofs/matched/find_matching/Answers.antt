use Rattle.blocktri.specs.Compressed.{matrix_given}
use Rattle.blocktri.proofs.CompressedLemmas.{given_diagonal}
use Rattle.blocktri.proofs.MatchedLemmas.{search_told}
use Rattle.blocktri.proofs.matched.find_matching.Goals as goal

pub returns-then-matrix : goal.returns-then-matrix
returns-then-matrix g c =
    let l = c.args.matrix.now in
    search_told (matrix_given l) c.in_ok-pattern.pattern c.in_ok-matching.matching c.in_ok-matching.marks c.in_ok-pattern.ensures
    (λ full. let yes = c.is_diagonal_full.ensures.1 ((given_diagonal l).0 full) in let no = c.if-is_diagonal_full.false in absurd (cc)) c.in_ok-matching.ensures.maximum c.in_ok-matching.ensures.marks

pub returns-in_ok-matching-in-NotFound : goal.returns-in_ok-matching-in-NotFound
returns-in_ok-matching-in-NotFound g c =
    let l = c.args.matrix.now in
    search_told (matrix_given l) c.in_ok-pattern-in-NotFound.pattern c.in_ok-matching-in-NotFound.matching c.in_ok-matching-in-NotFound.marks c.in_ok-pattern-in-NotFound.ensures
    (λ full. let yes = c.is_diagonal_full.ensures.1 ((given_diagonal l).0 full) in let no = c.if-is_diagonal_full.false in absurd (cc)) c.in_ok-matching-in-NotFound.ensures.maximum c.in_ok-matching-in-NotFound.ensures.marks
