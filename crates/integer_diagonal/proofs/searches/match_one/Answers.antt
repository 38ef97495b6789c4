use Rattle.std.proofs.Common.{◌∙◌, not, ap, rules}
use Rattle.bip_defs.specs.Lists.{Among}
use Rattle.bip_defs.specs.Matrix.{Place}
use Rattle.bip_defs.proofs.Sets.{col_among}
use Rattle.integer_diagonal.proofs.AnswerLemmas.{mated_next, mated_same}
use Rattle.integer_diagonal.proofs.StartLemmas.{some_holds}
use Rattle.integer_diagonal.proofs.searches.match_one.Goals as goal

pub returns-else-not-found-clause-mated : goal.returns-else-not-found-clause-mated
returns-else-not-found-clause-mated g c =
    let new = c.extend.new in
    let e = c.in_ok-found.ensures in
    mated_next c.args.weights.now c.args.assignment.now new.assignment c.args.paths.now new.self c.args.col c.requires.mated e.extends.assignment e.extends.covered (e.found (search rules))

pub returns-else-is_none-clause-mated : goal.returns-else-is_none-clause-mated
returns-else-is_none-clause-mated g c =
    let n = c.args.col in
    let a = c.args.assignment.now in
    let (r, pair) = some_holds c.row_of.result (λ r. Among {X = Place} (r, n) a.matching.pairs) (c.is_none.ensures ∙ ap not c.if-is_none.false) c.row_of.ensures.found in
    mated_same c.args.weights.now a c.args.paths.now n c.requires.mated (col_among r n a.matching.pairs pair)
