use Rattle.std.proofs.Common.{◌≡◌, arith, subst, sym}
use Rattle.bip_defs.specs.Bottleneck.{IsFull}
use Rattle.bip_defs.specs.Matrix.{Matrix, cols}
use Rattle.bip_defs.proofs.FullMatchings.{long_full}
use Rattle.bip_graph.specs.Matching.{IsMaximumOf}
use Rattle.integer_diagonal.proofs.answer.heaviest.Goals as goal

pub heaviest_of_full-requires-clause-square : goal.heaviest_of_full-requires-clause-square
heaviest_of_full-requires-clause-square c = subst (λ (z : Matrix). z.rows ≡ cols z) (sym c.requires) (omega (arith, c.rows.ensures, c.cols.ensures, c.if-rows-cols.false))

pub heaviest_of_full-requires-clause-maximum : goal.heaviest_of_full-requires-clause-maximum
heaviest_of_full-requires-clause-maximum c = subst (λ (z : Matrix). IsMaximumOf z c.in_ok-maximum.maximum) (sym c.requires) c.in_ok-maximum.ensures.maximum

pub heaviest_of_full-requires-clause-full : goal.heaviest_of_full-requires-clause-full
heaviest_of_full-requires-clause-full c =
    let k = c.in_ok-maximum.ensures.maximum in
    subst (λ (z : Matrix). IsFull z c.in_ok-maximum.maximum.pairs) (sym c.requires) (long_full c.args.pattern.now c.in_ok-maximum.maximum.pairs (omega (arith, c.rows.ensures, c.cols.ensures, c.if-rows-cols.false)) k.matching.matching (omega (arith, c.size.ensures.size, c.cols-2.ensures, c.if-size-cols.false)))
