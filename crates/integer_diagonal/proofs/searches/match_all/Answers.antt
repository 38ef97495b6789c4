use Rattle.std.proofs.Common.{◌∙◌, arith, refl}
use Rattle.integer_diagonal.proofs.AnswerLemmas.{all_assigned}
use Rattle.integer_diagonal.specs.Duals.{priced}
use Rattle.integer_diagonal.proofs.searches.match_all.Goals as goal

pub returns-then-size-cols-clause-all : goal.returns-then-size-cols-clause-all
returns-then-size-cols-clause-all g c =
    let a = c.args.assignment.now in
    all_assigned (priced c.args.weights.now a) a.matching c.args.weights.now.matrix c.requires.assignment refl (omega (arith, c.size.ensures.size, c.cols.ensures, c.if-size-cols.true))

pub loop-col-preserved : goal.loop-col-preserved
loop-col-preserved g c = record { mated = c.in_ok-match_one.ensures.mated; top = c.in_ok-match_one.ensures.top ∙ c.loop-col.invariant.top }
