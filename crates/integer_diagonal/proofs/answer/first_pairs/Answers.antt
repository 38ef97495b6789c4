use Rattle.integer_diagonal.proofs.FairnessLemmas.{free_candidate}
use Rattle.integer_diagonal.specs.Duals.{priced}
use Rattle.integer_diagonal.proofs.answer.first_pairs.Goals as goal

pub is_fair-requires-clause-candidate : goal.is_fair-requires-clause-candidate
is_fair-requires-clause-candidate g c =
    free_candidate (priced c.args.weights.now c.args.assignment) c.args.assignment.matching c.args.full c.requires.assignment c.requires.empty
    c.requires.matching
