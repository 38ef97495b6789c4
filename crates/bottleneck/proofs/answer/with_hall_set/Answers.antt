use Rattle.sp_pattern.specs.Weights.{weight_at}
use Rattle.bottleneck.proofs.AnswerLemmas.{best_shown}
use Rattle.bottleneck.proofs.answer.with_hall_set.Goals as goal

pub returns : goal.returns
returns c = best_shown c.args.weights.now.matrix c.args.heavier.now.entries (weight_at c.args.weights.now) c.args.pairs.items c.args.heavier.now.maximum.pairs c.args.heavier.now.above c.in_ok-hall.hall.items c.requires.square c.requires.full c.requires.rising c.requires.least c.requires.heavier.entries c.requires.short c.in_ok-hall.ensures
