use Rattle.std.proofs.Common.{sym, subst}
use Rattle.bip_defs.specs.Lists.{Among}
use Rattle.bip_defs.specs.Matrix.{Place}
use Rattle.bip_defs.proofs.Sets.{among_at}
use Rattle.integer_diagonal.proofs.answer.sum_of.Goals as goal

pub weight-requires : goal.weight-requires
weight-requires c = c.requires.entries c.index-pairs-k.result.0 c.index-pairs-k.result.1 (subst (λ (z : Place). Among z c.args.pairs.now) (sym c.index-pairs-k.is) (among_at c.args.pairs.now c.loop-k.k c.index-pairs-k.result c.loop-k-test.true))
