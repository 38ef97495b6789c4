use Rattle.std.proofs.Common.{subst, sym}
use Rattle.bip_defs.specs.Lists.{Among}
use Rattle.bip_defs.specs.Matching.{cols_of}
use Rattle.bip_defs.specs.Matrix.{Place}
use Rattle.bip_defs.proofs.Transposed.{turned_among, turned_rows}
use Rattle.bip_graph.proofs.opposite.ColOpposite.col_of.Goals as goal

pub returns-in-Some-clause-found : goal.returns-in-Some-clause-found
returns-in-Some-clause-found c = turned_among _ c.args.row c.args.matching.now.pairs (subst (λ r. Among {X = Place} (r, c.args.row) c.args.matching.now.pairs) (sym c.mate.view_is) (subst (λ x. Among {X = Place} (c.in-Some.mate, x) c.args.matching.now.pairs) c.row.view_is c.in-Some.ensures.found))

pub returns-in-None-clause-none : goal.returns-in-None-clause-none
returns-in-None-clause-none c = λ h. c.in-None.ensures.none (subst (λ x. Among x (cols_of c.args.matching.now.pairs)) (sym c.row.view_is) (subst (Among c.args.row) (turned_rows c.args.matching.now.pairs) h))
