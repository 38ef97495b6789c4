use Rattle.std.proofs.Common.{subst, sym}
use Rattle.bip_defs.specs.Lists.{Among}
use Rattle.bip_defs.specs.Matching.{rows_of}
use Rattle.bip_defs.specs.Matrix.{Place}
use Rattle.bip_defs.proofs.Transposed.{turned_among, turned_cols}
use Rattle.bip_graph.proofs.opposite.ColOpposite.row_of.Goals as goal

pub returns-in-Some-clause-found : goal.returns-in-Some-clause-found
returns-in-Some-clause-found c = turned_among c.args.col _ c.args.matching.now.pairs (subst (λ x. Among {X = Place} (c.args.col, x) c.args.matching.now.pairs) (sym c.mate.view_is) (subst (λ x. Among {X = Place} (x, c.in-Some.mate) c.args.matching.now.pairs) c.col.view_is c.in-Some.ensures.found))

pub returns-in-None-clause-none : goal.returns-in-None-clause-none
returns-in-None-clause-none c = λ h. c.in-None.ensures.none (subst (λ x. Among x (rows_of c.args.matching.now.pairs)) (sym c.col.view_is) (subst (Among c.args.col) (turned_cols c.args.matching.now.pairs) h))
