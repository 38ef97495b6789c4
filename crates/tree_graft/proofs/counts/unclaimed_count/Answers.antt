use Rattle.std.proofs.Common.{List, ap, arith, length}
use Rattle.bip_defs.specs.Matrix.{Matrix, Place}
use Rattle.tree_graft.proofs.CountLemmas.{count_unclaimed}
use Rattle.tree_graft.proofs.counts.unclaimed_count.Goals as goal

pub overflow_cast-result : goal.overflow_cast-result
overflow_cast-result c = omega (arith, c.claims.ensures.trees.few, c.rows.ensures, ap (λ (a : Matrix). a.rows) c.pattern.ensures, ap (λ (ps : List Place). length ps) c.claims.ensures.claims)

pub overflow_sub-result : goal.overflow_sub-result
overflow_sub-result c = omega (arith, c.claims.ensures.trees.few, c.rows.ensures, ap (λ (a : Matrix). a.rows) c.pattern.ensures, ap (λ (ps : List Place). length ps) c.claims.ensures.claims)

pub returns : goal.returns
returns c = rw (c.rows.ensures, c.pattern.ensures, c.claims.ensures.claims) (count_unclaimed c.args.forest.now c.claims.ensures.trees)
