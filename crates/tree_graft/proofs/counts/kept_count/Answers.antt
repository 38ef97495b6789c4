use Rattle.std.proofs.Common.{◌≡◌, ◌+◌, ◌-◌, List, ap, arith, length, subst, sym}
use Rattle.bip_defs.specs.Matrix.{Matrix, Place, cols}
use Rattle.bip_graph.specs.Matching.{Pairing}
use Rattle.tree_graft.specs.Counts.{IsCountOf, IsKept}
use Rattle.tree_graft.proofs.CountLemmas.{count_kept, ends_few, freed_few, kept_few}
use Rattle.tree_graft.proofs.counts.kept_count.Goals.{After-leaves}
use Rattle.tree_graft.proofs.counts.kept_count.Goals as goal

pub overflow_cast-claimed : goal.overflow_cast-claimed
overflow_cast-claimed c = omega (arith, c.claims.ensures.trees.few, c.is_pattern.ensures.few_rows, ap (λ (a : Matrix). a.rows) c.pattern.ensures, ap (λ (ps : List Place). length ps) c.claims.ensures.claims)

pub overflow_sub-roots : goal.overflow_sub-roots
overflow_sub-roots c = omega (arith, ends_few c.args.forest.now c.claims.ensures.trees, c.size.ensures.size, ap (λ (p : Pairing). length p.pairs) c.base.ensures.base, c.cols.ensures, ap (λ (a : Matrix). cols a) c.pattern-2.ensures)

pub overflow_cast-roots : goal.overflow_cast-roots
overflow_cast-roots c = omega (arith, ends_few c.args.forest.now c.claims.ensures.trees, c.is_pattern.ensures.few_cols, ap (λ (a : Matrix). cols a) c.pattern.ensures, ap (λ (ls : List Place). length ls) c.leaves.ensures.leaves)

pub overflow_sub-roots-2 : goal.overflow_sub-roots-2
overflow_sub-roots-2 c = omega (arith, ends_few c.args.forest.now c.claims.ensures.trees, c.size.ensures.size, ap (λ (p : Pairing). length p.pairs) c.base.ensures.base, c.cols.ensures, ap (λ (a : Matrix). cols a) c.pattern-2.ensures, ap (λ (ls : List Place). length ls) c.leaves.ensures.leaves)

-- what is counted
kept : (c : After-leaves) → (c.cols.result - c.size.result - length c.leaves.result.now) + (length c.claims.result.now - c.args.freed) ≡ (cols c.args.forest.now.matrix - length c.args.forest.now.base - length c.args.forest.now.leaves) + (length c.args.forest.now.claims - c.args.freed)
kept c = omega (arith, ap (λ (ps : List Place). length ps) c.claims.ensures.claims, c.size.ensures.size, ap (λ (p : Pairing). length p.pairs) c.base.ensures.base, c.cols.ensures, ap (λ (a : Matrix). cols a) c.pattern-2.ensures, ap (λ (ls : List Place). length ls) c.leaves.ensures.leaves)

pub overflow_sub-result : goal.overflow_sub-result
overflow_sub-result c = omega (arith, freed_few c.args.forest.now c.args.freed c.requires.freed, ap (λ (ps : List Place). length ps) c.claims.ensures.claims)

pub overflow_add-result : goal.overflow_add-result
overflow_add-result c = omega (arith, kept c, kept_few c.args.forest.now _ (count_kept c.args.forest.now c.args.freed c.claims.ensures.trees c.requires.settled c.requires.freed), c.is_pattern.ensures.few_cols, ap (λ (a : Matrix). cols a) c.pattern.ensures)

pub returns : goal.returns
returns c = subst (IsCountOf (IsKept c.args.forest.now)) (sym (kept c)) (count_kept c.args.forest.now c.args.freed c.claims.ensures.trees c.requires.settled c.requires.freed)
