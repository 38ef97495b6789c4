use Rattle.std.proofs.Common.{subst, sym}
use Rattle.pothen_fan.specs.Roots.{HoldRoots}
use Rattle.pothen_fan.proofs.Roots.{roots_hold}
use Rattle.pothen_fan.proofs.sweep.phase_from.Goals as goal

pub sweep-requires-clause-roots : goal.sweep-requires-clause-roots
sweep-requires-clause-roots g c = subst (HoldRoots (g.S.Side.matrix c.args.side.now) (g.F.Opposite.seen c.args.matching.now).pairs) (sym c.as_slice.ensures.value) (roots_hold _ _ _ c.in_ok-roots.ensures)
